-- A test of every entry of a table, and of every number up to an end.
use Rattle.std.specs.Prelude.{Bool, true, ◌&&◌, List, [], ◌∷◌, ℕ, zero, suc}

-- UNIT-4: f passes at each entry of xs: it is handed the entry's place, counted from i, the entry before it,
-- `before` for the first, and the entry
abbrev pub every_from : (ℕ → ℕ → ℕ → Bool) → ℕ → ℕ → List ℕ → Bool
every_from f i before [] = true
every_from f i before (x ∷ xs) = f i before x && every_from f (suc i) x xs

-- UNIT-4: f passes at each entry of xs: it is handed the entry's place, counted from 0, the entry before it,
-- 0 for the first, and the entry
abbrev pub every_entry : (ℕ → ℕ → ℕ → Bool) → List ℕ → Bool
every_entry f xs = every_from f 0 0 xs

-- UNIT-4: p passes at each number from 0 to n
abbrev pub every_up_to : (ℕ → Bool) → ℕ → Bool
every_up_to p zero = p zero
every_up_to p (suc n) = p (suc n) && every_up_to p n
