-- The greatest and the least number that pass a test.
use Rattle.std.specs.Prelude.{ℕ, zero, suc, ◌≤◌, Bool, if◌then◌else◌, not, ◌&&◌, T}

-- UNIT-4: the greatest number up to n that passes p; 0 where none does
unfoldable pub greatest : (ℕ → Bool) → ℕ → ℕ
greatest p zero = zero
greatest p (suc n) = let below = greatest p n in if p (suc n) then suc n else below

-- UNIT-4: the least of the n numbers from a on that passes p; a + n where none does
unfoldable pub least_from : (ℕ → Bool) → ℕ → ℕ → ℕ
least_from p a zero = a
least_from p a (suc n) = let after = least_from p (suc a) n in if p a then a else after

-- UNIT-4: the least number below n that passes p; n where none does
unfoldable pub least : (ℕ → Bool) → ℕ → ℕ
least p n = least_from p 0 n

-- UNIT-4: with a number every smaller one passes
abbrev pub DownwardClosed : (ℕ → Bool) → Type 0
DownwardClosed p = (m n : ℕ) → m ≤ n → T (p n) → T (p m)

-- UNIT-4: with a number every larger one passes
abbrev pub UpwardClosed : (ℕ → Bool) → Type 0
UpwardClosed p = (m n : ℕ) → m ≤ n → T (p m) → T (p n)

-- UNIT-4: s passes, and the next number fails
unfoldable pub ends_at : (ℕ → Bool) → ℕ → Bool
ends_at p s = p s && not (p (suc s))

-- UNIT-4: s passes, and the number before it, if there is one, fails
unfoldable pub starts_at : (ℕ → Bool) → ℕ → Bool
starts_at p zero = p zero
starts_at p (suc s) = p (suc s) && not (p s)
