-- A list of bytes, parted at each byte of one value.
use Rattle.std.specs.Prelude.{ℕ, suc, if◌then◌else◌, List, [], ◌∷◌, ◌==◌}

-- LINE-1, LOS-1: the parts ps with b in front of the first
unfoldable pub on_first : ℕ → List (List ℕ) → List (List ℕ)
on_first b [] = (b ∷ []) ∷ []
on_first b (p ∷ ps) = (b ∷ p) ∷ ps

-- LINE-1, LOS-1: the parts of bs between its bytes t: one more than it has bytes t
unfoldable pub parts : ℕ → List ℕ → List (List ℕ)
parts t [] = [] ∷ []
parts t (b ∷ bs) = if b == t then [] ∷ parts t bs else on_first b (parts t bs)

-- LINE-1, LOS-1: how many bytes stand before the first t, or all of them where there is none
unfoldable pub count_before : ℕ → List ℕ → ℕ
count_before t [] = 0
count_before t (b ∷ bs) = if b == t then 0 else suc (count_before t bs)
