-- Lists of numbers compared place by place.
use Rattle.std.specs.Prelude.{List, [], ◌∷◌, ℕ, ◌≤◌}

-- ANSWER-2: the lists have one length, and each number of ms is at most the one at its place in ns
abbrev pub AllAtMost : List ℕ → List ℕ → Type 0
AllAtMost [] [] = Unit {0}
AllAtMost [] (n ∷ ns) = ⊥
AllAtMost (m ∷ ms) [] = ⊥
AllAtMost (m ∷ ms) (n ∷ ns) = (m ≤ n) × AllAtMost ms ns
