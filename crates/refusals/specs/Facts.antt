-- Figures: what the definitions give beside what is printed, in one list that each layer makes longer.
use Rattle.std.specs.Prelude.{◌≡◌, List, [], ◌∷◌, ℕ}

-- FIGURE-1: what the definitions give, and what is printed
pub record Fact : Type 0 where
  pub worked : List ℕ
  pub printed : List ℕ

-- FIGURE-1: the fact that the definitions give w where p is printed
abbrev pub fact : List ℕ → List ℕ → Fact
fact w p = record { worked = w; printed = p }

-- FIGURE-1: in each fact of the list, what the definitions give is what is printed
abbrev pub Shown : List Fact → Type 0
Shown [] = Unit {0}
Shown (f ∷ fs) = (f.worked ≡ f.printed) × Shown fs
