-- Numbered refusals in an order, and an answer unless one is met.
use Rattle.std.specs.Prelude.{ℕ, Bool, if◌then◌else◌, ◌||◌, List, [], ◌∷◌, nat_lt, ◌==◌}

-- ORDER-1: a refusal's number, and whether it is met
pub record Condition : Type 0 where
  pub number : ℕ
  pub met : Bool

-- ORDER-1: refusal n, met where b is
abbrev pub refuses : ℕ → Bool → Condition
refuses n b = record { number = n; met = b }

-- ORDER-1: the number of the first of rs that is met, 0 where none is
abbrev pub first_refusal : List Condition → ℕ
first_refusal [] = 0
first_refusal (r ∷ rs) = if r.met then r.number else first_refusal rs

-- FORECAST-4: the first of rs, the first of ss, the second of rs and so on
abbrev pub by_turns : List Condition → List Condition → List Condition
by_turns [] ss = ss
by_turns (r ∷ rs) [] = r ∷ rs
by_turns (r ∷ rs) (s ∷ ss) = r ∷ s ∷ by_turns rs ss

-- ORDER-1: the answer where the number is 0, else what `refused` makes of the number
abbrev pub unless_refused : {A : Type 0} → ℕ → A → (ℕ → A) → A
unless_refused number answer refused = if number == 0 then answer else refused number

-- REFUSAL-1, REFUSAL-2, REFUSAL-6, REFUSAL-8, REFUSAL-13, REFUSAL-16, REFUSAL-18 to REFUSAL-20: n is below
-- low or above high
abbrev pub outside : ℕ → ℕ → ℕ → Bool
outside low high n = nat_lt n low || nat_lt high n
