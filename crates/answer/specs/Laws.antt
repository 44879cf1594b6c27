-- Laws of the answers, stated; proofs/Laws proves them.
use Rattle.std.specs.Prelude.{◌≡◌, ◌↔◌, ◌⊎◌, List, [], ◌∷◌, map, ℕ, ◌*◌, ◌≤◌}
use Rattle.numbers.specs.Bounds.{AllAtMost}
use Rattle.numbers.specs.Search.{greatest}
use Rattle.refusals.specs.Numbers.{refusal_number}
use Rattle.road.specs.declared.Case.{Case}
use Rattle.road.specs.Refusals.{greatest_demand, FieldsFit}
use Rattle.road.specs.Cases.{with_demand}
use Rattle.method.specs.Refusals.{refusal, Accepted}
use Rattle.answer.specs.Volumes.{meets, service_volume}
use Rattle.answer.specs.Answers as answers
use Rattle.answer.specs.Answers.{answer_to}
use Rattle.answer.specs.Lanes as lanes
use Rattle.answer.specs.Lanes.{lanes_refusals, lanes_answer}
use Rattle.answer.specs.Boundary.{refused_by19}

-- ANSWER-2: the most of letter, F, c, v, speed, density and service volumes A to E in an answer
-- A service volume keeps to capacity: 2,400 passenger cars on each of 8 lanes, for any greatest demand.
abbrev pub figure_ends : List ℕ
figure_ends =
    6 ∷ 75000 ∷ 240000 ∷ 6 * greatest_demand ∷ 75000 ∷ 450 ∷ 19200 ∷ 19200 ∷ 19200 ∷ 19200 ∷ 19200 ∷ []

-- ANSWER-2: no figure of an answer is above its end; TEXT-4 rests on it
abbrev pub FiguresWithinEnds : Type 0
FiguresWithinEnds =
    (case : Case) → Accepted case → AllAtMost (answers.grade_figures (answer_to case)) figure_ends

-- ANSWER-2, VOLUME-2: searched for up to any end from 19,200 to 999,999, the service volumes are the same; so
-- they are up to 99,999, an older reader's greatest demand (LINE-7)
abbrev pub VolumesUpToAnyEnd : Type 0
VolumesUpToAnyEnd =
    (case : Case) (n end : ℕ) → Accepted case → 1 ≤ n → n ≤ 5 → 19200 ≤ end → end ≤ greatest_demand
    → greatest (λ demand. meets (with_demand case demand) n) end ≡ service_volume case n

-- ORDER-1, ORDER-2, ANSWER-1: a case is refused with the number of the first of 1 to 9, 19 and 10 that it
-- breaks, and is answered where it breaks none
abbrev pub RefusedByTheList : Type 0
RefusedByTheList = (case : Case) → refusal_number (answer_to case) ≡ refusal case

-- ORDER-2, LANES-3: 19, the greatest number with which a case or a lanes question is refused
abbrev pub last_refusal : ℕ
last_refusal = 19

-- ORDER-2, LANES-3: no refusal of a case or of a lanes question has a number above 19
abbrev pub RefusalsWithinEnds : Type 0
RefusalsWithinEnds =
    (case : Case) (n : ℕ)
    → (refusal_number (answer_to case) ≤ last_refusal) × (refusal_number (lanes_answer case n) ≤ last_refusal)

-- ORDER-2, LANES-3, REFUSAL-19: a case and its lanes question are refused with 19
abbrev pub RefusalsReachEnds : Type 0
RefusalsReachEnds =
    (refusal_number (answer_to refused_by19) ≡ last_refusal)
    × (refusal_number (lanes_answer refused_by19 1) ≡ last_refusal)

-- LANES-3: the question's list has 16, 1 to 9, 19 and 14, in this order, for every case and letter number
abbrev pub LanesRefusalsInOrder : Type 0
LanesRefusalsInOrder =
    (case : Case) (n : ℕ)
    → map (λ r. r.number) (lanes_refusals case n) ≡ 16 ∷ 1 ∷ 2 ∷ 3 ∷ 4 ∷ 5 ∷ 6 ∷ 7 ∷ 8 ∷ 9 ∷ 19 ∷ 14 ∷ []

-- LANES-3: what refuses a case, 10 aside, refuses its lanes question with the same number, for A to E
abbrev pub LanesRefusedAsTheCase : Type 0
LanesRefusedAsTheCase =
    (case : Case) (n : ℕ) → 1 ≤ n → n ≤ 5
    → let number = refusal_number (answer_to case) in
    (number ≡ 0 → ⊥) → (number ≡ 10 → ⊥) → refusal_number (lanes_answer case n) ≡ number

-- LANES-3, REFUSAL-14: for A to E the fields of a case fit exactly when its lanes question is answered, or
-- refused with 14
abbrev pub NothingBut14RefusesFitFields : Type 0
NothingBut14RefusesFitFields =
    (case : Case) (n : ℕ) → 1 ≤ n → n ≤ 5
    → let number = refusal_number (lanes_answer case n) in
    FieldsFit case ↔ ((number ≡ 0) ⊎ (number ≡ 14))

-- LANES-1: a lane count is one digit
abbrev pub CountsAreDigits : Type 0
CountsAreDigits =
    (case : Case) (n count : ℕ) → lanes.lanes_figures (lanes_answer case n) ≡ count ∷ [] → count ≤ 9
