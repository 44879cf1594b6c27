-- What a reader of the lent answers is promised, over what the lent numbers hold after the call of C, by its
-- law `DayCallIsTheDay`; the functions of src/promises.rt ensure each.
use Rattle.std.specs.Prelude.{◌≡◌, ◌↔◌, ◌⊎◌, List, ◌++◌, ℕ, ◌*◌, ◌≤◌, ◌<◌, length, take, drop, get_or, Result}
use Rattle.road.specs.declared.Case.{Case}
use Rattle.road.specs.Cases.{with_demand}
use Rattle.refusals.specs.declared.Refusal.{Refusal}
use Rattle.answer.specs.declared.evaluate.Grade.{Grade}
use Rattle.road.specs.Refusals.{greatest_demand}
use Rattle.method.specs.Refusals.{refusal}
use Rattle.answer.specs.Answers.{answer_to}
use Rattle.day.specs.Days.{most_demands, figure_count, answer_figures, day_figures, LentFits, day_content}

-- DAY-1, DAY-2: the twelve numbers of position i, counted from 0
abbrev pub position : ℕ → List ℕ → List ℕ
position i ns = take figure_count (drop (figure_count * i) ns)

-- DAY-2: the first number of position i: the refusal's, 0 for none
abbrev pub number_at : ℕ → List ℕ → ℕ
number_at i ns = get_or (position i ns) 0 0

-- DAY-2: the second number of position i: the letter's, 0 after a refusal
abbrev pub letter_number_at : ℕ → List ℕ → ℕ
letter_number_at i ns = get_or (position i ns) 1 0

-- DAY-1, CALL-5: the lent numbers afterwards are the answers of the single call with each demand, in order,
-- and then what stood there
abbrev pub DayIsTheSingleCalls : Type 0
DayIsTheSingleCalls =
    (case : Case) (demands old : List ℕ) → LentFits (length demands) (length old)
    → day_content case demands old ≡ day_figures case demands ++ drop (figure_count * length demands) old

-- DAY-1: position i holds what the single call answers with demand i
abbrev pub PositionHoldsTheAnswer : Type 0
PositionHoldsTheAnswer =
    (case : Case) (demands old : List ℕ) → LentFits (length demands) (length old)
    → (i : ℕ) → i < length demands
    → position i (day_content case demands old)
    ≡ answer_figures (answer_to (with_demand case (get_or demands i 0)))

-- DAY-2: twelve numbers are those of one answer only
abbrev pub FiguresTellTheAnswer : Type 0
FiguresTellTheAnswer = (a b : Result Grade Refusal) → answer_figures a ≡ answer_figures b → a ≡ b

-- DAY-3: what refuses the case with no demand, 0 where nothing does
abbrev pub road_number : Case → ℕ
road_number case = refusal (with_demand case 0)

-- DAY-3, REFUSAL-7: with a demand that 7 lets pass a position has the road's number; with one that 7 refuses
-- it has 7, but the road's number where that is 1 to 6
abbrev pub PositionNumbers : Type 0
PositionNumbers =
    (case : Case) (demands old : List ℕ) → LentFits (length demands) (length old)
    → (i : ℕ) → i < length demands
    → let demand = get_or demands i 0 in
    let number = number_at i (day_content case demands old) in
    (demand ≤ greatest_demand → number ≡ road_number case)
    × (greatest_demand < demand → (road_number case ≡ 0) ⊎ (7 < road_number case) → number ≡ 7)
    × (1 ≤ road_number case → road_number case ≤ 6 → number ≡ road_number case)

-- DAY-4, SHAPE-1: on an accepted road a position with more demand has no better a letter
abbrev pub NoBetterWithMoreDemand : Type 0
NoBetterWithMoreDemand =
    (case : Case) (demands old : List ℕ) → LentFits (length demands) (length old)
    → road_number case ≡ 0
    → (i j : ℕ) → i < length demands → j < length demands
    → get_or demands i 0 ≤ get_or demands j 0
    → get_or demands j 0 ≤ greatest_demand
    → letter_number_at i (day_content case demands old) ≤ letter_number_at j (day_content case demands old)

-- CALL-5, DAY-1: what is behind the positions keeps its content, and what is lent its length
abbrev pub PastTheDemandsKept : Type 0
PastTheDemandsKept =
    (case : Case) (demands old : List ℕ)
    → let past = figure_count * length demands in
    (drop past (day_content case demands old) ≡ drop past old)
    × (length (day_content case demands old) ≡ length old)

-- CALL-5, REFUSAL-18: 18 leaves every number as it was
abbrev pub RefusedDayChangesNothing : Type 0
RefusedDayChangesNothing =
    (case : Case) (demands old : List ℕ) → (LentFits (length demands) (length old) → ⊥)
    → day_content case demands old ≡ old

-- REFUSAL-18: 18 refuses exactly no demand, more than 24, and room for fewer answers than demands
abbrev pub LentFitsExactly : Type 0
LentFitsExactly =
    (n room : ℕ) → LentFits n room ↔ ((1 ≤ n) × (n ≤ most_demands) × (figure_count * n ≤ room))
