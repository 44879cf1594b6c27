-- How far the shown multilane speed is below the manual's curve, stated over the definitions that the
-- contracts cite; the functions of src/promises.rt ensure it.
use Rattle.std.specs.Prelude.{◌≡◌, ◌↔◌, ℕ, ◌+◌, ◌*◌, ◌≤◌, get_or, Result}
use Rattle.refusals.specs.declared.Refusal.{Refusal}
use Rattle.curve.specs.declared.kind.Kind.TheVariants as Kind
use Rattle.curve.specs.Kinds.{lowest_speed, highest_speed}
use Rattle.curve.specs.Curves.{capacity, curve_at}
use Rattle.curve.specs.Speed.{shown_speed}
use Rattle.road.specs.declared.Case.{Case}
use Rattle.method.specs.Refusals.{Accepted}
use Rattle.answer.specs.declared.evaluate.Grade.{Grade}
use Rattle.answer.specs.Answers.{answer_to, grade_figures}
use Rattle.answer.specs.Promises.{letter_in}
use Rattle.accuracy.specs.ManualCurve.{AtMostManualCurve}

-- ACCURACY-2: the shown speed is less than this below the manual's curve, in thousandths of mi/h
abbrev pub tolerance : ℕ
tolerance = 26

-- ACCURACY-2: s is at most the manual's curve at f and v, and less than 26 below it: s + 26 is not at most it
abbrev pub JustBelowManualCurve : (f v s : ℕ) → Type 0
JustBelowManualCurve f v s = AtMostManualCurve f v s × (AtMostManualCurve f v (s + tolerance) → ⊥)

-- ACCURACY-2: the shown speed is just below the curve, for every F from 45,000 to 70,000 and every v with
-- 100v ≤ c
abbrev pub ShownSpeedJustBelow : Type 0
ShownSpeedJustBelow =
    (f v : ℕ) → lowest_speed Kind.Multilane ≤ f → f ≤ highest_speed Kind.Multilane
    → 100 * v ≤ capacity Kind.Multilane f
    → JustBelowManualCurve f v (shown_speed (curve_at Kind.Multilane f) v)

-- ANSWER-1: F in an answer, the second of its eleven figures
abbrev pub free_flow_speed_in : Result Grade Refusal → ℕ
free_flow_speed_in answer = get_or (grade_figures answer) 1 0

-- ANSWER-1: c in an answer, the third
abbrev pub capacity_in : Result Grade Refusal → ℕ
capacity_in answer = get_or (grade_figures answer) 2 0

-- ANSWER-1: v in an answer, the fourth
abbrev pub flow_rate_in : Result Grade Refusal → ℕ
flow_rate_in answer = get_or (grade_figures answer) 3 0

-- ANSWER-1: the speed in an answer, the fifth
abbrev pub speed_in : Result Grade Refusal → ℕ
speed_in answer = get_or (grade_figures answer) 4 0

-- ACCURACY-2: the speed in an answer is just below the manual's curve at the F and the v in it
abbrev pub JustBelowIn : Result Grade Refusal → Type 0
JustBelowIn answer = JustBelowManualCurve (free_flow_speed_in answer) (flow_rate_in answer) (speed_in answer)

-- LETTER-2: 100v ≤ c, of the v and the c in an answer
abbrev pub UpToCapacity : Result Grade Refusal → Type 0
UpToCapacity answer = 100 * flow_rate_in answer ≤ capacity_in answer

-- ACCURACY-2: the speed in the answer to an accepted multilane case is just below the curve, up to capacity
abbrev pub AnswerJustBelow : Type 0
AnswerJustBelow =
    (case : Case) → Accepted case → case.road.kind ≡ Kind.Multilane
    → UpToCapacity (answer_to case)
    → JustBelowIn (answer_to case)

-- LETTER-2, LETTER-1: an accepted case of either kind gets one of A to E exactly up to capacity
abbrev pub AToEUpToCapacity : Type 0
AToEUpToCapacity =
    (case : Case) → Accepted case → UpToCapacity (answer_to case) ↔ (letter_in (answer_to case) ≤ 5)

-- ACCURACY-2: the speed in the answer to an accepted multilane case is just below the curve, with a letter
-- from A to E
abbrev pub AToEJustBelow : Type 0
AToEJustBelow =
    (case : Case) → Accepted case → case.road.kind ≡ Kind.Multilane
    → letter_in (answer_to case) ≤ 5
    → JustBelowIn (answer_to case)

-- LETTER-2: above capacity the speed in the answer is 0; nothing is said of the curve there
abbrev pub NoSpeedAboveCapacity : Type 0
NoSpeedAboveCapacity =
    (case : Case) → Accepted case → (UpToCapacity (answer_to case) → ⊥) → speed_in (answer_to case) ≡ 0
