-- Three cases with their answers; proofs/Instances works the figures out, and that the speed is just below
-- the curve is by the promises.
use Rattle.std.specs.Prelude.{◌≡◌, List, [], ◌∷◌, ℕ, Result}
use Rattle.refusals.specs.declared.Refusal.{Refusal}
use Rattle.curve.specs.declared.kind.Kind.TheVariants as Kind
use Rattle.road.specs.declared.Case.{Case}
use Rattle.method.specs.Boundary.{given, two_lanes}
use Rattle.answer.specs.declared.evaluate.Grade.{Grade}
use Rattle.answer.specs.Answers.{answer_to}
use Rattle.answer.specs.Promises.{letter_in}
use Rattle.accuracy.specs.Promises.{free_flow_speed_in, capacity_in, flow_rate_in, speed_in, JustBelowIn, UpToCapacity}

-- ANSWER-1, ACCURACY-2: letter, F, c, v and speed of an answer
abbrev pub first_figures : Result Grade Refusal → List ℕ
first_figures answer =
    letter_in answer ∷ free_flow_speed_in answer ∷ capacity_in answer ∷ flow_rate_in answer ∷ speed_in answer
    ∷ []

-- ACCURACY-2: the answer to a case has these first figures, up to capacity, and its speed is just below the
-- curve
abbrev pub AnsweredJustBelow : Case → List ℕ → Type 0
AnsweredJustBelow case figures =
    (first_figures (answer_to case) ≡ figures)
    × UpToCapacity (answer_to case)
    × JustBelowIn (answer_to case)

-- ACCURACY-2: M G 69923 120 60 60 D 0 2 4584 1000 0 L: the farthest point that was found
abbrev pub farthest : Case
farthest = two_lanes (given Kind.Multilane 69923 120) 4584

-- ACCURACY-2: the case at the farthest point gets E, and its speed is just below the curve
abbrev pub AnswerToFarthest : Type 0
AnswerToFarthest = AnsweredJustBelow farthest (5 ∷ 69923 ∷ 230000 ∷ 2292 ∷ 51307 ∷ [])

-- ACCURACY-2: M G 65000 120 60 60 D 0 2 4600 1000 0 L
abbrev pub at_capacity : Case
at_capacity = two_lanes (given Kind.Multilane 65000 120) 4600

-- ACCURACY-2: the case at capacity, 100v = c, gets E, and its speed is just below the curve
abbrev pub AnswerAtCapacity : Type 0
AnswerAtCapacity = AnsweredJustBelow at_capacity (5 ∷ 65000 ∷ 230000 ∷ 2300 ∷ 51111 ∷ [])

-- LETTER-2: M G 65000 120 60 60 D 0 2 4601 1000 0 L
abbrev pub above_capacity : Case
above_capacity = two_lanes (given Kind.Multilane 65000 120) 4601

-- LETTER-2: the case above capacity gets F, and its speed is 0
abbrev pub AnswerAboveCapacity : Type 0
AnswerAboveCapacity =
    (first_figures (answer_to above_capacity) ≡ 6 ∷ 65000 ∷ 230000 ∷ 2301 ∷ 0 ∷ [])
    × (UpToCapacity (answer_to above_capacity) → ⊥)
