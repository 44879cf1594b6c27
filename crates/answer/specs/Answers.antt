-- The answer to a case: its eleven figures, or the first refusal.
use Rattle.std.specs.Prelude.{ℕ, List, [], ◌∷◌, Result, Ok, Err}
use Rattle.refusals.specs.declared.Refusal.{Refusal}
use Rattle.refusals.specs.Numbers.{ok_unless}
use Rattle.road.specs.declared.Case.{Case}
use Rattle.method.specs.Refusals.{refusal}
use Rattle.curve.specs.Service.{letter_number}
use Rattle.method.specs.declared.accepted.Measures.{Measures}
use Rattle.method.specs.Assess.{measures}
use Rattle.answer.specs.declared.evaluate.Volumes.{Volumes}
use Rattle.answer.specs.declared.evaluate.Grade.{Grade}
use Rattle.answer.specs.Volumes.{service_volumes}

-- ANSWER-1: the grade of what a case gets and its service volumes
abbrev pub grade_of : Measures → Volumes → Grade
grade_of measures volumes =
    record {
      letter = measures.performance.letter;
      free_flow_speed = measures.curve.free_flow_speed;
      capacity = measures.curve.capacity;
      flow_rate = measures.flow_rate;
      speed = measures.performance.speed;
      density = measures.performance.density;
      volumes = volumes;
    }

-- ANSWER-1: the grade of a case
unfoldable pub graded : Case → Grade
graded case = grade_of (measures case) (service_volumes case)

-- ANSWER-1, ORDER-1, ORDER-2: the grade of a case, or the first of 1 to 9, 19 and 10 that refuses it
abbrev pub answer_to : Case → Result Grade Refusal
answer_to case = ok_unless (refusal case) (graded case)

-- ANSWER-1, FORM-10: the eleven figures in their order, the letter by its number; of a refusal no value
abbrev pub grade_figures : Result Grade Refusal → List ℕ
grade_figures (Ok g) =
    letter_number g.letter ∷ g.free_flow_speed ∷ g.capacity ∷ g.flow_rate ∷ g.speed ∷ g.density
    ∷ g.volumes.a ∷ g.volumes.b ∷ g.volumes.c ∷ g.volumes.d ∷ g.volumes.e ∷ []
grade_figures (Err r) = []
