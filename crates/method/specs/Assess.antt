-- What a case gets.
use Rattle.std.specs.Prelude.{ℕ, List, [], ◌∷◌, Result, Ok, Err}
use Rattle.refusals.specs.declared.Refusal.{Refusal}
use Rattle.curve.specs.Service.{letter_number, performance}
use Rattle.road.specs.declared.Case.{Case}
use Rattle.method.specs.declared.accepted.Measures.{Measures}
use Rattle.method.specs.Checked.{case_curve}
use Rattle.method.specs.Flow.{case_flow_rate}

-- ANSWER-1: the curve, flow rate and performance of a case
unfoldable pub measures : Case → Measures
measures case =
    record {
      curve = case_curve case;
      flow_rate = case_flow_rate case;
      performance = performance (case_curve case) (case_flow_rate case);
    }

-- ANSWER-1, FORM-10: letter, F, c, v, speed and density; of a refusal no value
abbrev pub measure_figures : Result Measures Refusal → List ℕ
measure_figures (Ok m) =
    letter_number m.performance.letter ∷ m.curve.free_flow_speed ∷ m.curve.capacity ∷ m.flow_rate
    ∷ m.performance.speed
    ∷ m.performance.density
    ∷ []
measure_figures (Err r) = []
