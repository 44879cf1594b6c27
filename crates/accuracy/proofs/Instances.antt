-- The cases of specs/Instances with their answers.
use Rattle.std.proofs.Common.{◌≡◌, refl, ap, [], ◌∷◌, arith, le_of_eq, not-le_of_lt, lit<, lit≤, get_or}
use Rattle.numbers.specs.Division.{div_up}
use Rattle.curve.proofs.PowerTable.{power_table}
use Rattle.curve.proofs.PowerLaws.{power_table-at}
use Rattle.curve.specs.Curves.{capacity, breakpoint}
use Rattle.curve.specs.Weather.{adjusted_speed, adjusted_capacity, adjusted_breakpoint, curve_under}
use Rattle.curve.specs.Speed.{fall_share_by, speed, shown_speed}
use Rattle.curve.specs.Service.{density, shown_density, density_limit, density_letter, letter_at, performance}
use Rattle.road.specs.FreeFlowSpeed.{uncapped_by, free_flow_speed_of}
use Rattle.road.specs.Refusals.{weather_unfit, road_refusals, load_refusals, field_refusals}
use Rattle.method.specs.Refusals.{speed_refusals, refusals, Accepted}
use Rattle.method.specs.Checked.{curve_of}
use Rattle.method.specs.Flow.{heavy_factor_of, flow_rate_of}
use Rattle.method.specs.Assess.{measures}
use Rattle.answer.specs.Answers.{graded, answer_to}
use Rattle.accuracy.specs.Promises.{UpToCapacity}
use Rattle.accuracy.specs.Instances.{first_figures, farthest, AnswerToFarthest, at_capacity, AnswerAtCapacity, AnswerAboveCapacity}
use Rattle.accuracy.proofs.PromiseLaws.{answer-just-below, a-to-e-just-below}

accepted : Accepted farthest × Accepted at_capacity
unfolding uncapped_by free_flow_speed_of weather_unfit road_refusals load_refusals field_refusals adjusted_speed speed_refusals refusals
accepted = (refl, refl)

up-to-capacity : UpToCapacity (answer_to farthest) × UpToCapacity (answer_to at_capacity)
unfolding div_up uncapped_by free_flow_speed_of weather_unfit road_refusals load_refusals field_refusals adjusted_speed speed_refusals refusals capacity
    adjusted_capacity curve_under curve_of heavy_factor_of flow_rate_of measures graded
up-to-capacity = (lit≤ tt, lit≤ tt)

figures : (first_figures (answer_to farthest) ≡ 5 ∷ 69923 ∷ 230000 ∷ 2292 ∷ 51307 ∷ [])
    × (first_figures (answer_to at_capacity) ≡ 5 ∷ 65000 ∷ 230000 ∷ 2300 ∷ 51111 ∷ [])
unfolding power_table div_up uncapped_by free_flow_speed_of weather_unfit road_refusals load_refusals field_refusals adjusted_speed speed_refusals
    refusals capacity breakpoint adjusted_capacity adjusted_breakpoint curve_under curve_of heavy_factor_of flow_rate_of fall_share_by speed shown_speed
    density shown_density density_limit density_letter letter_at performance measures graded
figures = (simp (power_table-at 992 (omega arith)), simp (power_table-at 1000 (omega arith)))

pub answer-to-farthest : AnswerToFarthest
answer-to-farthest = (figures.0, up-to-capacity.0, answer-just-below farthest accepted.0 refl up-to-capacity.0)

pub answer-at-capacity : AnswerAtCapacity
answer-at-capacity =
    (figures.1, up-to-capacity.1, a-to-e-just-below at_capacity accepted.1 refl (le_of_eq (ap (λ ns. get_or ns 0 0) figures.1)))

pub answer-above-capacity : AnswerAboveCapacity
unfolding div_up uncapped_by free_flow_speed_of weather_unfit road_refusals load_refusals field_refusals adjusted_speed speed_refusals refusals capacity
    adjusted_capacity curve_under curve_of heavy_factor_of flow_rate_of shown_speed letter_at performance measures graded
answer-above-capacity = (refl, not-le_of_lt (lit< tt))
