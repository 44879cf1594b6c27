-- Instances that are worked out with no law (specs/Instances), shown.
use Rattle.numbers.specs.Division.{div_up}
use Rattle.numbers.specs.Search.{least_from, least}
use Rattle.refusals.specs.Facts.{Shown}
use Rattle.refusals.specs.Numbers.{in_order, refusal_of}
use Rattle.refusals.proofs.FactLaws.{Shown-same}
use Rattle.curve.specs.Curves.{capacity, breakpoint}
use Rattle.curve.specs.Weather.{adjusted_speed, adjusted_capacity, adjusted_breakpoint, curve_under}
use Rattle.curve.specs.Speed.{fall_share_by, speed, shown_speed}
use Rattle.curve.specs.Service.{density, shown_density, density_limit, density_letter, letter_at, performance}
use Rattle.road.specs.FreeFlowSpeed.{uncapped_by, free_flow_speed_of}
use Rattle.road.specs.Refusals.{weather_unfit, road_refusals, load_refusals, field_refusals}
use Rattle.method.specs.Refusals.{speed_refusals, refusals}
use Rattle.method.specs.Checked.{curve_of}
use Rattle.method.specs.Flow.{heavy_factor_of, flow_rate_of}
use Rattle.method.specs.Assess.{measures}
use Rattle.answer.specs.Volumes.{meets}
use Rattle.forecast.specs.Forecasts.{every_within, every_combination, some_combination, best_letter, worst_letter, range_refusals}
use Rattle.forecast.specs.Forecasts.{forecast_refusals}
use Rattle.forecast.specs.Instances.{computed_instances, refusal_instances}

-- the best and the worst letter by their definitions
pub computed-shown : Shown computed_instances
unfolding div_up least_from least uncapped_by free_flow_speed_of weather_unfit road_refusals load_refusals field_refusals adjusted_speed speed_refusals
    refusals capacity breakpoint adjusted_capacity adjusted_breakpoint curve_under curve_of heavy_factor_of flow_rate_of fall_share_by speed shown_speed
    density shown_density density_limit density_letter letter_at performance measures meets every_within every_combination some_combination
    best_letter worst_letter computed_instances
computed-shown = Shown-same computed_instances tt

-- the order of the refusals
pub refusals-shown : Shown refusal_instances
unfolding in_order refusal_of uncapped_by free_flow_speed_of weather_unfit road_refusals load_refusals adjusted_speed speed_refusals range_refusals
    forecast_refusals refusal_instances
refusals-shown = Shown-same refusal_instances tt
