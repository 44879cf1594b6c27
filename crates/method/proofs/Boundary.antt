-- The figures of a case (specs/Boundary), shown.
use Rattle.std.proofs.Common.{◌≡◌, arith}
use Rattle.numbers.specs.Division.{div_up}
use Rattle.numbers.specs.Search.{starts_at}
use Rattle.refusals.specs.Facts.{Shown}
use Rattle.refusals.proofs.FactLaws.{Shown-append, Shown-same}
use Rattle.refusals.specs.Numbers.{in_order, refusal_of}
use Rattle.curve.specs.Power.{reaches_power, power}
use Rattle.curve.proofs.PowerLaws.{power-eq}
use Rattle.curve.specs.Curves.{capacity, breakpoint, curve_at}
use Rattle.curve.specs.Weather.{adjusted_speed, adjusted_capacity, adjusted_breakpoint, curve_under}
use Rattle.curve.specs.Speed.{fall_share_by, speed, shown_speed}
use Rattle.curve.specs.Service.{density, shown_density, density_limit, density_letter, letter_at, performance}
use Rattle.road.specs.Interpolation.{entry_before, entry_after, weighted_sum, interpolated}
use Rattle.road.specs.Adjustments.{lane_width_adjustment, per_missing_foot, right_clearance_row, right_clearance_adjustment}
use Rattle.road.specs.Adjustments.{total_clearance, total_clearance_row, total_clearance_adjustment, access_adjustment}
use Rattle.road.specs.FreeFlowSpeed.{estimated_by, uncapped_by, free_flow_speed_of}
use Rattle.road.specs.Refusals.{weather_unfit, road_refusals, load_refusals, field_refusals}
use Rattle.method.specs.Refusals.{speed_refusals, refusals}
use Rattle.method.specs.Checked.{curve_of}
use Rattle.method.specs.Flow.{heavy_factor_of, flow_rate_of}
use Rattle.method.specs.Assess.{measures}
use Rattle.road.specs.Boundary.{road_facts}
use Rattle.road.proofs.Boundary.{ramp-0, ramp-6, ramp-24, road-shown}
use Rattle.method.specs.Boundary.{section_facts, end_facts, weather_facts, order_facts, limit_facts, case_facts, boundary_facts}

-- power-500, power-1000: entries of the table of powers
pub power-500 : power 500 ≡ 403321
unfolding starts_at reaches_power
power-500 = power-eq 500 403321 (omega arith) tt

power-1000 : power 1000 ≡ 1000000
unfolding starts_at reaches_power
power-1000 = power-eq 1000 1000000 (omega arith) tt

-- those of a case
cases-shown : Shown case_facts
unfolding in_order refusal_of div_up entry_before entry_after weighted_sum interpolated lane_width_adjustment per_missing_foot
    right_clearance_row right_clearance_adjustment total_clearance total_clearance_row total_clearance_adjustment access_adjustment
    estimated_by uncapped_by free_flow_speed_of weather_unfit road_refusals load_refusals field_refusals speed_refusals refusals
    capacity breakpoint curve_at adjusted_speed adjusted_capacity adjusted_breakpoint curve_under curve_of heavy_factor_of flow_rate_of
    fall_share_by speed shown_speed density shown_density density_limit density_letter letter_at performance measures
    section_facts end_facts weather_facts order_facts limit_facts
cases-shown = Shown-same case_facts (simp (ramp-0, ramp-6, ramp-24, power-500, power-1000) tt)

-- each fact of the list is what is to be shown
pub boundary-shown : Shown boundary_facts
boundary-shown = Shown-append road_facts case_facts road-shown cases-shown
