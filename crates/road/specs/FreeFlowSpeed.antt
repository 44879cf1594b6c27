-- Free-flow speed F, in thousandths of mi/h, before the weather's factor.
use Rattle.std.specs.Prelude.{ℕ, ◌-◌, min}
use Rattle.curve.specs.declared.kind.Kind.{Kind}
use Rattle.road.specs.declared.Way.{Way}
use Rattle.road.specs.declared.Road.{Road}
use Rattle.curve.specs.Kinds.{highest_speed}
use Rattle.road.specs.Adjustments.{lane_width_adjustment, right_clearance_adjustment, total_clearance, total_clearance_adjustment}
use Rattle.road.specs.Adjustments.{median_adjustment, access_adjustment}
use Rattle.road.specs.RampTerm.{ramp_term}

-- FFS-2: the base speed less what is taken off, by the kind, with n lanes
unfoldable pub estimated_by : Kind → Road → ℕ → ℕ
estimated_by Kind.Freeway road n =
    road.speed - lane_width_adjustment road.lane_width - right_clearance_adjustment road.right_clearance n
    - ramp_term road.access
estimated_by Kind.Multilane road n =
    road.speed - lane_width_adjustment road.lane_width
    - total_clearance_adjustment n (total_clearance road.median road.right_clearance road.left_clearance)
    - median_adjustment road.median
    - access_adjustment road.access

-- FFS-2: the estimate of a road with n lanes
abbrev pub estimated_speed : Road → ℕ → ℕ
estimated_speed road n = estimated_by road.kind road n

-- FFS-1, CASE-1: the speed field, or the estimate, by the way
unfoldable pub uncapped_by : Way → Road → ℕ → ℕ
uncapped_by Way.Given road n = road.speed
uncapped_by Way.Estimated road n = estimated_speed road n

-- FFS-1: F of a road with n lanes, before its upper end
abbrev pub uncapped_speed : Road → ℕ → ℕ
uncapped_speed road n = uncapped_by road.way road n

-- FFS-1, FFS-10: F of a road with n lanes, at most the upper end
unfoldable pub free_flow_speed_of : Road → ℕ → ℕ
free_flow_speed_of road n = min (highest_speed road.kind) (uncapped_speed road n)
