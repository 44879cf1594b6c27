-- The laws that specs/Laws states, proved: each by the law of the file beside its definition.
use Rattle.std.proofs.Common.{◌≡◌, ◌≤◌, min, arith}
use Rattle.road.specs.FreeFlowSpeed.{estimated_by}
use Rattle.road.specs.Laws.{StraightBetweenEntries, ClearancesAreWhole, RightClearanceByTenths, RampTermIsNearest, EstimateNeverBelowZero}
use Rattle.road.specs.Laws.{FreeFlowSpeedNeverFallsWithLanes, WeatherFitsExactly}
use Rattle.road.proofs.InterpolationLaws.{weighted_sum-between}
use Rattle.road.proofs.AdjustmentLaws.{right_clearance_adjustment-whole, right_clearance_adjustment-tenths}
use Rattle.road.proofs.AdjustmentLaws.{total_clearance_adjustment-whole}
use Rattle.road.proofs.RampLaws.{ramp_term-nearest}
use Rattle.road.proofs.RefusalLaws.{road-speed-low, weather-exactly}
use Rattle.road.proofs.FreeFlowSpeedLaws.{freeway_terms-le, multilane_terms-le, free_flow_speed_of-mono}

pub straight-between-entries : StraightBetweenEntries
straight-between-entries = weighted_sum-between

pub clearances-are-whole : ClearancesAreWhole
clearances-are-whole = (
  λ r n h. let e : min 60 r ≡ r = omega arith in rw e at (right_clearance_adjustment-whole r n),
  λ n s h. total_clearance_adjustment-whole n s,
)

pub right-clearance-by-tenths : RightClearanceByTenths
right-clearance-by-tenths = right_clearance_adjustment-tenths

pub ramp-term-is-nearest : RampTermIsNearest
ramp-term-is-nearest = ramp_term-nearest

pub estimate-never-below-zero : EstimateNeverBelowZero
unfolding estimated_by
estimate-never-below-zero road n z =
    let base : 30000 ≤ road.speed = road-speed-low road z in (
      λ f. rw f (omega (arith, freeway_terms-le road.lane_width road.right_clearance n road.access)),
      λ m. rw m (omega (arith, multilane_terms-le road n)),
    )

pub free-flow-speed-never-falls-with-lanes : FreeFlowSpeedNeverFallsWithLanes
free-flow-speed-never-falls-with-lanes = free_flow_speed_of-mono

pub weather-fits-exactly : WeatherFitsExactly
weather-fits-exactly = weather-exactly
