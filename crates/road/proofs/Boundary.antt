-- The figures of a road (specs/Boundary), shown.
use Rattle.std.proofs.Common.{◌≡◌, arith}
use Rattle.numbers.specs.Division.{div_up}
use Rattle.refusals.specs.Facts.{Shown}
use Rattle.refusals.proofs.FactLaws.{Shown-same}
use Rattle.road.specs.Interpolation.{entry_before, entry_after, weighted_sum, interpolated}
use Rattle.road.specs.Adjustments.{lane_width_adjustment, per_missing_foot, right_clearance_row, right_clearance_adjustment}
use Rattle.road.specs.Adjustments.{total_clearance, total_clearance_row, total_clearance_adjustment, access_adjustment}
use Rattle.road.specs.RampTerm.{is_ramp_term, ramp_term}
use Rattle.road.specs.FreeFlowSpeed.{estimated_by, uncapped_by, free_flow_speed_of}
use Rattle.road.specs.Boundary.{clearance_facts, ramp_facts, speed_facts, road_facts}
use Rattle.road.proofs.RampLaws.{ramp_term-eq}

-- ramp-0, ramp-6, ramp-24: entries of the table
pub ramp-0 : ramp_term 0 ≡ 0
unfolding is_ramp_term
ramp-0 = ramp_term-eq 0 0 (omega arith) tt

pub ramp-6 : ramp_term 6 ≡ 3220
unfolding is_ramp_term
ramp-6 = ramp_term-eq 6 3220 (omega arith) tt

pub ramp-24 : ramp_term 24 ≡ 10318
unfolding is_ramp_term
ramp-24 = ramp_term-eq 24 10318 (omega arith) tt

other-ramps : (ramp_term 1 ≡ 715) × (ramp_term 10 ≡ 4945) × (ramp_term 36 ≡ 14505) × (ramp_term 48 ≡ 18469)
unfolding is_ramp_term
other-ramps = (
  ramp_term-eq 1 715 (omega arith) tt,
  ramp_term-eq 10 4945 (omega arith) tt,
  ramp_term-eq 36 14505 (omega arith) tt,
  ramp_term-eq 48 18469 (omega arith) tt,
)

-- each fact of the list is what is to be shown
pub road-shown : Shown road_facts
unfolding div_up entry_before entry_after weighted_sum interpolated lane_width_adjustment per_missing_foot right_clearance_row
    right_clearance_adjustment total_clearance total_clearance_row total_clearance_adjustment access_adjustment estimated_by
    uncapped_by free_flow_speed_of clearance_facts ramp_facts speed_facts
road-shown =
    let ramps = other-ramps in Shown-same road_facts (simp (ramp-0, ramp-24, ramps.0, ramps.1, ramps.2, ramps.3) tt)
