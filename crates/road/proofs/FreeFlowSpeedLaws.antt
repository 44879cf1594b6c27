-- Free-flow speed (specs/FreeFlowSpeed): no subtraction goes below 0, and F never falls with more lanes.
use Rattle.std.proofs.Common.{◌≡◌, ℕ, ◌+◌, ◌-◌, ◌≤◌, arith, le_refl}
use Rattle.curve.specs.declared.kind.Kind.{Kind}
use Rattle.curve.specs.Kinds.{highest_speed}
use Rattle.road.specs.declared.Way.{Way}
use Rattle.road.specs.declared.Road.{Road}
use Rattle.road.specs.Adjustments.{lane_width_adjustment, right_clearance_adjustment, total_clearance, total_clearance_adjustment}
use Rattle.road.specs.Adjustments.{median_adjustment, access_adjustment}
use Rattle.road.specs.RampTerm.{ramp_term}
use Rattle.road.specs.FreeFlowSpeed.{estimated_by, uncapped_by, uncapped_speed, free_flow_speed_of}
use Rattle.road.proofs.AdjustmentLaws.{lane_width_adjustment-le, right_clearance_adjustment-le, right_clearance_adjustment-antitone}
use Rattle.road.proofs.AdjustmentLaws.{total_clearance_adjustment-le, total_clearance_adjustment-antitone, median_adjustment-le}
use Rattle.road.proofs.AdjustmentLaws.{access_adjustment-le, adjustment_laws}
use Rattle.road.proofs.RampLaws.{ramp_term-le}
use Rattle.road.proofs.RefusalLaws.{road_ends}

-- what is taken off on kind F is at most 30,000
pub freeway_terms-le : (w r n k : ℕ) → lane_width_adjustment w + right_clearance_adjustment r n + ramp_term k ≤ 30000
freeway_terms-le w r n k = omega (arith, lane_width_adjustment-le w, right_clearance_adjustment-le r n, ramp_term-le k)

-- a road's total clearance
abbrev total : Road → ℕ
total road = total_clearance road.median road.right_clearance road.left_clearance

-- what is taken off on kind M is at most 30,000
pub multilane_terms-le : (road : Road) (n : ℕ)
    → lane_width_adjustment road.lane_width + total_clearance_adjustment n (total road) + median_adjustment
    road.median + access_adjustment road.access ≤ 30000
multilane_terms-le road n =
    omega (
      arith,
      lane_width_adjustment-le road.lane_width,
      total_clearance_adjustment-le n (total road),
      median_adjustment-le road.median,
      access_adjustment-le road.access,
    )

-- for tactics
pub ruleset estimate_terms = (adjustment_laws, ramp_term-le, road_ends)

-- what is left after two more terms, when less was taken off before
less-off : (b x y p q : ℕ) → y ≤ x → b - x - p - q ≤ b - y - p - q
less-off b x y p q h = let first : b - x - p ≤ b - y - p = omega arith in omega arith

estimated_by-mono : (kind : Kind) (road : Road) (m n : ℕ) → m ≤ n → estimated_by kind road m ≤ estimated_by kind road n
unfolding estimated_by
estimated_by-mono Kind.Freeway road m n h = omega (arith, right_clearance_adjustment-antitone road.right_clearance m n h)
estimated_by-mono Kind.Multilane road m n h =
    less-off (road.speed - lane_width_adjustment road.lane_width) (total_clearance_adjustment m (total road))
    (total_clearance_adjustment n (total road)) (median_adjustment road.median) (access_adjustment road.access)
    (total_clearance_adjustment-antitone m n (total road) h)

uncapped_by-mono : (way : Way) (road : Road) (m n : ℕ) → m ≤ n → uncapped_by way road m ≤ uncapped_by way road n
unfolding uncapped_by
uncapped_by-mono Way.Given road m n h = le_refl road.speed
uncapped_by-mono Way.Estimated road m n h = estimated_by-mono road.kind road m n h

-- F before its upper end never falls with more lanes
pub uncapped_speed-mono : (road : Road) (m n : ℕ) → m ≤ n → uncapped_speed road m ≤ uncapped_speed road n
uncapped_speed-mono road m n h = uncapped_by-mono road.way road m n h

-- F never falls with more lanes
pub free_flow_speed_of-mono : (road : Road) (m n : ℕ) → m ≤ n → free_flow_speed_of road m ≤ free_flow_speed_of road n
unfolding free_flow_speed_of
free_flow_speed_of-mono road m n h = omega (arith, uncapped_speed-mono road m n h)

-- F is at most its upper end
pub free_flow_speed_of-le : (road : Road) (n : ℕ) → free_flow_speed_of road n ≤ highest_speed road.kind
unfolding free_flow_speed_of
free_flow_speed_of-le road n = omega arith

-- a given F is the same with any lanes
pub free_flow_speed_of-given : (road : Road) (m n : ℕ) → road.way ≡ Way.Given → free_flow_speed_of road m ≡ free_flow_speed_of road n
unfolding free_flow_speed_of uncapped_by
free_flow_speed_of-given road m n e = simp e
