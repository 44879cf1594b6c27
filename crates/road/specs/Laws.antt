-- The laws of free-flow speed, and of refusal 19, stated over the definitions that the contracts cite;
-- proofs/Laws proves each.
use Rattle.std.specs.Prelude.{◌≡◌, false, ◌↔◌, List, ℕ, suc, ◌+◌, ◌*◌, ◌-◌, ◌≤◌, ◌<◌, min, get_or, T}
use Rattle.curve.specs.declared.kind.Kind.{Kind}
use Rattle.curve.specs.declared.Weather.{Weather}
use Rattle.curve.specs.Weather.{FactorsFit}
use Rattle.road.specs.declared.Road.{Road}
use Rattle.road.specs.Interpolation.{weighted_sum}
use Rattle.road.specs.Adjustments.{lane_width_adjustment, per_missing_foot, right_clearance_row, right_clearance_adjustment}
use Rattle.road.specs.Adjustments.{total_clearance, total_clearance_row, total_clearance_adjustment, median_adjustment, access_adjustment}
use Rattle.road.specs.RampTerm.{is_ramp_term, ramp_term}
use Rattle.road.specs.FreeFlowSpeed.{estimated_speed, free_flow_speed_of}
use Rattle.road.specs.Refusals.{weather_unfit, RoadFits}

-- FFS-9: over any row, t tenths past entry j, up to the next entry, which is included: step times the line's
-- height is step − t times the one entry and t times the other. Past the row's end an entry is 0.
abbrev pub StraightBetweenEntries : Type 0
StraightBetweenEntries =
    (row : List ℕ) (step j t : ℕ) → 0 < step → t ≤ step
    → weighted_sum row step (j * step + t) ≡ get_or row j 0 * (step - t) + get_or row (suc j) 0 * t

-- FFS-9, FFS-4, FFS-5: nothing is rounded, at any right clearance to 6 feet and any total clearance to 12,
-- with any lanes.
abbrev pub ClearancesAreWhole : Type 0
ClearancesAreWhole =
    ((r n : ℕ) → r ≤ 60
    → 10 * right_clearance_adjustment r n ≡ weighted_sum (right_clearance_row (per_missing_foot n)) 10 (60 - r))
    × ((n s : ℕ) → s ≤ 120
    → 20 * total_clearance_adjustment n s ≡ weighted_sum (total_clearance_row n) 20 (120 - s))

-- FFS-4: a tenth that the right clearance is short of 6 feet takes off a tenth of what a foot takes: 60, 40,
-- 20 or 10.
abbrev pub RightClearanceByTenths : Type 0
RightClearanceByTenths =
    (r n : ℕ) → 10 * right_clearance_adjustment r n ≡ (60 - min 60 r) * per_missing_foot n

-- FFS-8, FORM-8: with up to 48 ramps exactly one number fits the rule, the ramp term. With one or more it is
-- above 0, so that 2t − 1 is not cut at 0.
abbrev pub RampTermIsNearest : Type 0
RampTermIsNearest =
    (k : ℕ) → k ≤ 48
    → T (is_ramp_term k (ramp_term k)) × ((t : ℕ) → T (is_ramp_term k t) → t ≡ ramp_term k)
    × (1 ≤ k → 1 ≤ ramp_term k)

-- FFS-2: an estimate and what is taken off are together the base speed, on a road that 1 to 5 do not refuse:
-- no difference is cut at 0.
abbrev pub EstimateNeverBelowZero : Type 0
EstimateNeverBelowZero =
    (road : Road) (n : ℕ) → RoadFits road
    → (road.kind ≡ Kind.Freeway
    → estimated_speed road n + lane_width_adjustment road.lane_width
    + right_clearance_adjustment road.right_clearance n
    + ramp_term road.access ≡ road.speed)
    × (road.kind ≡ Kind.Multilane
    → estimated_speed road n + lane_width_adjustment road.lane_width
    + total_clearance_adjustment n (total_clearance road.median road.right_clearance road.left_clearance)
    + median_adjustment road.median
    + access_adjustment road.access
    ≡ road.speed)

-- FFS-10, FFS-1: F never falls with more lanes.
abbrev pub FreeFlowSpeedNeverFallsWithLanes : Type 0
FreeFlowSpeedNeverFallsWithLanes =
    (road : Road) (m n : ℕ) → m ≤ n → free_flow_speed_of road m ≤ free_flow_speed_of road n

-- REFUSAL-19, WEATHER-1: 19 lets pass exactly the factors within the kind's ends: 500 to 1,000 on kind F,
-- 1,000 on kind M.
abbrev pub WeatherFitsExactly : Type 0
WeatherFitsExactly =
    (kind : Kind) (weather : Weather) → (weather_unfit kind weather ≡ false) ↔ FactorsFit kind weather
