-- Figures that a road alone decides.
use Rattle.std.specs.Prelude.{List, [], ◌∷◌, ◌++◌, map, ℕ}
use Rattle.refusals.specs.Facts.{Fact, fact}
use Rattle.curve.specs.declared.kind.Kind.TheVariants as Kind
use Rattle.road.specs.declared.Way.TheVariants as Way
use Rattle.road.specs.declared.Median.{Median}
use Rattle.road.specs.declared.Road.{Road}
use Rattle.road.specs.Cases.{road}
use Rattle.road.specs.Adjustments.{lane_width_adjustment, right_clearance_adjustment, total_clearance, total_clearance_adjustment}
use Rattle.road.specs.RampTerm.{ramp_term}
use Rattle.road.specs.FreeFlowSpeed.{free_flow_speed_of}

-- FFS-4: what right clearance r takes off with 2 to 8 lanes
abbrev pub right_off : ℕ → List ℕ
right_off r = map (right_clearance_adjustment r) (2 ∷ 3 ∷ 4 ∷ 5 ∷ 6 ∷ 7 ∷ 8 ∷ [])

-- FFS-5: what right clearance r and left clearance l take off with 2 and with 3 lanes
abbrev total_off : Median → ℕ → ℕ → List ℕ
total_off m r l = map (λ n. total_clearance_adjustment n (total_clearance m r l)) (2 ∷ 3 ∷ [])

-- FFS-8: F E base 120 60 60 D 24: a road that ramps alone make slower
abbrev pub with_24_ramps : ℕ → Road
with_24_ramps base = road Kind.Freeway Way.Estimated base 120 60 60 Median.Divided 24

-- FFS-4, FFS-5, FFS-9: clearances between the table's entries, at its ends and past them.
unfoldable pub clearance_facts : List Fact
clearance_facts =
    fact (right_off 0) (3600 ∷ 2400 ∷ 1200 ∷ 600 ∷ 600 ∷ 600 ∷ 600 ∷ [])
    ∷ fact (right_off 61) (0 ∷ 0 ∷ 0 ∷ 0 ∷ 0 ∷ 0 ∷ 0 ∷ [])
    ∷ fact (right_off 400) (0 ∷ 0 ∷ 0 ∷ 0 ∷ 0 ∷ 0 ∷ 0 ∷ [])
    ∷ fact (total_off Median.Divided 38 45) (825 ∷ 825 ∷ [])
    ∷ fact (total_off Median.Divided 25 25) (1550 ∷ 1500 ∷ [])
    ∷ fact (total_off Median.Divided 0 0) (5400 ∷ 3900 ∷ [])
    ∷ fact (total_off Median.Divided 1 0) (5310 ∷ 3845 ∷ [])
    ∷ fact (total_off Median.Undivided 30 7) (650 ∷ 650 ∷ [])
    ∷ fact (total_off Median.TwoWayLeftTurnLane 400 0) (0 ∷ 0 ∷ [])
    ∷ fact (total_off Median.Undivided 400 0) (0 ∷ 0 ∷ [])
    ∷ fact (total_off Median.Divided 400 0) (1300 ∷ 1300 ∷ [])
    ∷ fact (total_off Median.Divided 0 400) (1300 ∷ 1300 ∷ [])
    ∷ []

-- FFS-8, FFS-2, FFS-10: the terms of the fewest and the most ramps, and of 10 and 36, whose exact terms,
-- 4,945.48 and 14,504.51, are nearest a half; with 24, the bases whose estimate is the lower end of F, one
-- less, the upper end, one less and one more.
unfoldable pub ramp_facts : List Fact
ramp_facts =
    fact (map ramp_term (1 ∷ 10 ∷ 36 ∷ 48 ∷ [])) (715 ∷ 4945 ∷ 14505 ∷ 18469 ∷ [])
    ∷ fact (map (λ base. free_flow_speed_of (with_24_ramps base) 2) (65318 ∷ 65317 ∷ 85318 ∷ 85317 ∷ 85319 ∷ []))
    (55000 ∷ 54999 ∷ 75000 ∷ 74999 ∷ 75000 ∷ [])
    ∷ []

-- FFS-1 to FFS-7, FFS-9, FFS-10, CASE-1: F with a total clearance between the entries, by the median; F by
-- the lanes; the worst road fields, which take off nothing from a given speed; the upper end of F on kind M;
-- what lane widths take off at the ends of their ranges.
unfoldable pub speed_facts : List Fact
speed_facts =
    fact (free_flow_speed_of (road Kind.Multilane Way.Estimated 60000 120 30 7 Median.Undivided 0) 2 ∷ [])
    (57750 ∷ [])
    ∷ fact (free_flow_speed_of (road Kind.Multilane Way.Estimated 60000 120 30 7 Median.TwoWayLeftTurnLane 0) 2 ∷ [])
    (59350 ∷ [])
    ∷ fact (map (free_flow_speed_of (road Kind.Freeway Way.Estimated 75000 120 0 0 Median.Divided 0)) (2 ∷ 3 ∷ 4 ∷ 5 ∷ []))
    (71400 ∷ 72600 ∷ 73800 ∷ 74400 ∷ [])
    ∷ fact (map (free_flow_speed_of (road Kind.Multilane Way.Estimated 70000 100 0 0 Median.Divided 200)) (2 ∷ 3 ∷ []))
    (48000 ∷ 49500 ∷ [])
    ∷ fact (free_flow_speed_of (road Kind.Freeway Way.Given 60000 100 0 0 Median.Divided 48) 2 ∷ [])
    (60000 ∷ [])
    ∷ fact (free_flow_speed_of (road Kind.Multilane Way.Given 60000 100 0 0 Median.Undivided 200) 2 ∷ [])
    (60000 ∷ [])
    ∷ fact (map (λ f. free_flow_speed_of (road Kind.Multilane Way.Given f 120 60 60 Median.Divided 0) 2) (69999 ∷ 70000 ∷ 70001 ∷ []))
    (69999 ∷ 70000 ∷ 70000 ∷ [])
    ∷ fact (map lane_width_adjustment (100 ∷ 109 ∷ 110 ∷ 119 ∷ 120 ∷ 200 ∷ []))
    (6600 ∷ 6600 ∷ 1900 ∷ 1900 ∷ 0 ∷ 0 ∷ [])
    ∷ []

-- FIGURE-1: all figures of a road
abbrev pub road_facts : List Fact
road_facts = clearance_facts ++ (ramp_facts ++ speed_facts)
