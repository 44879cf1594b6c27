-- Refusals 1 to 9 and 19 in their order.
use Rattle.std.specs.Prelude.{ℕ, ◌≡◌, Bool, true, false, ◌||◌, List, [], ◌∷◌, ◌++◌, nat_lt}
use Rattle.refusals.specs.Refusals.{Condition, refuses, first_refusal, outside}
use Rattle.curve.specs.declared.kind.Kind.{Kind}
use Rattle.curve.specs.declared.Weather.{Weather}
use Rattle.curve.specs.Kinds.{lowest_factor, fewest_lanes, most_lanes}
use Rattle.road.specs.declared.Median.{Median}
use Rattle.road.specs.declared.Road.{Road}
use Rattle.road.specs.declared.Case.{Case}

-- REFUSAL-4: a median other than D on kind F
abbrev pub median_unfit : Kind → Median → Bool
median_unfit Kind.Freeway Median.Undivided = true
median_unfit Kind.Freeway Median.Divided = false
median_unfit Kind.Freeway Median.TwoWayLeftTurnLane = true
median_unfit Kind.Multilane m = false

-- REFUSAL-5: the most ramps in six miles, or access points per mile, that 5 lets pass
abbrev pub most_access : Kind → ℕ
most_access Kind.Freeway = 48
most_access Kind.Multilane = 200

-- REFUSAL-7, VOLUME-2: the greatest demand that 7 lets pass
abbrev pub greatest_demand : ℕ
greatest_demand = 999999

-- REFUSAL-19: a factor is outside the kind's ends
unfoldable pub weather_unfit : Kind → Weather → Bool
weather_unfit kind weather =
    outside (lowest_factor kind) 1000 weather.speed_factor
    || outside (lowest_factor kind) 1000 weather.capacity_factor

-- REFUSAL-1 to REFUSAL-5, ORDER-2, CASE-1: the refusals of a road's fields, in their order, on either way
unfoldable pub road_refusals : Road → List Condition
road_refusals road =
    refuses 1 (outside 30000 90000 road.speed)
    ∷ refuses 2 (outside 100 200 road.lane_width)
    ∷ refuses 3 (nat_lt 400 road.right_clearance || nat_lt 400 road.left_clearance)
    ∷ refuses 4 (median_unfit road.kind road.median)
    ∷ refuses 5 (nat_lt (most_access road.kind) road.access)
    ∷ []

-- REFUSAL-6: the refusal of the lane count
abbrev pub lane_refusals : Case → List Condition
lane_refusals case =
    refuses 6 (outside (fewest_lanes case.road.kind) (most_lanes case.road.kind) case.lanes) ∷ []

-- REFUSAL-1 to REFUSAL-6, ORDER-2: the refusals of road and lanes, in their order
abbrev pub section_refusals : Case → List Condition
section_refusals case = road_refusals case.road ++ lane_refusals case

-- REFUSAL-7 to REFUSAL-9, ORDER-2: the refusals of demand, peak-hour factor and heavy share, in their order
unfoldable pub load_refusals : Case → List Condition
load_refusals case =
    refuses 7 (nat_lt greatest_demand case.demand)
    ∷ refuses 8 (outside 250 1000 case.peak_hour_factor)
    ∷ refuses 9 (nat_lt 1000 case.heavy_share)
    ∷ []

-- REFUSAL-19: the refusal of the weather's factors
abbrev pub weather_refusals : Case → List Condition
weather_refusals case = refuses 19 (weather_unfit case.road.kind case.weather) ∷ []

-- ORDER-2, REFUSAL-1 to REFUSAL-9, REFUSAL-19: the refusals of all fields: 1 to 9, then 19
unfoldable pub field_refusals : Case → List Condition
field_refusals case = section_refusals case ++ (load_refusals case ++ weather_refusals case)

-- REFUSAL-1 to REFUSAL-5: none of them refuses the road
abbrev pub RoadFits : Road → Type 0
RoadFits road = first_refusal (road_refusals road) ≡ 0

-- REFUSAL-1 to REFUSAL-6: none of them refuses the case
abbrev pub SectionFits : Case → Type 0
SectionFits case = first_refusal (section_refusals case) ≡ 0

-- REFUSAL-7 to REFUSAL-9: none of them refuses the case
abbrev pub LoadFits : Case → Type 0
LoadFits case = first_refusal (load_refusals case) ≡ 0

-- REFUSAL-19: 19 does not refuse the case
abbrev pub WeatherFits : Case → Type 0
WeatherFits case = first_refusal (weather_refusals case) ≡ 0

-- REFUSAL-1 to REFUSAL-9, REFUSAL-19: none of them refuses the case
abbrev pub FieldsFit : Case → Type 0
FieldsFit case = first_refusal (field_refusals case) ≡ 0
