-- Roads and cases by their fields, in the order of a line; a case with some fields changed, and cases of the
-- same road.
use Rattle.std.specs.Prelude.{◌≡◌, ℕ}
use Rattle.curve.specs.declared.kind.Kind.{Kind}
use Rattle.curve.specs.declared.Weather.{Weather}
use Rattle.road.specs.declared.Way.{Way}
use Rattle.road.specs.declared.Median.{Median}
use Rattle.road.specs.declared.Terrain.{Terrain}
use Rattle.road.specs.declared.Road.{Road}
use Rattle.road.specs.declared.Case.{Case}

-- CASE-1: the road with these fields
abbrev pub road : Kind → Way → (speed width right left : ℕ) → Median → (access : ℕ) → Road
road kind way speed width right left median access =
    record {
      kind = kind;
      way = way;
      speed = speed;
      lane_width = width;
      right_clearance = right;
      left_clearance = left;
      median = median;
      access = access;
    }

-- CASE-2: the case of a road with these lanes, demand, peak-hour factor, heavy share, terrain and weather
abbrev pub loaded : Road → (lanes demand factor share : ℕ) → Terrain → Weather → Case
loaded road lanes demand factor share terrain weather =
    record {
      road = road;
      lanes = lanes;
      demand = demand;
      peak_hour_factor = factor;
      heavy_share = share;
      terrain = terrain;
      weather = weather;
    }

-- CASE-3: the case with that demand in the place of its own
abbrev pub with_demand : Case → ℕ → Case
with_demand case demand =
    loaded case.road case.lanes demand case.peak_hour_factor case.heavy_share case.terrain case.weather

-- CASE-3, FORECAST-1: the case with that demand, peak-hour factor and heavy share, all other fields kept
abbrev pub with_load : Case → (demand factor share : ℕ) → Case
with_load case demand factor share =
    loaded case.road case.lanes demand factor share case.terrain case.weather

-- CASE-3: the case with n lanes, all other fields kept
abbrev pub with_lanes : Case → ℕ → Case
with_lanes case n =
    loaded case.road n case.demand case.peak_hour_factor case.heavy_share case.terrain case.weather

-- CASE-3: the case under that weather, all other fields kept
abbrev pub with_weather : Case → Weather → Case
with_weather case weather =
    loaded case.road case.lanes case.demand case.peak_hour_factor case.heavy_share case.terrain weather

-- CASE-3: c and d are of the same road: they agree in its eight fields, and the weather is none of them
abbrev pub SameRoad : Case → Case → Type 0
SameRoad c d = c.road ≡ d.road
