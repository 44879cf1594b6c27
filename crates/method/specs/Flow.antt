-- The flow rate v, in whole passenger cars per hour per lane.
use Rattle.std.specs.Prelude.{ℕ, ◌+◌, ◌*◌, ◌-◌, ◌≤◌, ◌<◌}
use Rattle.numbers.specs.Division.{div_up}
use Rattle.road.specs.declared.Terrain.{Terrain}
use Rattle.road.specs.declared.Case.{Case}
use Rattle.method.specs.declared.flow.Load.{Load}

-- FLOW-1: E, how many passenger cars a heavy vehicle counts for
abbrev pub truck_equivalent : Terrain → ℕ
truck_equivalent Terrain.Level = 2
truck_equivalent Terrain.Rolling = 3

-- FLOW-1: what a vehicle counts for, in thousandths of a passenger car
unfoldable pub heavy_factor_of : Case → ℕ
heavy_factor_of case = 1000 + case.heavy_share * (truck_equivalent case.terrain - 1)

-- FLOW-2: what turns a demand into v: what a vehicle counts for, and the peak-hour factor times n lanes
abbrev pub load_of : Case → ℕ → Load
load_of case n = record { heavy_factor = heavy_factor_of case; divisor = case.peak_hour_factor * n }

-- FLOW-2: v of a demand
unfoldable pub flow_rate_of : Load → ℕ → ℕ
flow_rate_of load demand = div_up (demand * load.heavy_factor) load.divisor

-- FLOW-2: v of a case
abbrev pub case_flow_rate : Case → ℕ
case_flow_rate case = flow_rate_of (load_of case case.lanes) case.demand

-- SAFE-1, FLOW-2: the load is within ends for which 32 bits hold its product with a demand
pub record LoadSized (load : Load) : Type 0 where
  pub heavy-ge : 1000 ≤ load.heavy_factor
  pub heavy-le : load.heavy_factor ≤ 3000
  pub divisor-pos : 0 < load.divisor
  pub divisor-le : load.divisor ≤ 8000
