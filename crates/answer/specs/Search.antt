-- What the searches for the service volumes try: proofs/VolumeLaws shows that a demand passes exactly when it
-- meets the letter.
use Rattle.std.specs.Prelude.{ℕ, Bool}
use Rattle.numbers.specs.Search.{greatest}
use Rattle.curve.specs.declared.Curve.{Curve}
use Rattle.curve.specs.Service.{meets_limit, density_limit}
use Rattle.road.specs.Refusals.{greatest_demand}
use Rattle.method.specs.declared.flow.Load.{Load}
use Rattle.method.specs.Flow.{flow_rate_of}
use Rattle.answer.specs.declared.evaluate.Volumes.{Volumes}

-- VOLUME-1: on the curve, the flow rate of the demand keeps to capacity and to a density limit
unfoldable pub demand_meets : Curve → Load → ℕ → ℕ → Bool
demand_meets curve load limit demand = meets_limit curve (flow_rate_of load demand) limit

-- VOLUME-2: the greatest demand to 999,999 that keeps to the density limit of letter number n
abbrev pub searched_volume : Curve → Load → ℕ → ℕ
searched_volume curve load n = greatest (demand_meets curve load (density_limit n)) greatest_demand

-- VOLUME-2: the greatest demands to 999,999 that keep to the density limits of A to E
abbrev pub searched_volumes : Curve → Load → Volumes
searched_volumes curve load =
    record {
      a = searched_volume curve load 1;
      b = searched_volume curve load 2;
      c = searched_volume curve load 3;
      d = searched_volume curve load 4;
      e = searched_volume curve load 5;
    }
