-- Meeting a letter, and the service volumes. Letter numbers: A is 1.
use Rattle.std.specs.Prelude.{ℕ, Bool, ◌&&◌, nat_le, ◌==◌}
use Rattle.numbers.specs.Search.{greatest}
use Rattle.curve.specs.Service.{letter_number}
use Rattle.road.specs.declared.Case.{Case}
use Rattle.road.specs.Cases.{with_demand}
use Rattle.road.specs.Refusals.{greatest_demand}
use Rattle.method.specs.Refusals.{refusal}
use Rattle.method.specs.Assess.{measures}
use Rattle.answer.specs.declared.evaluate.Volumes.{Volumes}

-- VOLUME-1: the case is accepted and gets letter number n or a better one
unfoldable pub meets : Case → ℕ → Bool
meets case n = refusal case == 0 && nat_le (letter_number (measures case).performance.letter) n

-- VOLUME-2: the greatest demand from 0 to 999,999 with which the case meets letter number n
unfoldable pub service_volume : Case → ℕ → ℕ
service_volume case n = greatest (λ demand. meets (with_demand case demand) n) greatest_demand

-- VOLUME-2: the service volumes of A to E
abbrev pub service_volumes : Case → Volumes
service_volumes case =
    record {
      a = service_volume case 1;
      b = service_volume case 2;
      c = service_volume case 3;
      d = service_volume case 4;
      e = service_volume case 5;
    }
