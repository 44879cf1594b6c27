-- The daily traffic that a service volume lets pass: proofs/DailyLaws shows that a daily service volume is
-- it, of the service volume in the answer with the hourly demand, and proofs/WithinLaws that a division finds
-- it.
use Rattle.std.specs.Prelude.{ℕ, [], ◌∷◌, nat_le, drop}
use Rattle.numbers.specs.Bounds.{AllAtMost}
use Rattle.numbers.specs.Search.{greatest}
use Rattle.answer.specs.declared.evaluate.Volumes.{Volumes}
use Rattle.answer.specs.Laws.{figure_ends}
use Rattle.daily.specs.declared.Shares.{Shares}
use Rattle.daily.specs.Daily.{greatest_daily_traffic, hourly_demand}

-- DAILY-2: the greatest daily traffic whose hourly demand is at most a volume
unfoldable pub traffic_within : Shares → ℕ → ℕ
traffic_within shares volume =
    greatest (λ daily. nat_le (hourly_demand shares daily) volume) greatest_daily_traffic

-- ANSWER-2: the service volumes A to E are within the ends that FiguresWithinEnds gives
abbrev pub VolumesFit : Volumes → Type 0
VolumesFit volumes =
    AllAtMost (volumes.a ∷ volumes.b ∷ volumes.c ∷ volumes.d ∷ volumes.e ∷ []) (drop 6 figure_ends)

-- DAILY-2: traffic_within of each service volume, A to E
abbrev pub volumes_within : Shares → Volumes → Volumes
volumes_within shares volumes =
    record {
      a = traffic_within shares volumes.a;
      b = traffic_within shares volumes.b;
      c = traffic_within shares volumes.c;
      d = traffic_within shares volumes.d;
      e = traffic_within shares volumes.e;
    }
