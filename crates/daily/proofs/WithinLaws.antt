-- Hourly demand (specs/Daily), and the daily traffic that a service volume lets pass (specs/Within).
use Rattle.std.proofs.Common.{◌≡◌, ◌↔◌, ℕ, ◌*◌, ◌/◌, ◌≤◌, ◌<◌, arith, rules, mul-le-mul, le-div_iff_mul-le, leb}
use Rattle.numbers.proofs.DivisionLaws.{div_up-le-iff, div_up-mono, div_ceil-eq}
use Rattle.numbers.proofs.SearchLaws.{greatest-eq}
use Rattle.daily.specs.declared.Shares.{Shares}
use Rattle.daily.specs.Daily.{greatest_daily_traffic, SharesInRange, shares_unfit, traffic_refusals, TrafficFits, hourly_demand}
use Rattle.daily.specs.Within.{traffic_within}
use Rattle.daily.specs.Promises.{by_the_day, RoundedUpOnce}

-- what 20 and 21 let pass: shares in range, and traffic up to its end
pub fits-ends : (shares : Shares) (daily : ℕ) → TrafficFits shares daily → SharesInRange shares × (daily ≤ greatest_daily_traffic)
unfolding shares_unfit traffic_refusals
fits-ends shares daily z = search rules

-- the converse
pub fits-of : (shares : Shares) (daily : ℕ) → SharesInRange shares → daily ≤ greatest_daily_traffic → TrafficFits shares daily
unfolding shares_unfit traffic_refusals
fits-of shares daily r h = search rules

-- for tactics: what an hourly demand is bounded by and rounded up by
pub ruleset rounded_up = (fits-ends, div_ceil-eq)

-- the hourly demand is at most a volume exactly when daily traffic × K × D is at most as many millions
pub hourly-le-iff : RoundedUpOnce
unfolding hourly_demand
hourly-le-iff shares daily hourly = div_up-le-iff (daily * shares.peak * shares.direction) 1000000 hourly (omega arith)

-- it never falls with the traffic or a share
pub hourly-mono : (less more : Shares) (daily greater : ℕ) → daily ≤ greater → less.peak ≤ more.peak
    → less.direction ≤ more.direction → hourly_demand less daily ≤ hourly_demand more greater
unfolding hourly_demand
hourly-mono less more daily greater h k l = search (rules, div_up-mono, mul-le-mul)

module _ (shares : Shares) (volume : ℕ) (pos : 0 < shares.peak * shares.direction) where
  -- it is at most a volume exactly when the traffic is at most the volume's millions divided by K × D
  pub within-iff : (daily : ℕ)
      → (hourly_demand shares daily ≤ volume) ↔ (daily ≤ volume * 1000000 / (shares.peak * shares.direction))
  within-iff daily =
      let up = hourly-le-iff shares daily volume in
      let down = le-div_iff_mul-le {x = daily} {y = volume * 1000000} pos in
      search rules

  -- the greatest daily traffic within a volume, by that division
  pub traffic_within-eq : traffic_within shares volume ≡ by_the_day shares volume
  unfolding traffic_within
  traffic_within-eq =
      greatest-eq (λ daily. leb (hourly_demand shares daily) volume) greatest_daily_traffic (by_the_day shares volume) (omega arith)
      (search (rules, within-iff)) (λ daily above most t. search (rules, within-iff))

-- shares in range have a product that divides
pub product-pos : (shares : Shares) → SharesInRange shares → 0 < shares.peak * shares.direction
product-pos shares r = search rules

-- for tactics: the law of the division
pub ruleset by_division = (product-pos, traffic_within-eq)
