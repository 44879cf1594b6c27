-- Refusals 22 and 7 to 9 of the ends of a forecast (specs/Forecasts range_refusals).
use Rattle.std.proofs.Common.{◌≡◌, sym, ◌∙◌, Bool, false, cond, ◌||◌, ◌↔◌, List, [], ◌∷◌, ◌++◌, arith, T, ltb}
use Rattle.std.proofs.lemmas.Bool.Decides.{nat_tests}
use Rattle.refusals.specs.Refusals.{Condition, refuses, first_refusal, outside}
use Rattle.refusals.proofs.RefusalLaws.{numbered, none-met, none-of}
use Rattle.road.specs.declared.Case.{Case}
use Rattle.road.specs.Refusals.{greatest_demand, load_refusals}
use Rattle.forecast.specs.declared.Range.{Range}
use Rattle.forecast.specs.declared.Forecast.{Forecast}
use Rattle.forecast.specs.Forecasts.{is_reversed, range_refusals}
use Rattle.forecast.specs.Promises.{Ordered, DemandPasses, FactorPasses, SharePasses}

-- ---- the four tests
module _ (forecast : Forecast) where
  abbrev demand : Range
  demand = forecast.demand

  abbrev share : Range
  share = forecast.heavy_share

  abbrev factor : Range
  factor = forecast.peak_hour_factor

  -- a range that 22 refuses
  abbrev pub some-reversed : Bool
  some-reversed = is_reversed demand || (is_reversed share || is_reversed factor)

  -- an end that 7 refuses
  abbrev pub over-demand : Bool
  over-demand = ltb greatest_demand demand.low || ltb greatest_demand demand.high

  -- one that 8 refuses
  abbrev pub unfit-factor : Bool
  unfit-factor = outside 250 1000 factor.high || outside 250 1000 factor.low

  -- one that 9 refuses
  abbrev pub over-share : Bool
  over-share = ltb 1000 share.low || ltb 1000 share.high

  -- ---- there is none, by the ends
  pub none-reversed : (some-reversed ≡ false) ↔ Ordered forecast
  none-reversed = (
    λ e. (grind (arith, nat_tests), grind (arith, nat_tests), grind (arith, nat_tests)),
    λ (v, s, h). grind (arith, nat_tests),
  )

  pub demand-passes : (over-demand ≡ false) ↔ DemandPasses forecast
  demand-passes = (λ e. (grind (arith, nat_tests), grind (arith, nat_tests)), λ (low, high). grind (arith, nat_tests))

  pub factor-passes : (unfit-factor ≡ false) ↔ FactorPasses forecast
  factor-passes = (
    λ e. (grind (arith, nat_tests), grind (arith, nat_tests), (grind (arith, nat_tests), grind (arith, nat_tests))),
    λ (low, high, most). grind (arith, nat_tests),
  )

  pub share-passes : (over-share ≡ false) ↔ SharePasses forecast
  share-passes = (λ e. (grind (arith, nat_tests), grind (arith, nat_tests)), λ (low, high). grind (arith, nat_tests))

  abbrev tests : List Condition
  tests = refuses 22 some-reversed ∷ refuses 7 over-demand ∷ refuses 8 unfit-factor ∷ refuses 9 over-share ∷ []

-- ---- the list
module _ (case : Case) (forecast : Forecast) where
  -- every number is above 0
  pub range-numbered : T (numbered (range_refusals case forecast))
  unfolding load_refusals range_refusals
  range-numbered = tt

  -- the four tests, each with its number, stand for the list, whatever is asked behind it
  pub range-tests : (rest : List Condition)
      → first_refusal (range_refusals case forecast ++ rest)
      ≡ cond (some-reversed forecast) 22
      (cond (over-demand forecast) 7 (cond (unfit-factor forecast) 8 (cond (over-share forecast) 9 (first_refusal rest))))
  unfolding load_refusals range_refusals
  range-tests rest = grind (arith, nat_tests)

  -- a forecast that they let pass, by its ends
  pub range-exactly : (first_refusal (range_refusals case forecast) ≡ 0)
      ↔ (Ordered forecast × DemandPasses forecast × FactorPasses forecast × SharePasses forecast)
  unfolding load_refusals range_refusals
  range-exactly =
      let same : first_refusal (range_refusals case forecast) ≡ first_refusal (tests forecast) = range-tests [] in (
        λ z.
            let none = none-met (tests forecast) tt (sym same ∙ z) in (
              (none-reversed forecast).0 none.0,
              (demand-passes forecast).0 none.1.0,
              (factor-passes forecast).0 none.1.1.0,
              (share-passes forecast).0 none.1.1.1.0,
            ),
        λ (ordered, demand, factor, share).
            same
            ∙ none-of (tests forecast) (
              (none-reversed forecast).1 ordered,
              ((demand-passes forecast).1 demand, ((factor-passes forecast).1 factor, ((share-passes forecast).1 share, tt))),
            ),
      )
