-- Forecasts known within ranges: a case whose own demand, heavy share and peak-hour factor are not read, and
-- a low and a high end of each. Letter numbers: A is 1.
use Rattle.std.specs.Prelude.{ℕ, ◌≤◌, Bool, if◌then◌else◌, not, ◌||◌, List, [], ◌∷◌, ◌++◌, nat_le, nat_lt, Result, Ok, Err}
use Rattle.numbers.specs.Search.{least}
use Rattle.numbers.specs.Table.{every_up_to}
use Rattle.refusals.specs.declared.Refusal.{Refusal}
use Rattle.refusals.specs.Refusals.{Condition, refuses, first_refusal, by_turns}
use Rattle.refusals.specs.Numbers.{ok_unless}
use Rattle.curve.specs.declared.service.Letter.{Letter}
use Rattle.curve.specs.Service.{letter_number}
use Rattle.road.specs.declared.Case.{Case}
use Rattle.road.specs.Cases.{with_load}
use Rattle.road.specs.Refusals.{section_refusals, load_refusals, weather_refusals}
use Rattle.method.specs.Refusals.{speed_refusals}
use Rattle.answer.specs.Volumes.{meets}
use Rattle.forecast.specs.declared.Range.{Range}
use Rattle.forecast.specs.declared.Forecast.{Forecast}
use Rattle.forecast.specs.declared.Combination.{Combination}
use Rattle.forecast.specs.declared.Outcome.{Outcome}
use Rattle.forecast.specs.declared.Outcomes.{Outcomes}

-- FORECAST-1: the range with a low and a high end
abbrev pub range_of : (low high : ℕ) → Range
range_of low high = record { low = low; high = high }

-- FORECAST-1: the forecast with a low and a high end of demand, heavy share and peak-hour factor
abbrev pub forecast_of : (demand_low demand_high share_low share_high factor_low factor_high : ℕ)
    → Forecast
forecast_of demand_low demand_high share_low share_high factor_low factor_high =
    record {
      demand = range_of demand_low demand_high;
      heavy_share = range_of share_low share_high;
      peak_hour_factor = range_of factor_low factor_high;
    }

-- FORECAST-1: the combination of a demand, a heavy share and a peak-hour factor
abbrev pub combination_of : (demand share factor : ℕ) → Combination
combination_of demand share factor =
    record { demand = demand; heavy_share = share; peak_hour_factor = factor }

-- FORECAST-1: n is from the low to the high end
abbrev pub Within : Range → ℕ → Type 0
Within range n = (range.low ≤ n) × (n ≤ range.high)

-- FORECAST-1, CASE-3: the case with a combination in the place of its own demand, share and factor
abbrev pub with_combination : Case → Combination → Case
with_combination case combination =
    with_load case combination.demand combination.peak_hour_factor combination.heavy_share

-- ---- combinations
-- FORECAST-1, UNIT-4: every whole number within the ends passes p
unfoldable pub every_within : Range → (ℕ → Bool) → Bool
every_within range p = every_up_to (λ n. nat_lt n range.low || p n) range.high

-- FORECAST-1: every whole combination within the ends passes p
unfoldable pub every_combination : Forecast → (Combination → Bool) → Bool
every_combination forecast p =
    every_within forecast.demand (λ demand.
    every_within forecast.heavy_share (λ share.
    every_within forecast.peak_hour_factor (λ factor. p (combination_of demand share factor))))

-- FORECAST-1: some whole combination within the ends passes p
unfoldable pub some_combination : Forecast → (Combination → Bool) → Bool
some_combination forecast p = not (every_combination forecast (λ combination. not (p combination)))

-- FORECAST-2: the number of the best letter, the least below 7 that some combination meets
unfoldable pub best_letter : Case → Forecast → ℕ
best_letter case forecast =
    least (λ n. some_combination forecast (λ combination. meets (with_combination case combination) n)) 7

-- FORECAST-2: the number of the worst letter, the least below 7 that every combination meets
unfoldable pub worst_letter : Case → Forecast → ℕ
worst_letter case forecast =
    least (λ n. every_combination forecast (λ combination. meets (with_combination case combination) n)) 7

-- LETTER-3: the letter of a number; A below 1 too, and F from 6 on
unfoldable pub letter_of : ℕ → Letter
letter_of n =
    if nat_le n 1 then Letter.A
    else if nat_le n 2 then Letter.B
    else if nat_le n 3 then Letter.C
    else if nat_le n 4 then Letter.D
    else if nat_le n 5 then Letter.E else Letter.F

-- FORECAST-3: low demand, low share and high peak-hour factor
abbrev pub best_combination : Forecast → Combination
best_combination forecast =
    combination_of forecast.demand.low forecast.heavy_share.low forecast.peak_hour_factor.high

-- FORECAST-3: high demand, high share and low peak-hour factor
abbrev pub worst_combination : Forecast → Combination
worst_combination forecast =
    combination_of forecast.demand.high forecast.heavy_share.high forecast.peak_hour_factor.low

-- REFUSAL-22: the low end is above the high end
abbrev pub is_reversed : Range → Bool
is_reversed range = nat_lt range.high range.low

-- FORECAST-4, REFUSAL-22: 22 of each range, and then 7, 8 and 9, each of both ends before the next
unfoldable pub range_refusals : Case → Forecast → List Condition
range_refusals case forecast =
    refuses 22 (is_reversed forecast.demand)
    ∷ refuses 22 (is_reversed forecast.heavy_share)
    ∷ refuses 22 (is_reversed forecast.peak_hour_factor)
    ∷ by_turns (load_refusals (with_combination case (best_combination forecast)))
    (load_refusals (with_combination case (worst_combination forecast)))

-- FORECAST-4: 1 to 6, then 22 and 7 to 9 of the ranges, 19 and 10
unfoldable pub forecast_refusals : Case → Forecast → List Condition
forecast_refusals case forecast =
    section_refusals case
    ++ (range_refusals case forecast
    ++ (weather_refusals case
    ++ speed_refusals case.road case.weather case.lanes))

-- FORECAST-2, FORECAST-3: the best and the worst letter, each with its combination
abbrev pub outcomes : Case → Forecast → Outcomes
outcomes case forecast =
    record {
      best = record {
        letter = letter_of (best_letter case forecast);
        combination = best_combination forecast;
      };
      worst = record {
        letter = letter_of (worst_letter case forecast);
        combination = worst_combination forecast;
      };
    }

-- FORECAST-2, FORECAST-4, ORDER-1: the best and the worst letter, each with its combination, or the first
-- refusal
abbrev pub forecast_answer : Case → Forecast → Result Outcomes Refusal
forecast_answer case forecast =
    ok_unless (first_refusal (forecast_refusals case forecast)) (outcomes case forecast)

-- FORECAST-3: how many figures an answer has: two letters, each with a combination
abbrev pub figure_count : ℕ
figure_count = 8

-- FORECAST-3: the four figures of an outcome: its letter's number, its demand, share and factor
abbrev pub figures_of : Outcome → List ℕ
figures_of outcome =
    letter_number outcome.letter ∷ outcome.combination.demand ∷ outcome.combination.heavy_share
    ∷ outcome.combination.peak_hour_factor ∷ []

-- FORECAST-3, FORM-10: the four figures of the best outcome, then those of the worst; of a refusal none
abbrev pub outcome_figures : Result Outcomes Refusal → List ℕ
outcome_figures (Ok outcomes) = figures_of outcomes.best ++ figures_of outcomes.worst
outcome_figures (Err r) = []
