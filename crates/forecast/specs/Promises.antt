-- What a reader of an answer is promised, over the definitions that the contract of `evaluate_forecast` cites
-- and the engine's own; the functions of src/promises.rt ensure each.
use Rattle.std.specs.Prelude.{◌≡◌, ◌↔◌, [], ◌∷◌, map, ℕ, ◌≤◌, ◌<◌, get_or, Result}
use Rattle.refusals.specs.declared.Refusal.{Refusal}
use Rattle.refusals.specs.Refusals.{first_refusal}
use Rattle.refusals.specs.Numbers.{refusal_number}
use Rattle.road.specs.declared.Case.{Case}
use Rattle.road.specs.Cases.{with_load}
use Rattle.road.specs.Refusals.{greatest_demand, SectionFits}
use Rattle.method.specs.Refusals.{refusal, Accepted}
use Rattle.answer.specs.Answers.{answer_to}
use Rattle.answer.specs.Promises.{letter_in, Meets}
use Rattle.forecast.specs.declared.Range.{Range}
use Rattle.forecast.specs.declared.Forecast.{Forecast}
use Rattle.forecast.specs.declared.Outcomes.{Outcomes}
use Rattle.forecast.specs.Forecasts.{forecast_of, Within, forecast_refusals, forecast_answer, outcome_figures}

-- FORECAST-4: nothing refuses the case with the forecast
abbrev pub AcceptedForecast : Case → Forecast → Type 0
AcceptedForecast case forecast = refusal_number (forecast_answer case forecast) ≡ 0

-- FORECAST-3, FORM-10: the number of the best letter in an answer, the first of its eight figures
abbrev pub best_letter_in : Result Outcomes Refusal → ℕ
best_letter_in answer = get_or (outcome_figures answer) 0 0

-- FORECAST-3, FORM-10: the number of the worst letter in an answer, the fifth of its eight figures
abbrev pub worst_letter_in : Result Outcomes Refusal → ℕ
worst_letter_in answer = get_or (outcome_figures answer) 4 0

-- FORECAST-1, CASE-3: the case with this demand, share and factor in the place of its own, by with_load and
-- not by this crate's with_combination
abbrev pub case_with : Case → (demand share factor : ℕ) → Case
case_with case demand share factor = with_load case demand factor share

-- FORECAST-1: P holds of every whole combination within the ends
abbrev pub EveryInside : Forecast → ((demand share factor : ℕ) → Type 0) → Type 0
EveryInside forecast P =
    (demand share factor : ℕ) → Within forecast.demand demand → Within forecast.heavy_share share
    → Within forecast.peak_hour_factor factor → P demand share factor

-- FORECAST-5, FORECAST-2: every whole combination within the ends is accepted, and its letter is no better
-- than the best and no worse than the worst
abbrev pub EveryLetterBetween : Type 0
EveryLetterBetween =
    (case : Case) (forecast : Forecast) → AcceptedForecast case forecast
    → EveryInside forecast (λ demand share factor.
    let inside = case_with case demand share factor in
    Accepted inside
    × (best_letter_in (forecast_answer case forecast) ≤ letter_in (answer_to inside))
    × (letter_in (answer_to inside) ≤ worst_letter_in (forecast_answer case forecast)))

-- FORECAST-3, FORECAST-2: the eight figures: the engine's letters at the two ends, each with its combination
abbrev pub ShownAtTheEnds : Type 0
ShownAtTheEnds =
    (case : Case) (demand_low demand_high share_low share_high factor_low factor_high : ℕ)
    → let forecast = forecast_of demand_low demand_high share_low share_high factor_low factor_high in
    AcceptedForecast case forecast
    → outcome_figures (forecast_answer case forecast)
    ≡ letter_in (answer_to (case_with case demand_low share_low factor_high))
    ∷ demand_low ∷ share_low ∷ factor_high
    ∷ letter_in (answer_to (case_with case demand_high share_high factor_low))
    ∷ demand_high ∷ share_high ∷ factor_low
    ∷ []

-- FORECAST-5: a letter is met by every combination exactly when the worst letter meets it, and by none
-- exactly when the best does not
abbrev pub MetThroughout : Type 0
MetThroughout =
    (case : Case) (forecast : Forecast) → AcceptedForecast case forecast → (n : ℕ)
    → ((worst_letter_in (forecast_answer case forecast) ≤ n)
    ↔ EveryInside forecast (λ demand share factor. Meets (case_with case demand share factor) n))
    × ((n < best_letter_in (forecast_answer case forecast))
    ↔ EveryInside forecast (λ demand share factor. Meets (case_with case demand share factor) n → ⊥))

-- FORECAST-5: the case's own demand, share and factor as both ends
abbrev pub own_ends : Case → Forecast
own_ends case =
    forecast_of case.demand case.demand case.heavy_share case.heavy_share
    case.peak_hour_factor case.peak_hour_factor

-- FORECAST-5: the case's own load as both ends gives its plain letter twice, or its plain refusal
abbrev pub EqualEnds : Type 0
EqualEnds =
    (case : Case)
    → let answer = forecast_answer case (own_ends case) in
    let letter = letter_in (answer_to case) in
    (refusal_number answer ≡ refusal_number (answer_to case))
    × (refusal_number answer ≡ 0
    → outcome_figures answer
    ≡ letter ∷ case.demand ∷ case.heavy_share ∷ case.peak_hour_factor
    ∷ letter ∷ case.demand ∷ case.heavy_share ∷ case.peak_hour_factor ∷ [])

-- FORECAST-1: cases that agree in road, lanes, terrain and weather get one answer, whatever load they carry
abbrev pub OwnLoadIsNotRead : Type 0
OwnLoadIsNotRead =
    (c d : Case)
    → c.road ≡ d.road → c.lanes ≡ d.lanes → c.terrain ≡ d.terrain → c.weather ≡ d.weather
    → (forecast : Forecast) → forecast_answer c forecast ≡ forecast_answer d forecast

-- REFUSAL-22: no low end is above its high end
abbrev pub Ordered : Forecast → Type 0
Ordered forecast =
    (forecast.demand.low ≤ forecast.demand.high)
    × (forecast.heavy_share.low ≤ forecast.heavy_share.high)
    × (forecast.peak_hour_factor.low ≤ forecast.peak_hour_factor.high)

-- FORECAST-4: accepted exactly when no range is reversed and every whole combination within the ends is
-- accepted
abbrev pub AcceptedExactly : Type 0
AcceptedExactly =
    (case : Case) (forecast : Forecast)
    → AcceptedForecast case forecast
    ↔ (Ordered forecast
    × EveryInside forecast (λ demand share factor. Accepted (case_with case demand share factor)))

-- FORECAST-4, ORDER-1: the number is the first of the list, which has 22 for each range, 7 to 9 for each end,
-- and 10 before the speed factor and after it
abbrev pub RefusalsInOrder : Type 0
RefusalsInOrder =
    (case : Case) (forecast : Forecast)
    → (refusal_number (forecast_answer case forecast) ≡ first_refusal (forecast_refusals case forecast))
    × (map (λ r. r.number) (forecast_refusals case forecast)
    ≡ 1 ∷ 2 ∷ 3 ∷ 4 ∷ 5 ∷ 6 ∷ 22 ∷ 22 ∷ 22 ∷ 7 ∷ 7 ∷ 8 ∷ 8 ∷ 9 ∷ 9 ∷ 19 ∷ 10 ∷ 10 ∷ [])

-- FORECAST-4: neither end of a range is above a number
abbrev pub BothAtMost : ℕ → Range → Type 0
BothAtMost most range = (range.low ≤ most) × (range.high ≤ most)

-- FORECAST-4, REFUSAL-7: 7 lets both ends of the demand pass
abbrev pub DemandPasses : Forecast → Type 0
DemandPasses forecast = BothAtMost greatest_demand forecast.demand

-- FORECAST-4, REFUSAL-8: 8 lets both ends of the peak-hour factor pass
abbrev pub FactorPasses : Forecast → Type 0
FactorPasses forecast =
    let range = forecast.peak_hour_factor in
    (250 ≤ range.low) × (250 ≤ range.high) × BothAtMost 1000 range

-- FORECAST-4, REFUSAL-9: 9 lets both ends of the heavy share pass
abbrev pub SharePasses : Forecast → Type 0
SharePasses forecast = BothAtMost 1000 forecast.heavy_share

-- FORECAST-4, REFUSAL-22, REFUSAL-7 to REFUSAL-9: 1 to 6 as the engine has them, whatever the ends; then 22
-- exactly by a reversed range; then 7, 8 and 9 each exactly by an end; then 19 and 10 as the engine has them
abbrev pub RefusedExactly : Type 0
RefusedExactly =
    (case : Case) (forecast : Forecast)
    → let number = refusal_number (forecast_answer case forecast) in
    let best = case_with case forecast.demand.low forecast.heavy_share.low forecast.peak_hour_factor.high in
    ((n : ℕ) → 1 ≤ n → n ≤ 6 → (number ≡ n) ↔ (refusal case ≡ n))
    × ((number ≡ 22) ↔ (SectionFits case × (Ordered forecast → ⊥)))
    × (SectionFits case → Ordered forecast
    → ((number ≡ 7) ↔ (DemandPasses forecast → ⊥))
    × ((number ≡ 8) ↔ (DemandPasses forecast × (FactorPasses forecast → ⊥)))
    × ((number ≡ 9) ↔ (DemandPasses forecast × FactorPasses forecast × (SharePasses forecast → ⊥)))
    × (DemandPasses forecast → FactorPasses forecast → SharePasses forecast → number ≡ refusal best))
