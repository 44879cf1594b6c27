-- Forecasts (specs/Forecasts): what refuses one, and what an accepted one says of every combination within
-- its ends.
use Rattle.std.proofs.Common.{◌≡◌, refl, sym, ap, ◌∙◌, List, [], ◌++◌, append_assoc, ℕ, ◌≤◌, ◌<◌, arith, le_refl, le_trans, Result, Ok, Err}
use Rattle.refusals.specs.declared.Refusal.{Refusal}
use Rattle.refusals.specs.Refusals.{Condition, first_refusal}
use Rattle.refusals.specs.Numbers.{refusal_number}
use Rattle.refusals.proofs.RefusalLaws.{first_refusal-none, first_refusal-join, first_refusal-le}
use Rattle.refusals.proofs.NumberLaws.{in_turn, refusal_number-ok_unless}
use Rattle.road.specs.declared.Case.{Case}
use Rattle.road.specs.Refusals.{road_refusals, section_refusals, load_refusals, weather_refusals, field_refusals}
use Rattle.road.specs.Refusals.{SectionFits, WeatherFits, FieldsFit}
use Rattle.road.proofs.RefusalLaws.{section-numbered, fields-of, loads-exactly}
use Rattle.method.specs.Refusals.{speed_refusals, refusals, refusal, Accepted}
use Rattle.method.proofs.RefusalLaws.{refusals-fields}
use Rattle.forecast.specs.declared.Forecast.{Forecast}
use Rattle.forecast.specs.declared.Outcomes.{Outcomes}
use Rattle.forecast.specs.Forecasts.{with_combination, best_combination, worst_combination, range_refusals, forecast_refusals}
use Rattle.forecast.specs.Forecasts.{outcomes, forecast_answer, outcome_figures}
use Rattle.forecast.specs.Promises.{AcceptedForecast, case_with, EveryInside, Ordered}
use Rattle.forecast.proofs.RangeLaws.{range-numbered, range-exactly}

-- an answer with a number above 0 has no values
pub refused-values : (a : Result Outcomes Refusal) → 0 < refusal_number a → outcome_figures a ≡ []
refused-values (Ok o) p = absurd (omega arith)
refused-values (Err r) p = refl

-- the case with the combination at the best end
abbrev pub best_case : Case → Forecast → Case
best_case case forecast = with_combination case (best_combination forecast)

-- and at the worst
abbrev pub worst_case : Case → Forecast → Case
worst_case case forecast = with_combination case (worst_combination forecast)

-- 10, of what no forecast changes
abbrev own_speed : Case → List Condition
own_speed case = speed_refusals case.road case.weather case.lanes

-- 19 and 10
abbrev pub last_refusals : Case → List Condition
last_refusals case = weather_refusals case ++ own_speed case

-- a case's own list from its front, as a forecast's: 1 to 6, 7 to 9, and then 19 and 10
pub plain-joined : (case : Case) → refusal case ≡ first_refusal (section_refusals case ++ (load_refusals case ++ last_refusals case))
unfolding field_refusals refusals
plain-joined case =
    ap first_refusal
    (append_assoc (section_refusals case) (load_refusals case ++ weather_refusals case) (own_speed case)
    ∙ ap (λ rest. section_refusals case ++ rest) (append_assoc (load_refusals case) (weather_refusals case) (own_speed case)))

module _ (case : Case) (forecast : Forecast) where
  list-le : first_refusal (forecast_refusals case forecast) ≤ 22
  unfolding road_refusals load_refusals speed_refusals range_refusals forecast_refusals
  list-le = first_refusal-le 22 (forecast_refusals case forecast) tt

  -- the number of an answer is that of its list
  pub forecast-number : refusal_number (forecast_answer case forecast) ≡ first_refusal (forecast_refusals case forecast)
  forecast-number = refusal_number-ok_unless _ (outcomes case forecast) list-le

  -- it is at most 22
  pub number-le : refusal_number (forecast_answer case forecast) ≤ 22
  number-le = rw forecast-number list-le

-- what holds of every combination within the ends holds at the two ends
module _ (forecast : Forecast) (ordered : Ordered forecast) (P : (demand share factor : ℕ) → Type 0) (all : EveryInside forecast P) where
  pub at-best : P forecast.demand.low forecast.heavy_share.low forecast.peak_hour_factor.high
  at-best = all _ _ _ (le_refl _, ordered.0) (le_refl _, ordered.1) (ordered.2, le_refl _)

  pub at-worst : P forecast.demand.high forecast.heavy_share.high forecast.peak_hour_factor.low
  at-worst = all _ _ _ (ordered.0, le_refl _) (ordered.1, le_refl _) (le_refl _, ordered.2)

-- ---- acceptance
module _ (case : Case) (forecast : Forecast) where
  abbrev RangesFit : Type 0
  RangesFit = first_refusal (range_refusals case forecast) ≡ 0

  -- where neither 1 to 6 nor the ranges' nor 19 refuses
  module _ (section : SectionFits case) (ranges : RangesFit) (weather : WeatherFits case) where
    -- 10 decides
    list-speed : first_refusal (forecast_refusals case forecast) ≡ first_refusal (own_speed case)
    unfolding forecast_refusals
    list-speed =
        first_refusal-none (section_refusals case) _ (section-numbered case) section
        ∙ first_refusal-none (range_refusals case forecast) (last_refusals case) (range-numbered case forecast) ranges
        ∙ first_refusal-none (weather_refusals case) (own_speed case) tt weather

    -- of every combination within the ends the fields fit
    inside-fits : EveryInside forecast (λ demand share factor. FieldsFit (case_with case demand share factor))
    inside-fits demand share factor v s h =
        let asked = case_with case demand share factor in
        let (_, demands, factors, shares) = (range-exactly case forecast).0 ranges in
        fields-of asked section
        ((loads-exactly asked).1 (le_trans v.1 demands.1, le_trans factors.0 h.0, le_trans h.1 factors.2.1, le_trans s.1 shares.1))
        weather

    -- the two ends among them
    ranges-ordered : Ordered forecast
    ranges-ordered = ((range-exactly case forecast).0 ranges).0

    pub best-fits : FieldsFit (best_case case forecast)
    best-fits = at-best forecast ranges-ordered (λ demand share factor. FieldsFit (case_with case demand share factor)) inside-fits

    -- what refuses the case at its best refuses the forecast
    pub best-decides : refusal (best_case case forecast) ≡ first_refusal (forecast_refusals case forecast)
    best-decides = refusals-fields (best_case case forecast) best-fits ∙ sym list-speed

  -- what is accepted: neither 1 to 6 nor the ranges' nor 19 nor 10 refuses
  accepted-parts : AcceptedForecast case forecast
      → SectionFits case × RangesFit × WeatherFits case × (first_refusal (own_speed case) ≡ 0)
  unfolding forecast_refusals
  accepted-parts z =
      let (section, later) = first_refusal-join (section_refusals case) _ (section-numbered case) (sym (forecast-number case forecast) ∙ z) in
      let (ranges, last) = first_refusal-join (range_refusals case forecast) (last_refusals case) (range-numbered case forecast) later in
      let (weather, speed) = first_refusal-join (weather_refusals case) (own_speed case) tt last in
      (section, ranges, weather, speed)

  -- and the converse
  pub accepted-of : SectionFits case → RangesFit → WeatherFits case → first_refusal (own_speed case) ≡ 0 → AcceptedForecast case forecast
  accepted-of section ranges weather speed = forecast-number case forecast ∙ list-speed section ranges weather ∙ speed

  module _ (z : AcceptedForecast case forecast) where
    -- no range is reversed
    pub accepted-ordered : Ordered forecast
    accepted-ordered = let (section, ranges, weather, _) = accepted-parts z in ranges-ordered section ranges weather

    -- every combination within the ends is accepted
    pub inside-accepted : EveryInside forecast (λ demand share factor. Accepted (case_with case demand share factor))
    inside-accepted demand share factor v s h =
        let (section, ranges, weather, speed) = accepted-parts z in
        refusals-fields (case_with case demand share factor) (inside-fits section ranges weather demand share factor v s h) ∙ speed

    -- the two ends among them
    pub best-accepted : Accepted (best_case case forecast)
    best-accepted = at-best forecast accepted-ordered (λ demand share factor. Accepted (case_with case demand share factor)) inside-accepted

    pub worst-accepted : Accepted (worst_case case forecast)
    worst-accepted = at-worst forecast accepted-ordered (λ demand share factor. Accepted (case_with case demand share factor)) inside-accepted

-- one part of the check after another, for tactics
pub ruleset in_their_order = (in_turn, section-numbered, range-numbered, best-fits, best-decides)
