-- The promises of specs/Promises, proved. SHAPE-1 (NoBetterUnderMoreLoad) carries those about letters.
-- proofs/RefusedExactly has the last one.
use Rattle.std.proofs.Common.{◌≡◌, refl, sym, ap, ◌∙◌, T, cond, ⊎_elim, eq-zero-or-pos, List, [], ◌∷◌, ◌++◌, ℕ, arith, le_trans}
use Rattle.std.proofs.Common.{lt_of_not-le, get_or}
use Rattle.std.proofs.lemmas.Bool.Decides.{nat_tests}
use Rattle.refusals.specs.Refusals.{Condition, first_refusal}
use Rattle.refusals.proofs.RefusalLaws.{numbered, first_refusal-none, first_refusal-some}
use Rattle.road.specs.declared.Case.{Case}
use Rattle.road.specs.Refusals.{road_refusals, section_refusals, load_refusals}
use Rattle.road.proofs.RefusalLaws.{load-numbered, loads-exactly, fields-parts}
use Rattle.method.specs.Refusals.{speed_refusals, Accepted}
use Rattle.method.proofs.RefusalLaws.{accepted-fields, refusals-fields}
use Rattle.answer.specs.Answers.{answer_to}
use Rattle.answer.specs.Promises.{letter_in, Meets}
use Rattle.answer.proofs.AnswerLaws.{answer_to-number}
use Rattle.forecast.specs.declared.Forecast.{Forecast}
use Rattle.forecast.specs.Forecasts.{forecast_of, best_letter, worst_letter, range_refusals, forecast_refusals}
use Rattle.forecast.specs.Forecasts.{forecast_answer, outcome_figures}
use Rattle.forecast.specs.Promises.{AcceptedForecast, best_letter_in, worst_letter_in, case_with, EveryLetterBetween}
use Rattle.forecast.specs.Promises.{ShownAtTheEnds, MetThroughout, EqualEnds, OwnLoadIsNotRead, AcceptedExactly}
use Rattle.forecast.specs.Promises.{own_ends, RefusalsInOrder}
use Rattle.forecast.proofs.RangeLaws.{range-numbered, range-exactly}
use Rattle.forecast.proofs.ForecastLaws.{best_case, worst_case, at-best, at-worst, last_refusals, plain-joined, forecast-number}
use Rattle.forecast.proofs.ForecastLaws.{accepted-of, accepted-ordered, inside-accepted, best-accepted, worst-accepted}
use Rattle.forecast.proofs.EndsLaws.{letter-accepted, ends-between, answer-accepted}

pub own-load-is-not-read : OwnLoadIsNotRead
unfolding best_letter worst_letter range_refusals forecast_refusals
own-load-is-not-read c d road lanes terrain weather forecast = rw (road, lanes, terrain, weather)

pub refusals-in-order : RefusalsInOrder
unfolding road_refusals load_refusals speed_refusals range_refusals forecast_refusals
refusals-in-order case forecast = (forecast-number case forecast, refl)

module _ (case : Case) (forecast : Forecast) (z : AcceptedForecast case forecast) where
  -- the figures by the letters at the ends
  pub shown : outcome_figures (forecast_answer case forecast)
      ≡ letter_in (answer_to (best_case case forecast)) ∷ forecast.demand.low ∷ forecast.heavy_share.low ∷ forecast.peak_hour_factor.high
      ∷ letter_in (answer_to (worst_case case forecast)) ∷ forecast.demand.high ∷ forecast.heavy_share.high ∷ forecast.peak_hour_factor.low ∷ []
  shown =
      ap outcome_figures (answer-accepted case forecast z)
      ∙ rw (
        letter-accepted (best_case case forecast) (best-accepted case forecast z),
        letter-accepted (worst_case case forecast) (worst-accepted case forecast z),
      )

  best-in : best_letter_in (forecast_answer case forecast) ≡ letter_in (answer_to (best_case case forecast))
  best-in = ap (λ figures. get_or figures 0 0) shown

  worst-in : worst_letter_in (forecast_answer case forecast) ≡ letter_in (answer_to (worst_case case forecast))
  worst-in = ap (λ figures. get_or figures 4 0) shown

pub shown-at-the-ends : ShownAtTheEnds
shown-at-the-ends case demand_low demand_high share_low share_high factor_low factor_high z =
    shown case (forecast_of demand_low demand_high share_low share_high factor_low factor_high) z

pub every-letter-between : EveryLetterBetween
every-letter-between case forecast z demand share factor v s h =
    let (above, below) = ends-between case forecast z demand share factor v s h in (
      inside-accepted case forecast z demand share factor v s h,
      omega (arith, best-in case forecast z, above),
      omega (arith, worst-in case forecast z, below),
    )

pub met-throughout : MetThroughout
met-throughout case forecast z n = (
  (
    λ most demand share factor v s h.
        let (accepted, _, below) = every-letter-between case forecast z demand share factor v s h in
        (answer_to-number (case_with case demand share factor) ∙ accepted, le_trans below most),
    λ met.
        rw (worst-in case forecast z)
        (at-worst forecast (accepted-ordered case forecast z) (λ demand share factor. Meets (case_with case demand share factor) n) met).1,
  ),
  (
    λ less demand share factor v s h met.
        let (_, above, _) = every-letter-between case forecast z demand share factor v s h in omega (arith, met.1),
    λ missed.
        lt_of_not-le (λ most.
        at-best forecast (accepted-ordered case forecast z) (λ demand share factor. Meets (case_with case demand share factor) n → ⊥) missed
        (answer_to-number (best_case case forecast) ∙ best-accepted case forecast z, rw (best-in case forecast z) at most)),
  ),
)

-- ---- equal ends
-- 22 refuses none, and the two ends are one
equal-range : (case : Case) → first_refusal (range_refusals case (own_ends case)) ≡ first_refusal (load_refusals case)
unfolding load_refusals range_refusals
equal-range case = grind (arith, nat_tests)

-- lists that refuse alike do so within a longer list
refuse-alike : (rs xs ys ss : List Condition) → T (numbered xs) → T (numbered ys) → first_refusal xs ≡ first_refusal ys
    → first_refusal (rs ++ (xs ++ ss)) ≡ first_refusal (rs ++ (ys ++ ss))
refuse-alike [] xs ys ss t u e =
    ⊎_elim (λ z. first_refusal-none xs ss t z ∙ sym (first_refusal-none ys ss u (sym e ∙ z)))
    (λ p. first_refusal-some xs ss p ∙ e ∙ sym (first_refusal-some ys ss (rw (sym e) p))) (eq-zero-or-pos (first_refusal xs))
refuse-alike (r ∷ rs) xs ys ss t u e = ap (cond r.met r.number) (refuse-alike rs xs ys ss t u e)

pub equal-ends : EqualEnds
unfolding forecast_refusals
equal-ends case =
    let own = own_ends case in (
      forecast-number case own
          ∙ refuse-alike (section_refusals case) (range_refusals case own) (load_refusals case) (last_refusals case) (range-numbered case own)
          (load-numbered case) (equal-range case)
          ∙ sym (plain-joined case)
          ∙ sym (answer_to-number case),
      shown case own,
    )

-- ---- refusals
pub accepted-exactly : AcceptedExactly
accepted-exactly case forecast = (
  λ z. (accepted-ordered case forecast z, inside-accepted case forecast z),
  λ (ordered, all).
      let AcceptedAt : (demand share factor : ℕ) → Type 0 = λ demand share factor. Accepted (case_with case demand share factor) in
      let best = at-best forecast ordered AcceptedAt all in
      let fits = accepted-fields (best_case case forecast) best in
      let (section, light, weather) = fields-parts (best_case case forecast) fits in
      let heavy = (fields-parts (worst_case case forecast)
      (accepted-fields (worst_case case forecast) (at-worst forecast ordered AcceptedAt all))).1 in
      let (demand-low, least-high, most-high, share-low) = (loads-exactly (best_case case forecast)).0 light in
      let (demand-high, least-low, most-low, share-high) = (loads-exactly (worst_case case forecast)).0 heavy in
      accepted-of case forecast section
      ((range-exactly case forecast).1
      (ordered, (demand-low, demand-high), (least-low, least-high, (most-low, most-high)), (share-low, share-high)))
      weather (sym (refusals-fields (best_case case forecast) fits) ∙ best),
)
