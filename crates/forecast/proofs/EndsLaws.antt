-- The two ends of a forecast that is accepted: the letters there are the best and the worst (specs/Ends).
-- SHAPE-1, by its name NoBetterUnderMoreLoad, carries ends-between.
use Rattle.std.proofs.Common.{◌≡◌, refl, sym, ap, ◌∙◌, Bool, ◌↔◌, inr, ℕ, ◌≤◌, ◌<◌, arith, le_refl, T, Ok}
use Rattle.numbers.proofs.SearchLaws.{least-eq}
use Rattle.refusals.specs.Refusals.{first_refusal}
use Rattle.refusals.proofs.NumberLaws.{ok_unless-none}
use Rattle.curve.specs.declared.service.Letter.{Letter}
use Rattle.curve.specs.Service.{letter_number}
use Rattle.curve.proofs.ServiceLaws.{letter_number-le}
use Rattle.road.specs.declared.Case.{Case}
use Rattle.road.specs.Refusals.{LoadFits}
use Rattle.road.proofs.RefusalLaws.{fields-parts}
use Rattle.method.specs.Refusals.{Accepted}
use Rattle.method.specs.Assess.{measures}
use Rattle.method.proofs.RefusalLaws.{accepted-fields}
use Rattle.answer.specs.Answers.{graded, answer_to}
use Rattle.answer.specs.Volumes.{meets}
use Rattle.answer.specs.Promises.{letter_in}
use Rattle.answer.proofs.AnswerLaws.{answer_to-accepted, answer_to-number, Meets-iff}
use Rattle.answer.proofs.PromiseLaws.{no-better-under-more-load}
use Rattle.forecast.specs.declared.Forecast.{Forecast}
use Rattle.forecast.specs.declared.Combination.{Combination}
use Rattle.forecast.specs.Forecasts.{with_combination, every_combination, some_combination, best_letter, worst_letter, letter_of}
use Rattle.forecast.specs.Forecasts.{forecast_refusals, forecast_answer, outcomes}
use Rattle.forecast.specs.Ends.{outcome_of}
use Rattle.forecast.specs.Promises.{AcceptedForecast, case_with, EveryInside}
use Rattle.forecast.proofs.CombinationLaws.{every_combination-at, every_combination-of, some_combination-of, some_combination-none}
use Rattle.forecast.proofs.ForecastLaws.{best_case, worst_case, at-best, at-worst, forecast-number, accepted-ordered, inside-accepted}
use Rattle.forecast.proofs.ForecastLaws.{best-accepted, worst-accepted}

-- ---- letters
letter_of-number : (letter : Letter) → letter_of (letter_number letter) ≡ letter
unfolding letter_of
letter_of-number Letter.A = refl
letter_of-number Letter.B = refl
letter_of-number Letter.C = refl
letter_of-number Letter.D = refl
letter_of-number Letter.E = refl
letter_of-number Letter.F = refl

module _ (case : Case) (a : Accepted case) where
  -- the letter in the answer to an accepted case, by what the case gets
  pub letter-accepted : letter_in (answer_to case) ≡ letter_number (measures case).performance.letter
  unfolding graded
  letter-accepted = ap letter_in (answer_to-accepted case a)

  -- as the letter that it is
  letter-is : letter_of (letter_in (answer_to case)) ≡ (measures case).performance.letter
  letter-is = ap letter_of letter-accepted ∙ letter_of-number _

  letter-lt : letter_in (answer_to case) < 7
  letter-lt = omega (arith, letter-accepted, letter_number-le (measures case).performance.letter)

  -- it meets a letter exactly when its own is no worse
  meets-exactly : (n : ℕ) → (letter_in (answer_to case) ≤ n) ↔ T (meets case n)
  meets-exactly n = (λ h. (Meets-iff case n).0 (answer_to-number case ∙ a, h), λ t. ((Meets-iff case n).1 t).1)

module _ (case : Case) (forecast : Forecast) (z : AcceptedForecast case forecast) where
  abbrev best : Case
  best = best_case case forecast

  abbrev worst : Case
  worst = worst_case case forecast

  -- the letter of a combination within the ends is between those at the ends
  pub ends-between : EveryInside forecast (λ demand share factor.
      let inside = letter_in (answer_to (case_with case demand share factor)) in
      (letter_in (answer_to best) ≤ inside) × (inside ≤ letter_in (answer_to worst)))
  ends-between demand share factor v s h =
      let asked = case_with case demand share factor in
      let accepted = inside-accepted case forecast z demand share factor v s h in (
        no-better-under-more-load best asked (best-accepted case forecast z) accepted refl refl (inr (inr refl))
            v.0 s.0 (le_refl _) h.1 (le_refl _),
        no-better-under-more-load asked worst accepted (worst-accepted case forecast z) refl refl (inr (inr refl))
            v.1 s.1 (le_refl _) h.0 (le_refl _),
      )

  -- the combination meets a letter number
  abbrev meets_at : ℕ → Combination → Bool
  meets_at n combination = meets (with_combination case combination) n

  -- it does exactly when the letter of the case is no worse
  met : (n : ℕ) → EveryInside forecast (λ demand share factor.
      (letter_in (answer_to (case_with case demand share factor)) ≤ n) ↔ T (meets (case_with case demand share factor) n))
  met n demand share factor v s h = meets-exactly _ (inside-accepted case forecast z demand share factor v s h) n

  best_letter-eq : best_letter case forecast ≡ letter_in (answer_to best)
  unfolding best_letter
  best_letter-eq =
      let own = letter_in (answer_to best) in
      least-eq (λ n. some_combination forecast (meets_at n)) 7 own (letter-lt best (best-accepted case forecast z))
      (at-best forecast (accepted-ordered case forecast z)
      (λ demand share factor. T (meets (case_with case demand share factor) own) → T (some_combination forecast (meets_at own)))
      (some_combination-of forecast (meets_at own)) ((meets-exactly best (best-accepted case forecast z) own).0 (le_refl own)))
      (λ k below. some_combination-none forecast (meets_at k) (λ demand share factor v s h t.
      omega (arith, (ends-between demand share factor v s h).0, (met k demand share factor v s h).1 t)))

  worst_letter-eq : worst_letter case forecast ≡ letter_in (answer_to worst)
  unfolding worst_letter
  worst_letter-eq =
      let own = letter_in (answer_to worst) in
      least-eq (λ n. every_combination forecast (meets_at n)) 7 own (letter-lt worst (worst-accepted case forecast z))
      (every_combination-of forecast (meets_at own) (λ demand share factor v s h.
      (met own demand share factor v s h).0 (ends-between demand share factor v s h).1))
      (λ k below t. omega (
        arith,
        (meets-exactly worst (worst-accepted case forecast z) k).1
            (at-worst forecast (accepted-ordered case forecast z) (λ demand share factor. T (meets (case_with case demand share factor) k))
            (every_combination-at forecast (meets_at k) t)),
      ))

  -- what the code works out at the two ends are the best and the worst outcome
  ends-are : outcomes case forecast ≡ record { best = outcome_of best; worst = outcome_of worst }
  ends-are =
      rw (best_letter-eq, worst_letter-eq, letter-is best (best-accepted case forecast z), letter-is worst (worst-accepted case forecast z))

  pub answer-accepted : forecast_answer case forecast ≡ Ok (record { best = outcome_of best; worst = outcome_of worst })
  answer-accepted = ok_unless-none _ (outcomes case forecast) (sym (forecast-number case forecast) ∙ z) ∙ ap Ok ends-are

-- ---- the calls of the code behind its check
module _ (case : Case) (forecast : Forecast) (none : first_refusal (forecast_refusals case forecast) ≡ 0) where
  pub worst-fits : LoadFits (worst_case case forecast)
  worst-fits = (fields-parts _ (accepted-fields _ (worst-accepted case forecast (forecast-number case forecast ∙ none)))).1

  pub checked-answer : Ok (record { best = outcome_of (best_case case forecast); worst = outcome_of (worst_case case forecast) })
      ≡ forecast_answer case forecast
  checked-answer = sym (answer-accepted case forecast (forecast-number case forecast ∙ none))
