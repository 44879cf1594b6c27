-- The answer to a survey (specs/Survey), as the code finds it.
use Rattle.std.proofs.Common.{◌≡◌, refl, sym, ℕ, zero, suc, ◌≤◌, ◌<◌, Bool, true, false, cond, pos, negsuc, neg_ℤ, Ok, Err}
use Rattle.std.proofs.Common.{arith, lt-ltb, le-ltb, le-leb}
use native.Mathlib.Decide.{dec_le}
use borrow.Author.Tests.{lt-leb}
use Rattle.refusals.specs.declared.Refusal.{Refusal}
use Rattle.refusals.specs.Refusals.{outside}
use Rattle.refusals.specs.Numbers.{ok_unless}
use Rattle.refusals.proofs.RefusalLaws.{within}
use Rattle.refusals.proofs.NumberLaws.{ok_unless-err}
use Rattle.survey.specs.declared.Survey.{Survey}
use Rattle.survey.specs.Survey.{RoundedSpeed, not_finite, thousandths, rounded_speed, speed_refused, thousandths_in, survey_refusals}
use Rattle.survey.specs.Survey.{survey_answer}
use Rattle.survey.specs.Units.{speed_answer}
use Rattle.survey.specs.Laws.{AnswerWithinEnds}

-- 13 refuses what lies below 30,000
pub speed_refused-low : (n : ℕ) → n < 30000 → speed_refused (thousandths (pos n)) ≡ true
speed_refused-low n h = simp (lt-ltb n 30000 h)

-- above 90,000
pub speed_refused-high : (n : ℕ) → 90000 < n → speed_refused (thousandths (pos n)) ≡ true
speed_refused-high n h = simp (le-ltb n 30000 (omega arith), lt-ltb 90000 n h)

-- and at 0 or below
pub speed_refused-negative : (n : ℕ) → speed_refused (thousandths (neg_ℤ (pos n))) ≡ true
speed_refused-negative zero = refl
speed_refused-negative (suc n) = refl

-- fewer than 100 cars: 11
pub survey_answer-cars : (survey : Survey) → survey.cars < 100 → Err Refusal.CarsTooFew ≡ survey_answer survey
unfolding survey_refusals
survey_answer-cars survey h = simp (lt-ltb survey.cars 100 h) (ok_unless-err Refusal.CarsTooFew 11 (thousandths_in (rounded_speed survey.speed)) refl)

-- else a flow of 1,000 or more: 12
pub survey_answer-flow : (survey : Survey) → 100 ≤ survey.cars → 1000 ≤ survey.flow → Err Refusal.FlowTooLarge ≡ survey_answer survey
unfolding survey_refusals
survey_answer-flow survey c h = simp (le-ltb survey.cars 100 c, le-leb 1000 survey.flow h) (ok_unless-err Refusal.FlowTooLarge 12 (thousandths_in (rounded_speed survey.speed)) refl)

-- else 13 alone decides
pub survey_answer-speed : (survey : Survey) → 100 ≤ survey.cars → survey.flow < 1000
    → speed_answer (rounded_speed survey.speed) ≡ survey_answer survey
unfolding survey_refusals
survey_answer-speed survey c h =
    simp (le-ltb survey.cars 100 c, lt-leb 1000 survey.flow h) (by-test (speed_refused (rounded_speed survey.speed)))
  where
    by-test : (b : Bool) → cond b (Err Refusal.SurveyedSpeedOutOfRange) (Ok (thousandths_in (rounded_speed survey.speed)))
        ≡ ok_unless (cond b 13 0) (thousandths_in (rounded_speed survey.speed))
    by-test true = ok_unless-err Refusal.SurveyedSpeedOutOfRange 13 (thousandths_in (rounded_speed survey.speed)) refl
    by-test false = refl

-- ---- the numbers that an answer may hold
-- 13 or a speed from 30,000 to 90,000
speed_answer-in : (r : RoundedSpeed) → AnswerWithinEnds (speed_answer r)
speed_answer-in not_finite = (omega arith, omega arith)
speed_answer-in (thousandths (negsuc n)) = (omega arith, omega arith)
speed_answer-in (thousandths (pos n)) = by-test (outside 30000 90000 n) refl
  where
    by-test : (b : Bool) → outside 30000 90000 n ≡ b → AnswerWithinEnds (speed_answer (thousandths (pos n)))
    by-test true e = rw e (omega arith, omega arith)
    by-test false e = rw e (within 30000 90000 n e)

-- 11 to 13 or a speed from 30,000 to 90,000
pub survey_answer-in : (survey : Survey) → AnswerWithinEnds (survey_answer survey)
survey_answer-in survey = by-counts (dec_le 100 survey.cars) (dec_le 1000 survey.flow)
  where
    by-counts : Dec (100 ≤ survey.cars) → Dec (1000 ≤ survey.flow) → AnswerWithinEnds (survey_answer survey)
    by-counts (no c) f = rw (sym (survey_answer-cars survey (omega arith))) (omega arith, omega arith)
    by-counts (yes c) (yes f) = rw (sym (survey_answer-flow survey c f)) (omega arith, omega arith)
    by-counts (yes c) (no f) = rw (sym (survey_answer-speed survey c (omega arith))) (speed_answer-in (rounded_speed survey.speed))

-- what survey::surveyed_speed goes by
pub ruleset by_survey = (survey_answer-cars, survey_answer-flow, survey_answer-speed, survey_answer-in)
