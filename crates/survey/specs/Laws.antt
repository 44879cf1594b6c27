-- Laws of the surveyed speed; `survey_laws` of src/promises.rt ensures each.
use Rattle.std.specs.Prelude.{ℕ, ◌≤◌, ◌≡◌, true, negsuc, Result, Ok, Err}
use Rattle.std.specs.Float.{fin}
use Rattle.refusals.specs.declared.Refusal.{Refusal}
use Rattle.refusals.specs.Numbers.{number}
use Rattle.survey.specs.declared.Survey.{Survey}
use Rattle.survey.specs.Survey.{mile_an_hour, thousandths, rounded_in, survey_answer}

-- SURVEY-3: a speed from 30,000 to 90,000, or a refusal from 11 to 13
abbrev pub AnswerWithinEnds : Result ℕ Refusal → Type 0
AnswerWithinEnds (Ok n) = (30000 ≤ n) × (n ≤ 90000)
AnswerWithinEnds (Err r) = (11 ≤ number r) × (number r ≤ 13)

-- SURVEY-3: every survey is answered with a speed from 30,000 to 90,000 or a refusal from 11 to 13
abbrev pub AnswersWithinEnds : Type 0
AnswersWithinEnds = (survey : Survey) → AnswerWithinEnds (survey_answer survey)

-- SURVEY-2: -1/2048 mi/h, just below 0, rounded down is -1 thousandth
abbrev pub BelowZeroRoundsDown : Type 0
BelowZeroRoundsDown = rounded_in mile_an_hour (fin true 1 (negsuc 10)) ≡ thousandths (negsuc 0)
