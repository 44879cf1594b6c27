-- Figures of surveyed speeds; marehour's list takes them in.
use Rattle.std.specs.Prelude.{true, false, List, [], ◌∷◌, ℕ, pos, negsuc, Float}
use Rattle.std.specs.Float.{nan, inf, fin}
use Rattle.refusals.specs.Numbers.{refusal_number}
use Rattle.refusals.specs.Facts.{Fact, fact}
use Rattle.survey.specs.declared.SurveyedSpeed.{SurveyedSpeed}
use Rattle.survey.specs.declared.Survey.{Survey}
use Rattle.survey.specs.Survey.{survey_answer, survey_figures}

-- SURVEY-1: a survey of a speed with so many cars and such a flow
abbrev surveyed : SurveyedSpeed → (cars flow : ℕ) → Survey
surveyed speed cars flow = record { speed = speed; cars = cars; flow = flow }

-- SURVEY-1, SURVEY-3: a survey of a speed with 100 cars and a flow of 999, the fewest and the greatest that
-- are accepted
abbrev pub survey_of : SurveyedSpeed → Survey
survey_of speed = surveyed speed 100 999

-- SURVEY-1: a survey of x mi/h with 100 cars and a flow of 999
abbrev pub miles : Float → Survey
miles x = survey_of (SurveyedSpeed.MilesPerHour x)

-- SURVEY-3, FORM-10: the number of the answer's refusal, 0 for none, and its values
abbrev answered : Survey → List ℕ
answered survey = refusal_number (survey_answer survey) ∷ survey_figures (survey_answer survey)

-- SURVEY-2, SURVEY-3, REFUSAL-11 to REFUSAL-13, FIGURE-1: 100.0 km/h; 30 and 90 mi/h; the float below 30
-- mi/h; 99 cars with a flow of 1,000 and NaN; a flow of 1,000 with NaN; NaN, both infinities, -0, -100 and
-- the least float above 0. A float is written m × 2 ^ e with an odd m, or 0: 100 is 25 × 2 ^ 2.
unfoldable pub survey_facts : List Fact
survey_facts =
    fact (answered (survey_of (SurveyedSpeed.KilometresPerHour (fin false 25 (pos 2))))) (0 ∷ 62137 ∷ [])
    ∷ fact (answered (miles (fin false 15 (pos 1)))) (0 ∷ 30000 ∷ [])
    ∷ fact (answered (miles (fin false 45 (pos 1)))) (0 ∷ 90000 ∷ [])
    ∷ fact (answered (miles (fin false 15728639 (negsuc 18)))) (13 ∷ [])
    ∷ fact (answered (surveyed (SurveyedSpeed.MilesPerHour nan) 99 1000)) (11 ∷ [])
    ∷ fact (answered (surveyed (SurveyedSpeed.MilesPerHour nan) 100 1000)) (12 ∷ [])
    ∷ fact (answered (miles nan)) (13 ∷ [])
    ∷ fact (answered (miles (inf false))) (13 ∷ [])
    ∷ fact (answered (miles (inf true))) (13 ∷ [])
    ∷ fact (answered (miles (fin true 0 (pos 0)))) (13 ∷ [])
    ∷ fact (answered (miles (fin true 25 (pos 2)))) (13 ∷ [])
    ∷ fact (answered (miles (fin false 1 (negsuc 148)))) (13 ∷ [])
    ∷ []
