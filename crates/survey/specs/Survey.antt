-- A surveyed speed, and refusals 11 to 13.
use Rattle.std.specs.Prelude.{ℕ, ◌*◌, Bool, true, false, List, [], ◌∷◌, ℤ, pos, negsuc, neg_ℤ, nat_le, nat_lt, Float, Result, Ok, Err}
use Rattle.std.specs.Float.{nan, inf, fin}
use Rattle.std.specs.Float.Ieee.{up, down}
use Rattle.numbers.specs.declared.Fraction.{Fraction}
use Rattle.numbers.specs.Fraction.{over, whole, times, divided_by, rounded_down, rounded_up}
use Rattle.refusals.specs.declared.Refusal.{Refusal}
use Rattle.refusals.specs.Refusals.{Condition, refuses, first_refusal, outside}
use Rattle.refusals.specs.Numbers.{ok_unless}
use Rattle.survey.specs.declared.SurveyedSpeed.{SurveyedSpeed}
use Rattle.survey.specs.declared.Survey.{Survey}

-- SURVEY-2: a mile in kilometres, 1.609344
abbrev pub mile_in_kilometres : Fraction
mile_in_kilometres = over 1609344 1000000

-- SURVEY-2, SURVEY-1: the unit mi/h, in thousandths of mi/h
abbrev pub mile_an_hour : Fraction
mile_an_hour = whole 1000

-- SURVEY-2, SURVEY-1: the unit km/h, in thousandths of mi/h
abbrev pub kilometre_an_hour : Fraction
kilometre_an_hour = divided_by mile_an_hour mile_in_kilometres

-- SURVEY-2: m × 2 ^ e, where 2 ^ e is the fraction up e / down e
abbrev pub exact_value : ℕ → ℤ → Fraction
exact_value m e = over (m * up e) (down e)

-- SURVEY-2, UNIT-3: x rounded down; with true, the sign of a value below 0, -x rounded down
abbrev pub floor : Bool → Fraction → ℤ
floor false x = pos (rounded_down x)
floor true x = neg_ℤ (pos (rounded_up x))

-- SURVEY-2: thousandths of mi/h, or that there is no finite number
pub data RoundedSpeed : Type 0 where
  not_finite : RoundedSpeed
  thousandths : ℤ → RoundedSpeed

-- SURVEY-2: the float x in a unit: its exact value rounded down. fin s m e is m × 2 ^ e, negative where s is
-- true; -0, and the subnormal floats, are among these
unfoldable pub rounded_in : Fraction → Float → RoundedSpeed
rounded_in unit nan = not_finite
rounded_in unit (inf s) = not_finite
rounded_in unit (fin s m e) = thousandths (floor s (times (exact_value m e) unit))

-- SURVEY-2, SURVEY-1: the exact value of a surveyed speed rounded down, by its unit
abbrev pub rounded_speed : SurveyedSpeed → RoundedSpeed
rounded_speed (SurveyedSpeed.MilesPerHour x) = rounded_in mile_an_hour x
rounded_speed (SurveyedSpeed.KilometresPerHour x) = rounded_in kilometre_an_hour x

-- REFUSAL-13: no finite number, or rounded down not 30,000 to 90,000
abbrev pub speed_refused : RoundedSpeed → Bool
speed_refused not_finite = true
speed_refused (thousandths (pos n)) = outside 30000 90000 n
speed_refused (thousandths (negsuc n)) = true

-- SURVEY-3: the thousandths of a rounded speed; 0 where there is no finite number or one below 0
abbrev pub thousandths_in : RoundedSpeed → ℕ
thousandths_in not_finite = 0
thousandths_in (thousandths (pos n)) = n
thousandths_in (thousandths (negsuc n)) = 0

-- SURVEY-3, REFUSAL-11 to REFUSAL-13: 11 of the cars, 12 of the flow and 13 of the speed, in this order
unfoldable pub survey_refusals : Survey → List Condition
survey_refusals survey =
    refuses 11 (nat_lt survey.cars 100)
    ∷ refuses 12 (nat_le 1000 survey.flow)
    ∷ refuses 13 (speed_refused (rounded_speed survey.speed))
    ∷ []

-- SURVEY-3, ORDER-1: the speed, or the first refusal
abbrev pub survey_answer : Survey → Result ℕ Refusal
survey_answer survey =
    ok_unless (first_refusal (survey_refusals survey)) (thousandths_in (rounded_speed survey.speed))

-- SURVEY-3, FORM-10: the speed; of a refusal no value
abbrev pub survey_figures : Result ℕ Refusal → List ℕ
survey_figures (Ok n) = n ∷ []
survey_figures (Err r) = []
