-- What the code's helpers need and hand back; proofs/SurveyLaws shows where it is the answer to a survey.
use Rattle.std.specs.Prelude.{ℕ, ◌*◌, ◌≤◌, ◌<◌, if◌then◌else◌, Result, Ok, Err}
use Rattle.numbers.specs.declared.Fraction.{Fraction}
use Rattle.refusals.specs.declared.Refusal.{Refusal}
use Rattle.survey.specs.Survey.{RoundedSpeed, speed_refused, thousandths_in}

-- SURVEY-2, SAFE-1: a unit for which no float below 1 or from 512 on comes to 30,000 to 90,000, and the
-- code's products fit 64 bits; both units of a survey are such
pub record UnitFits (unit : Fraction) : Type 0 where
  pub denominator-pos : 0 < unit.denominator
  pub numerator-le : unit.numerator ≤ 1000000000
  pub denominator-le : unit.denominator ≤ 2000000
  pub low-at-1 : unit.numerator < 30000 * unit.denominator
  pub high-at-512 : 90001 * unit.denominator ≤ 512 * unit.numerator

-- REFUSAL-13: the thousandths of a rounded speed, or 13, which alone is asked
abbrev pub speed_answer : RoundedSpeed → Result ℕ Refusal
speed_answer r = if speed_refused r then Err Refusal.SurveyedSpeedOutOfRange else Ok (thousandths_in r)
