-- The laws of specs/Laws, proved.
use mathlib.Core.Path.{refl}
use Rattle.numbers.specs.Division.{div_up}
use Rattle.survey.specs.Survey.{rounded_in}
use Rattle.survey.specs.Laws.{AnswersWithinEnds, BelowZeroRoundsDown}
use Rattle.survey.proofs.SurveyLaws.{survey_answer-in}

pub answers-within-ends : AnswersWithinEnds
answers-within-ends = survey_answer-in

pub below-zero-rounds-down : BelowZeroRoundsDown
unfolding div_up rounded_in
below-zero-rounds-down = refl
