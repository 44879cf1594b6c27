-- The boundary sections (specs/Boundary), shown.
use Rattle.numbers.specs.Division.{div_up}
use Rattle.refusals.specs.Numbers.{in_order, refusal_of}
use Rattle.refusals.specs.Facts.{Shown}
use Rattle.refusals.proofs.FactLaws.{Shown-same}
use Rattle.survey.specs.Survey.{rounded_in, survey_refusals}
use Rattle.survey.specs.Boundary.{survey_facts}

-- each fact of the list is what is to be shown
pub survey-shown : Shown survey_facts
unfolding div_up in_order refusal_of rounded_in survey_refusals survey_facts
survey-shown = Shown-same survey_facts tt
