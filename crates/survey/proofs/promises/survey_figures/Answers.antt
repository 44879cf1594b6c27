-- `survey::promises::survey_figures` meets its contract: each fact is shown in proofs/Boundary.
use Rattle.survey.proofs.Boundary.{survey-shown}
use Rattle.survey.proofs.promises.survey_figures.Goals as goal

pub returns : goal.returns
returns c = survey-shown
