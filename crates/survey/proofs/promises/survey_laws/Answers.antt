-- `survey::promises::survey_laws` meets its contract: the laws are proved in proofs/Laws.
use Rattle.survey.proofs.Laws.{answers-within-ends, below-zero-rounds-down}
use Rattle.survey.proofs.promises.survey_laws.Goals as goal

pub returns-clause-answers_within_ends : goal.returns-clause-answers_within_ends
returns-clause-answers_within_ends c = answers-within-ends

pub returns-clause-below_zero_rounds_down : goal.returns-clause-below_zero_rounds_down
returns-clause-below_zero_rounds_down c = below-zero-rounds-down
