-- `accuracy::promises::table_step` meets its contract: the step is worked out in proofs/TableStepLaws.
use Rattle.accuracy.proofs.Laws.{table-step-at-most-1310, table-step-reaches-1310}
use Rattle.accuracy.proofs.promises.table_step.Goals as goal

pub returns-clause-table_step_at_most_1310 : goal.returns-clause-table_step_at_most_1310
returns-clause-table_step_at_most_1310 c = table-step-at-most-1310

pub returns-clause-table_step_reaches_1310 : goal.returns-clause-table_step_reaches_1310
returns-clause-table_step_reaches_1310 c = table-step-reaches-1310
