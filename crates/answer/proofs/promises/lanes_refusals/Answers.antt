-- `answer::promises::lanes_refusals`, by the laws.
use Rattle.answer.proofs.Laws.{lanes-refusals-in-order, lanes-refused-as-the-case, nothing-but-14-refuses-fit-fields}
use Rattle.answer.proofs.promises.lanes_refusals.Goals as goal

pub returns-clause-in_order : goal.returns-clause-in_order
returns-clause-in_order c = lanes-refusals-in-order

pub returns-clause-as_the_case : goal.returns-clause-as_the_case
returns-clause-as_the_case c = lanes-refused-as-the-case

pub returns-clause-fit_fields : goal.returns-clause-fit_fields
returns-clause-fit_fields c = nothing-but-14-refuses-fit-fields
