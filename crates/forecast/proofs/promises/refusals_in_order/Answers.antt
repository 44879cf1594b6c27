-- `forecast::promises::refusals_in_order` meets its contract: the theorems are proved in proofs/PromiseLaws
-- and proofs/RefusedExactly.
use Rattle.forecast.proofs.PromiseLaws.{accepted-exactly, refusals-in-order}
use Rattle.forecast.proofs.RefusedExactly.{refused-exactly}
use Rattle.forecast.proofs.promises.refusals_in_order.Goals as goal

pub returns-clause-accepted_exactly : goal.returns-clause-accepted_exactly
returns-clause-accepted_exactly c = accepted-exactly

pub returns-clause-refusals_in_order : goal.returns-clause-refusals_in_order
returns-clause-refusals_in_order c = refusals-in-order

pub returns-clause-refused_exactly : goal.returns-clause-refused_exactly
returns-clause-refused_exactly c = refused-exactly
