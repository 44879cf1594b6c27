-- `daily::promises::refusals_in_order` meets its contract: the theorems are proved in proofs/PromiseLaws.
use Rattle.daily.proofs.PromiseLaws.{refused-in-order, refused-exactly}
use Rattle.daily.proofs.promises.refusals_in_order.Goals as goal

pub returns-clause-refused_in_order : goal.returns-clause-refused_in_order
returns-clause-refused_in_order c = refused-in-order

pub returns-clause-refused_exactly : goal.returns-clause-refused_exactly
returns-clause-refused_exactly c = refused-exactly
