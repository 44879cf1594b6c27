-- `method::promises::refusals`, by the laws.
use Rattle.method.proofs.Laws.{refusals-in-order}
use Rattle.method.proofs.promises.refusals.Goals as goal

pub returns : goal.returns
returns c = refusals-in-order
