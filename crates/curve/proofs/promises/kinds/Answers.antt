-- `curve::promises::kinds`, by the laws.
use Rattle.curve.proofs.Laws.{kinds-carry}
use Rattle.curve.proofs.promises.kinds.Goals as goal

pub returns : goal.returns
returns c = kinds-carry
