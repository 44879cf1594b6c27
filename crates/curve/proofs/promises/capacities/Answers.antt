-- `curve::promises::capacities`, by the laws.
use Rattle.curve.proofs.Laws.{capacity-within-ends, capacity-reaches-ends}
use Rattle.curve.proofs.promises.capacities.Goals as goal

pub returns-clause-within : goal.returns-clause-within
returns-clause-within c = capacity-within-ends

pub returns-clause-reached : goal.returns-clause-reached
returns-clause-reached c = capacity-reaches-ends
