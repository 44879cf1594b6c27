-- `road::promises::ramps`, by the laws.
use Rattle.road.proofs.Laws.{ramp-term-is-nearest}
use Rattle.road.proofs.promises.ramps.Goals as goal

pub returns : goal.returns
returns c = ramp-term-is-nearest
