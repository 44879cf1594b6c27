-- `accuracy::promises::distances` meets its contract: the points are worked out in proofs/Distances.
use Rattle.accuracy.proofs.Distances.{distances-shown, farthest-just-below}
use Rattle.accuracy.proofs.promises.distances.Goals as goal

pub returns-clause-distances_shown : goal.returns-clause-distances_shown
returns-clause-distances_shown c = distances-shown

pub returns-clause-farthest_just_below : goal.returns-clause-farthest_just_below
returns-clause-farthest_just_below c = farthest-just-below
