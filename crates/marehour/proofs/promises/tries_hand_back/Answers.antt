-- `marehour::promises::tries_hand_back`, by the laws of the tries.
use Rattle.marehour.proofs.TriesLaws.{tries-hand-back, tries-of-lines}
use Rattle.marehour.proofs.promises.tries_hand_back.Goals as goal

pub returns-clause-result : goal.returns-clause-result
returns-clause-result c = tries-hand-back

pub returns-clause-printed : goal.returns-clause-printed
returns-clause-printed c = tries-of-lines
