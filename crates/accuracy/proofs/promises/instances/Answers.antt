-- `accuracy::promises::instances` meets its contract: the answers are worked out in proofs/Instances.
use Rattle.accuracy.proofs.Instances.{answer-to-farthest, answer-at-capacity, answer-above-capacity}
use Rattle.accuracy.proofs.promises.instances.Goals as goal

pub returns-clause-answer_to_farthest : goal.returns-clause-answer_to_farthest
returns-clause-answer_to_farthest c = answer-to-farthest

pub returns-clause-answer_at_capacity : goal.returns-clause-answer_at_capacity
returns-clause-answer_at_capacity c = answer-at-capacity

pub returns-clause-answer_above_capacity : goal.returns-clause-answer_above_capacity
returns-clause-answer_above_capacity c = answer-above-capacity
