-- `accuracy::promises::answer_just_below` meets its contract: the theorems are proved in proofs/PromiseLaws.
use Rattle.accuracy.proofs.PromiseLaws.{answer-just-below, a-to-e-up-to-capacity, a-to-e-just-below, no-speed-above-capacity}
use Rattle.accuracy.proofs.promises.answer_just_below.Goals as goal

pub returns-clause-answer_just_below : goal.returns-clause-answer_just_below
returns-clause-answer_just_below c = answer-just-below

pub returns-clause-a_to_e_up_to_capacity : goal.returns-clause-a_to_e_up_to_capacity
returns-clause-a_to_e_up_to_capacity c = a-to-e-up-to-capacity

pub returns-clause-a_to_e_just_below : goal.returns-clause-a_to_e_just_below
returns-clause-a_to_e_just_below c = a-to-e-just-below

pub returns-clause-no_speed_above_capacity : goal.returns-clause-no_speed_above_capacity
returns-clause-no_speed_above_capacity c = no-speed-above-capacity
