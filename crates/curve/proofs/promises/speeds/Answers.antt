-- `curve::promises::speeds`, by the laws.
use Rattle.curve.proofs.Laws.{speed-is-above-zero, speed-never-below-capacity-speed, speed-never-rises-with-flow}
use Rattle.curve.proofs.Laws.{speed-never-falls-with-free-flow-speed}
use Rattle.curve.proofs.promises.speeds.Goals as goal

pub returns-clause-above_zero : goal.returns-clause-above_zero
returns-clause-above_zero c = speed-is-above-zero

pub returns-clause-at_capacity : goal.returns-clause-at_capacity
returns-clause-at_capacity c = speed-never-below-capacity-speed

pub returns-clause-with_flow : goal.returns-clause-with_flow
returns-clause-with_flow c = speed-never-rises-with-flow

pub returns-clause-with_free_flow_speed : goal.returns-clause-with_free_flow_speed
returns-clause-with_free_flow_speed c = speed-never-falls-with-free-flow-speed
