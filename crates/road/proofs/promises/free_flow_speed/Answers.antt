-- `road::promises::free_flow_speed`, by the laws.
use Rattle.road.proofs.Laws.{estimate-never-below-zero, free-flow-speed-never-falls-with-lanes}
use Rattle.road.proofs.promises.free_flow_speed.Goals as goal

pub returns-clause-above_zero : goal.returns-clause-above_zero
returns-clause-above_zero c = estimate-never-below-zero

pub returns-clause-with_lanes : goal.returns-clause-with_lanes
returns-clause-with_lanes c = free-flow-speed-never-falls-with-lanes
