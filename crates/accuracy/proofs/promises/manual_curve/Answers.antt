-- `accuracy::promises::manual_curve` meets its contract: the laws are proved in proofs/Laws.
use Rattle.accuracy.proofs.Laws.{lower-speeds-at-most, free-flow-speed-up-to-breakpoint, capacity-speed-at-capacity, no-faster-with-more-flow}
use Rattle.accuracy.proofs.promises.manual_curve.Goals as goal

pub returns-clause-lower_speeds_at_most : goal.returns-clause-lower_speeds_at_most
returns-clause-lower_speeds_at_most c = lower-speeds-at-most

pub returns-clause-free_flow_speed_up_to_breakpoint : goal.returns-clause-free_flow_speed_up_to_breakpoint
returns-clause-free_flow_speed_up_to_breakpoint c = free-flow-speed-up-to-breakpoint

pub returns-clause-capacity_speed_at_capacity : goal.returns-clause-capacity_speed_at_capacity
returns-clause-capacity_speed_at_capacity c = capacity-speed-at-capacity

pub returns-clause-no_faster_with_more_flow : goal.returns-clause-no_faster_with_more_flow
returns-clause-no_faster_with_more_flow c = no-faster-with-more-flow
