-- `marehour::promises::replies_are_within_their_ends`, by the laws of the calls.
use Rattle.marehour.proofs.Laws.{replies-within-ends, buffer-too-short, no-demand-is-refused, last-refusal-is-reached}
use Rattle.marehour.proofs.promises.replies_are_within_their_ends.Goals as goal

pub returns-clause-ends : goal.returns-clause-ends
returns-clause-ends c = replies-within-ends

pub returns-clause-short : goal.returns-clause-short
returns-clause-short c = buffer-too-short

pub returns-clause-no_demand : goal.returns-clause-no_demand
returns-clause-no_demand c = no-demand-is-refused

pub returns-clause-last : goal.returns-clause-last
returns-clause-last c = last-refusal-is-reached
