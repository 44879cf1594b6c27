-- The loop of `answer::evaluate::greatest_meeting`: it has come so far as the halving has.
use Rattle.std.proofs.Common.{◌-◌}
use Rattle.numbers.proofs.HalvingLaws.{Halved}
use Rattle.answer.specs.Search.{demand_meets}
use Rattle.answer.proofs.evaluate.greatest_meeting.Given as goal

abbrev pub invariant-loop-low : goal.invariant-loop-low
invariant-loop-low l = Halved (demand_meets l.terms.curve_terms.curve l.terms.load l.limit) l.end l.low l.high l.tries

abbrev pub decreases-loop-low : goal.decreases-loop-low
decreases-loop-low l = l.high - l.low
