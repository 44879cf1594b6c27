-- `answer::evaluate::greatest_meeting` meets its contract: the halving keeps a demand that passes below one
-- that fails or is past the end, until they are neighbours, and counts what it tries.
use Rattle.std.proofs.Common.{sym, ◌∙◌, arith}
use Rattle.numbers.proofs.SearchLaws.{greatest-le}
use Rattle.numbers.proofs.HalvingLaws.{tried_up_to-steps, middle-half, halved-start, halved-passes, halved-fails, halved-done}
use Rattle.curve.proofs.ServiceLaws.{density_limit-le}
use Rattle.answer.proofs.VolumeLaws.{demand_meets-zero, demand_meets-down}
use Rattle.answer.proofs.evaluate.greatest_meeting.Goals as goal

pub loop-low-init : goal.loop-low-init
loop-low-init c =
    let terms = c.args.terms.now in
    let own = terms.curve_terms in
    halved-start _ c.args.end (demand_meets-zero own.curve terms.load c.density_limit-limit.result own.well_formed terms.load_sized.divisor-pos)

pub demand_meets-requires-clause-limit_high : goal.demand_meets-requires-clause-limit_high
demand_meets-requires-clause-limit_high c = rw c.density_limit-limit.ensures (density_limit-le _)

pub loop-low-preserved-then-demand_meets : goal.loop-low-preserved-then-demand_meets
loop-low-preserved-then-demand_meets c =
    let same = middle-half c.loop-low.low c.loop-low.high (omega arith) in
    rw same
    (halved-passes _ _ _ _ _ c.loop-low.invariant (omega arith) (rw (← same) (sym c.demand_meets.ensures ∙ c.if-demand_meets.true)))

pub loop-low-preserved : goal.loop-low-preserved
loop-low-preserved c =
    let same = middle-half c.loop-low.low c.loop-low.high (omega arith) in
    rw same
    (halved-fails _ _ _ _ _ c.loop-low.invariant (omega arith) (rw (← same) (sym c.demand_meets.ensures ∙ c.if-demand_meets.false)))

pub returns : goal.returns
returns c =
    let terms = c.args.terms.now in
    let own = terms.curve_terms in
    let limit = c.density_limit-limit.result in
    let down = demand_meets-down own.curve terms.load limit own.well_formed terms.load_sized.divisor-pos in
    let done = halved-done _ _ _ _ _ c.loop-low.invariant down (omega arith) in
    record {
      found = rw (sym c.density_limit-limit.ensures) (simp (done.0, done.1));
      value = rw (← done.0) (greatest-le _ c.args.end);
      tries = rw (← done.1) (tried_up_to-steps _ c.args.end);
    }
