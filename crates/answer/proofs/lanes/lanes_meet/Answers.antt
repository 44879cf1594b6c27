-- `answer::lanes::lanes_meet` meets its contract: the curve that is found is within the sizes.
use Rattle.std.proofs.Common.{sym, ◌∙◌}
use Rattle.answer.proofs.LanesLaws.{lanes_curve-sized}
use Rattle.answer.proofs.lanes.lanes_meet.Goals as goal

pub new-requires-clause-sized : goal.new-requires-clause-sized
new-requires-clause-sized c =
    lanes_curve-sized c.args.fit.now.case c.args.lanes c.args.fit.now.fits c.requires.fewest c.requires.most c.in-Ok.curve
    (sym c.checked_curve.ensures ∙ c.in-Ok.is)
