-- `day::day_case::DayCase::answer_with` meets its contract: the service volumes are those with any demand.
use Rattle.std.proofs.Common.{refl, arith}
use Rattle.road.specs.Cases.{with_demand}
use Rattle.method.proofs.RefusalLaws.{accepted-with_demand}
use Rattle.answer.specs.Answers.{graded}
use Rattle.answer.proofs.VolumeLaws.{service_volumes-with_demand}
use Rattle.day.proofs.DayCaseLaws.{accepted-within, accepted-above}
use Rattle.day.proofs.day_case.DayCase.answer_with.Goals as goal

pub returns-then-demand-gt-GREATEST_DEMAND : goal.returns-then-demand-gt-GREATEST_DEMAND
returns-then-demand-gt-GREATEST_DEMAND c =
    let own = c.args.self.now.accepted.now in
    accepted-above (with_demand own.case c.args.demand) (accepted-with_demand own.case 0 own.accepted (omega arith))
    c.if-demand-gt-GREATEST_DEMAND.true

pub returns : goal.returns
unfolding graded
returns c =
    let day_case = c.args.self.now in
    let own = day_case.accepted.now in
    accepted-within (with_demand own.case c.args.demand) (accepted-with_demand own.case 0 own.accepted (omega arith)) c.new.result
    (rw (c.new.ensures, c.measures_at.ensures, day_case.own_volumes, service_volumes-with_demand own.case c.args.demand) refl)
    c.if-demand-gt-GREATEST_DEMAND.false
