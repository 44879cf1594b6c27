-- `day::put_day` meets its contract: each turn writes the answer with one demand behind those before it.
use Rattle.std.proofs.Common.{◌≡◌, ap, ◌∙◌, get_or, arith}
use mathlib.Core.List.{flat_map}
use Rattle.text.proofs.BufferLaws.{nothing}
use Rattle.road.specs.Cases.{with_demand}
use Rattle.method.specs.Refusals.{refusal}
use Rattle.answer.specs.Answers.{answer_to}
use Rattle.day.specs.Days.{day_figures}
use Rattle.day.proofs.DayLaws.{answer_figures-length, lent-room, next-answer}
use Rattle.day.proofs.DayCaseLaws.{refused-with}
use Rattle.day.proofs.put_day.Goals.{in-Ok, in-Err}
use Rattle.day.proofs.put_day.Goals as goal

pub loop-demand-preserved : goal.loop-demand-preserved
loop-demand-preserved c =
    let case = c.args.case in
    let l = c.loop-demand in
    let demand = get_or c.args.demands.now l.demand-index 0 in
    let same : c.match-day_case.answer ≡ answer_to (with_demand case demand) =
    elim c.match-day_case.branch [
      | in-Ok w ↦
          let found = rw w.in-Ok.is at c.of-day_case.ensures.kept in
          let kept = (rw found at c.check-checked.ensures.kept) ∙ c.with_demand.ensures in
          w.answer-is ∙ w.answer_with-answer.ensures ∙ ap (λ k. answer_to (with_demand k demand)) kept
      | in-Err w ↦
          let refused =
          (rw w.in-Err.is at c.of-day_case.ensures.refusal) ∙ c.check-checked.ensures.refusal ∙ ap refusal c.with_demand.ensures in
          w.answer-is ∙ refused-with (with_demand case demand) _ _ refused w.refusal_with.ensures
    ] in
    let wrote = c.put_answer-written.ensures in (
      next-answer case c.args.demands.now l.demand-index c.loop-demand-test.true l.invariant.0 (rw same at wrote),
      omega (arith, wrote.count, answer_figures-length c.match-day_case.answer),
    )

pub loop-demand-init : goal.loop-demand-init
unfolding day_figures flat_map
loop-demand-init c = (nothing, omega (arith, lent-room _ _ c.requires))
