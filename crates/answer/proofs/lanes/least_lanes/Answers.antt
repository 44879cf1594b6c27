-- `answer::lanes::least_lanes` meets its contract: the first count of the kind that meets the letter, or 14.
use Rattle.std.proofs.Common.{ap, Ok, T, ◌+◌, ◌<◌, sym, ◌∙◌, ℕ, ◌≤◌, arith, below_more}
use Rattle.numbers.proofs.BoolLaws.{T-true, T-false}
use Rattle.curve.specs.Kinds.{most_lanes}
use Rattle.curve.specs.Service.{letter_number}
use Rattle.curve.proofs.ServiceLaws.{letter_number-ge}
use Rattle.road.specs.Cases.{with_lanes}
use Rattle.answer.specs.Lanes.{lanes_meet}
use Rattle.answer.proofs.LanesLaws.{meets-of-kind, lanes_found-eq, lanes_found-none, lanes_answer-none, lanes_answer-found}
use Rattle.answer.proofs.lanes.least_lanes.Goals as goal

pub loop-lanes-init : goal.loop-lanes-init
loop-lanes-init c =
    let low = c.limits-limits.ensures.fewest_lanes in
    (omega (arith, low), λ k h t. absurd (omega (arith, low, meets-of-kind (with_lanes c.args.fit.now.case k) (letter_number c.args.letter) t)))

pub returns-then-lanes_meet : goal.returns-then-lanes_meet
returns-then-lanes_meet c =
    let case = c.args.fit.now.case in
    let letter = letter_number c.args.letter in
    let l = c.loop-lanes in
    let within : l.lanes ≤ most_lanes case.road.kind = omega (arith, c.loop-lanes-test.true, c.limits-limits.ensures.most_lanes) in
    let own = lanes_found-eq case letter l.lanes within (T-true _ (sym c.lanes_meet.ensures ∙ c.if-lanes_meet.true)) l.invariant.1 in
    sym
    (lanes_answer-found case letter (letter_number-ge c.args.letter) c.requires c.args.fit.now.fits (omega (arith, own, within))
    ∙ ap Ok own)

pub returns-else-lanes_meet : goal.returns-else-lanes_meet
returns-else-lanes_meet c =
    let case = c.args.fit.now.case in
    let letter = letter_number c.args.letter in
    let l = c.loop-lanes in
    let none : (k : ℕ) → k < l.lanes + 1 → T (lanes_meet case letter k) → ⊥ =
    below_more _ _ l.invariant.1 (T-false _ (sym c.lanes_meet.ensures ∙ c.if-lanes_meet.false)) in
    sym (lanes_answer-none case letter (letter_number-ge c.args.letter) c.requires c.args.fit.now.fits
    (omega (arith, lanes_found-none case letter (λ k h. none k (omega (arith, h, c.limits-limits.ensures.most_lanes))))))
