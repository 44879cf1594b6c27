-- `lines::field::Fields::number_up_to` meets its contract: the loop stops at a byte that is no digit or is
-- one too many, or behind the field's last.
use Rattle.std.proofs.Common.{◌≡◌, ◌<◌, sym, get_or, length, arith, ⊎_elim, inl, inr, ℕ, Bool, true, false, cond, not, Some, None, refl}
use Rattle.std.specs.Bool.{then_some}
use Rattle.text.specs.Bytes.{tab}
use Rattle.lines.proofs.DigitsLaws.{read-more, fits-more, room-for-more, read-stops, read-all, counts-all}
use Rattle.lines.proofs.FieldsLaws.{none-left, reads-none, reads, last, not-last}
use Rattle.lines.proofs.field.Fields.number_up_to.Goals as goal
use Rattle.lines.proofs.field.Fields.number_up_to.Goals.{else-loop-b-test, then-loop-b-test+then-b-eq9}

pub returns-in_err-line : goal.returns-in_err-line
returns-in_err-line c = rw (c.from_residual.ensures, sym c.in_err-line.ensures.value) (none-left _)

pub overflow_mul-value : goal.overflow_mul-value
overflow_mul-value c = omega (arith, room-for-more _ _ c.loop-b.invariant.fits (omega arith))

pub overflow_add-value : goal.overflow_add-value
overflow_add-value c =
    omega (arith, c.from.ensures, c.if-not-is_ascii_digit.ensures.cases, room-for-more _ _ c.loop-b.invariant.fits (omega arith))

pub loop-b-preserved : goal.loop-b-preserved
loop-b-preserved c =
    let l = c.loop-b in
    record {
      none = l.invariant.none;
      counted = omega arith;
      digits = rw c.from.ensures (read-more _ _ _ l.invariant.digits c.loop-b-test.true c.if-b-eq9.false
          (sym c.if-not-is_ascii_digit.ensures.value));
      few = omega arith;
      fits = fits-more _ _ _ l.invariant.fits (omega (arith, c.if-not-is_ascii_digit.ensures.cases));
    }

pub returns-then-not-is_ascii_digit : goal.returns-then-not-is_ascii_digit
returns-then-not-is_ascii_digit c =
    rw (sym c.in_ok-line.ensures.value)
    (reads-none _ _
    (read-stops _ _ _ c.loop-b.invariant.digits c.loop-b-test.true c.if-b-eq9.false _ _ c.is_ascii_digit.ensures.value
    (⊎_elim (λ e. inl e) (λ e. inr (omega arith)) c.then-not-is_ascii_digit.either)))

unless : (b : Bool) (n : ℕ) → then_some (not b) n ≡ cond b None (Some n)
unless true n = refl
unless false n = refl

pub returns : goal.returns
returns c =
    let l = c.loop-b in
    let bs = c.in_ok-line.line.now in
    let ended : l.b-index < length bs → get_or bs l.b-index 0 ≡ tab =
    elim c.loop-b-test.branch [
      | else-loop-b-test w ↦ λ h. absurd (omega arith)
      | then-loop-b-test+then-b-eq9 w ↦ λ h. w.if-b-eq9.true
    ] in
    let count = counts-all _ _ _ l.invariant.digits (omega arith) ended in
    let number = read-all _ _ _ l.invariant.digits (omega arith) ended _ l.invariant.few in
    rw (sym c.in_ok-line.ensures.value)
    (reads _ _ _ _
    (rw (c.then_some.ensures, c.is_number.ensures, number, sym l.invariant.counted) (unless _ _))
    (elim c.loop-b-test.branch [
      | else-loop-b-test w ↦ rw (w.self-is, l.invariant.none) (last bs (omega arith))
      | then-loop-b-test+then-b-eq9 w ↦ rw w.self-is (not-last bs l.b-index _ (omega arith) count (omega arith))
    ]))
