-- `lines::field::Fields::letter` meets its contract: the first field is one byte, with a tab behind it or
-- nothing, or it is not.
use Rattle.std.proofs.Common.{◌≡◌, arith, sym}
use Rattle.text.specs.Bytes.{tab}
use Rattle.text.specs.Parts.{count_before}
use Rattle.lines.proofs.FieldsLaws.{none-left, lone, not-lone, letter-read, letter-none, last, not-last}
use Rattle.lines.proofs.field.Fields.letter.Goals as goal

pub returns-in_err-take : goal.returns-in_err-take
returns-in_err-take g c = rw (c.from_residual.ensures, sym c.in_err-take.ensures.value) (none-left _)

pub returns-in-len1 : goal.returns-in-len1
returns-in-len1 g c =
    let bs = c.in_ok-take.field-0.now in
    let one : count_before tab bs ≡ 1 = lone bs c.if-b-ne9.true (omega arith) (λ h. absurd (omega arith)) in
    rw (sym c.in_ok-take.ensures.value, c.take.ensures.after) (letter-read _ bs _ _ one c.of_byte.ensures (last bs (omega arith)))

pub returns-in-9 : goal.returns-in-9
returns-in-9 g c =
    let bs = c.in_ok-take.field-0.now in
    let one : count_before tab bs ≡ 1 = lone bs c.if-b-ne9-2.true (omega arith) (λ h. omega arith) in
    rw (sym c.in_ok-take.ensures.value)
    (letter-read _ bs _ _ one c.of_byte-in-9.ensures (not-last bs 1 2 (omega arith) one (omega arith)))

pub returns-in_default : goal.returns-in_default
returns-in_default g c =
    rw (sym c.in_ok-take.ensures.value) (letter-none _ _ (λ h. let n = not-lone _ h in grind (arith, n, c.in_default.branch)))
