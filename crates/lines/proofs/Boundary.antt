-- What lines of the boundary sections are read as (specs/Boundary), shown by reading them.
use Rattle.std.proofs.Common.{◌≡◌, Result, Ok, Err, refl, sym, ap, ◌∙◌, arith, drop, get_or}
use mathlib.Core.List.{flat_map}
use Rattle.text.specs.Bytes.{bytes_of}
use Rattle.text.specs.Parts.{on_first, parts}
use Rattle.text.specs.Decimal.{decimal_up_to, decimal}
use Rattle.refusals.specs.declared.Refusal.{Refusal}
use Rattle.refusals.specs.Facts.{Shown}
use Rattle.refusals.proofs.NumberLaws.{number-above}
use Rattle.road.specs.declared.Case.{Case}
use Rattle.lines.specs.Fields.{layout, completed, spelled, number, letter, field_as, values_of}
use Rattle.lines.specs.Reading.{case_of, read_values, read_line}
use Rattle.lines.specs.Boundary.{told, line_facts}
use Rattle.lines.proofs.ReadingLaws.{case_of-values}

pub lines-shown : Shown line_facts
unfolding flat_map on_first parts decimal_up_to decimal layout completed spelled number letter field_as values_of case_of read_values read_line line_facts
lines-shown = (refl, (refl, (refl, (refl, (refl, (refl, (refl, (refl, (refl, tt)))))))))

-- a line that tells what a case does is read as that case
pub read-told : (r : Result Case Refusal) (case : Case) → told r ≡ told (Ok case) → r ≡ Ok case
read-told (Ok read) case e =
    ap (λ c. Ok c) (sym (case_of-values read) ∙ ap (λ vs. case_of (drop 1 vs)) e ∙ case_of-values case)
read-told (Err r) case e = absurd (omega (arith, number-above r, ap (λ vs. get_or vs 0 0) e))

-- an empty line, and a line of one field, are refused
pub short-read : (read_line (bytes_of "") ≡ Err Refusal.LineMalformed) × (read_line (bytes_of "F") ≡ Err Refusal.LineMalformed)
unfolding on_first parts layout completed spelled number letter field_as values_of read_values read_line
short-read = (refl, refl)
