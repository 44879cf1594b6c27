-- A line as a case or its refusal (specs/Reading).
use Rattle.std.proofs.Common.{◌≡◌, ℕ, ◌<◌, Bool, true, false, cond, Option, Some, None, Result, Ok, Err, List, ltb, length, lt-ltb, refl, arith}
use Rattle.std.proofs.lemmas.Grind.{common_steps}
use Rattle.text.specs.Bytes.{tab}
use Rattle.text.specs.Parts.{parts}
use Rattle.refusals.specs.declared.Refusal.{Refusal}
use Rattle.road.specs.declared.Case.{Case}
use Rattle.lines.specs.Fields.{layout, completed, values_of}
use Rattle.lines.specs.Reading.{case_of, read_values, longest_line, read_line, case_values}

-- what holds of each case and of refusal 15 holds of each line
pub read_line-by : (P : Result Case Refusal → Type 0) → ((case : Case) → P (Ok case)) → P (Err Refusal.LineMalformed) → (bs : List ℕ)
    → P (read_line bs)
unfolding read_values read_line
read_line-by P case malformed bs = go (ltb longest_line (length bs)) (values_of layout (completed (parts tab bs)))
  where
    go : (b : Bool) (vs : Option (List ℕ)) → P (cond b (Err Refusal.LineMalformed) (read_values vs))
    go true vs = malformed
    go false None = malformed
    go false (Some vs) = case _

-- a line that is refused is refused with 15
pub read_line-refused : (bs : List ℕ) (r : Refusal) → read_line bs ≡ Err r → read_line bs ≡ Err Refusal.LineMalformed
read_line-refused bs r = read_line-by (λ a. a ≡ Err r → a ≡ Err Refusal.LineMalformed) (λ case e. cc) (λ e. refl) bs

-- a line of more than 80 bytes is refused
pub read_line-long : (bs : List ℕ) → longest_line < length bs → read_line bs ≡ Err Refusal.LineMalformed
unfolding read_line
read_line-long bs h = rw (lt-ltb longest_line (length bs) h)

-- a case is that of its values
pub case_of-values : (case : Case) → case_of (case_values (Ok case)) ≡ case
unfolding case_of
case_of-values case = grind (arith, common_steps)
