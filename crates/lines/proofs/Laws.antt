-- The laws of specs/Laws, proved.
use Rattle.std.proofs.Common.{◌≡◌, ℕ, zero, suc, ◌+◌, ◌-◌, ◌*◌, ◌^◌, ◌≤◌, ◌<◌, true, cond, Option, Some, None}
use Rattle.std.proofs.Common.{Ok, Err, List, [], ◌∷◌, ◌++◌, eqb, ltb, length, drop, get_or, set, refl, sym, ap, ◌∙◌, subst, arith}
use Rattle.std.proofs.Common.{lt_of_lt_of_le, drop_of_length-le, drop-cons, ne_eqb, le-ltb, add-zero}
use Rattle.std.proofs.lemmas.Grind.{common_steps}
use native.Mathlib.Nat.{pow-le-pow_right}
use Rattle.numbers.proofs.BoolLaws.{cond-all}
use Rattle.text.specs.Bytes.{bytes_of, tab}
use Rattle.text.specs.Parts.{parts, on_first}
use Rattle.text.specs.Decimal.{decimal_up_to, decimal}
use Rattle.text.proofs.PartsLaws.{parts-append, spread, parts-spread}
use Rattle.refusals.specs.declared.Refusal.{Refusal}
use Rattle.road.specs.declared.Case.{Case}
use Rattle.lines.specs.Fields.{Field, letters, digits, layout, clear_factors, completed, spelled, number, one_of}
use Rattle.lines.specs.Fields.{letter, field_as, joined, values_of}
use Rattle.lines.specs.Reading.{kind_of, way_of, median_of, terrain_of, case_of, read_values, longest_line, read_line, kind_byte, way_byte}
use Rattle.lines.specs.Reading.{median_byte, terrain_byte, case_values}
use Rattle.lines.specs.Laws.{LengthNeverDecidesAlone, longest_well_formed, WellFormedLinesAreShort, ClearWeatherMayBeLeftOut}
use Rattle.lines.specs.Laws.{OtherCountsAreMalformed, ValuesAreTheFields, DemandOnALine, RefusalHasItsNumber}
use Rattle.lines.specs.Laws.{older_layout, FiveDigitsReadAsBefore, OlderReaderRefusesMore}
use Rattle.lines.proofs.DigitsLaws.{fits-more}

-- ---- the value of one field
-- FieldFits, Fits: what the value of a field is; values that fit some fields
abbrev pub FieldFits : Field → ℕ → Type 0
FieldFits (letters ls) v = one_of v ls ≡ true
FieldFits (digits k) v = v < 10 ^ k

spelled-cons : (n b v : ℕ) (bs : List ℕ) → spelled n (b ∷ bs) ≡ Some v → (b - 48 ≤ 9) × (spelled (10 * n + (b - 48)) bs ≡ Some v)
unfolding spelled
spelled-cons n b v bs e = grind (arith, common_steps)

spelled-lt : (bs : List ℕ) (n i v : ℕ) → n < 10 ^ i → spelled n bs ≡ Some v → v < 10 ^ (i + length bs)
unfolding spelled
spelled-lt [] n i v h e = let w : n ≡ v = cc in rw (add-zero i, sym w) h
spelled-lt (b ∷ bs) n i v h e =
    let s = spelled-cons n b v bs e in
    let z : i + suc (length bs) ≡ i + 1 + length bs = omega arith in
    rw z (spelled-lt bs (10 * n + (b - 48)) (i + 1) v (fits-more n (b - 48) i h s.0) s.1)

number-is : (k : ℕ) (bs : List ℕ) (v : ℕ) → number k bs ≡ Some v → (length bs ≤ k) × (spelled 0 bs ≡ Some v)
unfolding number
number-is k bs v e = grind (arith, common_steps)

number-lt : (k : ℕ) (bs : List ℕ) (v : ℕ) → number k bs ≡ Some v → v < 10 ^ k
number-lt k bs v e =
    let n = number-is k bs v e in
    lt_of_lt_of_le (spelled-lt bs 0 0 v (omega arith) n.1) (pow-le-pow_right {n = 10} (omega arith) (omega arith))

letter-is : (ls bs : List ℕ) (v : ℕ) → letter ls bs ≡ Some v → (length bs ≡ 1) × (one_of v ls ≡ true)
unfolding letter
letter-is ls bs v e = grind (arith, common_steps)

field_as-fits : (f : Field) (bs : List ℕ) (v : ℕ) → field_as f bs ≡ Some v → FieldFits f v
unfolding field_as
field_as-fits (letters ls) bs v e = (letter-is ls bs v e).1
field_as-fits (digits k) bs v e = number-lt k bs v e

-- ---- the values of all fields
abbrev pub Fits : List Field → List ℕ → Type 0
Fits fs vs = (length vs ≡ length fs) × ((i : ℕ) → i < length fs → FieldFits (get_or fs i (digits 5)) (get_or vs i 0))

fits-cons : (f : Field) (fs : List Field) (v : ℕ) (vs : List ℕ) → FieldFits f v → Fits fs vs → Fits (f ∷ fs) (v ∷ vs)
fits-cons f fs v vs h r = (ap suc r.0, at)
  where
    at : (i : ℕ) → i < suc (length fs) → FieldFits (get_or (f ∷ fs) i (digits 5)) (get_or (v ∷ vs) i 0)
    at zero l = h
    at (suc i) l = r.1 i (omega arith)

-- what holds of no field, and of a field more where it is well formed, holds of the values of all
pub by-fields : (P : List Field → List (List ℕ) → List ℕ → Type 0) → P [] [] []
    → ((f : Field) (p : List ℕ) (v : ℕ) (fs : List Field) (ps : List (List ℕ)) (vs : List ℕ)
    → field_as f p ≡ Some v → P fs ps vs → P (f ∷ fs) (p ∷ ps) (v ∷ vs))
    → (fs : List Field) (ps : List (List ℕ)) (vs : List ℕ) → values_of fs ps ≡ Some vs → P fs ps vs
unfolding values_of
by-fields P base step [] [] vs e = let w : [] ≡ vs = cc e in subst (P [] []) w base
by-fields P base step [] (p ∷ ps) vs e = cc
by-fields P base step (f ∷ fs) [] vs e = cc
by-fields P base step (f ∷ fs) (p ∷ ps) vs e =
    go (field_as f p) (values_of fs ps) refl refl e (λ ws k. by-fields P base step fs ps ws k)
  where
    go : (v : Option ℕ) (o : Option (List ℕ)) → field_as f p ≡ v → values_of fs ps ≡ o → joined v o ≡ Some vs
        → ((ws : List ℕ) → values_of fs ps ≡ Some ws → P fs ps ws) → P (f ∷ fs) (p ∷ ps) vs
    go None o h k j r = cc
    go (Some v) None h k j r = cc
    go (Some v) (Some ws) h k j r = let w : v ∷ ws ≡ vs = cc j in subst (P (f ∷ fs) (p ∷ ps)) w (step f p v fs ps ws h (r ws k))

-- the values of well-formed parts fit their fields
pub values_of-fits : (fs : List Field) (ps : List (List ℕ)) (vs : List ℕ) → values_of fs ps ≡ Some vs → Fits fs vs
values_of-fits =
    by-fields (λ fs ps vs. Fits fs vs) (refl, λ i l. absurd (omega arith))
    (λ f p v fs ps vs h r. fits-cons f fs v vs (field_as-fits f p v h) r)

-- ---- how long a well-formed line is
-- the most bytes of a field
abbrev width : Field → ℕ
width (letters ls) = 1
width (digits k) = k

-- of all fields, each with a tab
abbrev widths : List Field → ℕ
widths [] = 0
widths (f ∷ fs) = suc (width f) + widths fs

field_as-length : (f : Field) (bs : List ℕ) (v : ℕ) → field_as f bs ≡ Some v → length bs ≤ width f
unfolding field_as
field_as-length (letters ls) bs v e = omega (arith, (letter-is ls bs v e).0)
field_as-length (digits k) bs v e = (number-is k bs v e).0

pub values_of-sizes : (fs : List Field) (ps : List (List ℕ)) (vs : List ℕ) → values_of fs ps ≡ Some vs
    → (length ps ≡ length fs) × (spread ps ≤ widths fs)
values_of-sizes =
    by-fields (λ fs ps vs. (length ps ≡ length fs) × (spread ps ≤ widths fs)) (refl, omega arith)
    (λ f p v fs ps vs h r. (ap suc r.0, omega (arith, field_as-length f p v h, r.1)))

spread-append : (ps qs : List (List ℕ)) → spread ps ≤ spread (ps ++ qs)
spread-append [] qs = omega arith
spread-append (p ∷ ps) qs = omega (arith, spread-append ps qs)

completed-spread : (ps : List (List ℕ)) → spread ps ≤ spread (completed ps)
unfolding completed
completed-spread ps = cond-all (λ qs. spread ps ≤ spread qs) (eqb (length ps) 13) (spread-append ps clear_factors) (omega arith)

well-formed-length : (bs vs : List ℕ) → values_of layout (completed (parts tab bs)) ≡ Some vs → length bs ≤ longest_well_formed
unfolding layout
well-formed-length bs vs e =
    omega (arith, parts-spread tab bs, completed-spread (parts tab bs), (values_of-sizes layout (completed (parts tab bs)) vs e).1)

-- a list by its entries from place i on
abbrev entries : ℕ → ℕ → List ℕ → List ℕ
entries i zero vs = []
entries i (suc n) vs = get_or vs i 0 ∷ entries (suc i) n vs

drop-entries : (n i : ℕ) (vs : List ℕ) → i + n ≡ length vs → drop i vs ≡ entries i n vs
drop-entries zero i vs h = drop_of_length-le vs {i = i} (omega arith)
drop-entries (suc n) i vs h = drop-cons vs i 0 (omega arith) ∙ ap (λ l. get_or vs i 0 ∷ l) (drop-entries n (suc i) vs (omega arith))

-- ---- letters and their bytes
kind-byte : (b : ℕ) → one_of b (bytes_of "FM") ≡ true → kind_byte (kind_of b) ≡ b
kind-byte b e = grind (arith, common_steps)

way-byte : (b : ℕ) → one_of b (bytes_of "EG") ≡ true → way_byte (way_of b) ≡ b
way-byte b e = grind (arith, common_steps)

median-byte : (b : ℕ) → one_of b (bytes_of "UDT") ≡ true → median_byte (median_of b) ≡ b
median-byte b e = grind (arith, common_steps)

terrain-byte : (b : ℕ) → one_of b (bytes_of "LR") ≡ true → terrain_byte (terrain_of b) ≡ b
terrain-byte b e = grind (arith, common_steps)

-- ---- the laws
case-values : (vs : List ℕ) → Fits layout vs → case_values (Ok (case_of vs)) ≡ vs
unfolding layout case_of
case-values vs f =
    rw (
      kind-byte (get_or vs 0 0) (f.1 0 (omega arith)),
      way-byte (get_or vs 1 0) (f.1 1 (omega arith)),
      median-byte (get_or vs 6 0) (f.1 6 (omega arith)),
      terrain-byte (get_or vs 12 0) (f.1 12 (omega arith)),
    )
    (sym (drop-entries 15 0 vs (omega (arith, f.0))))

pub length-never-decides-alone : LengthNeverDecidesAlone
unfolding read_values read_line
length-never-decides-alone bs = go (values_of layout (completed (parts tab bs))) refl
  where
    go : (o : Option (List ℕ)) → values_of layout (completed (parts tab bs)) ≡ o
        → cond (ltb longest_line (length bs)) (Err Refusal.LineMalformed) (read_values o) ≡ read_values o
    go None e = cond-all (λ r. r ≡ Err Refusal.LineMalformed) (ltb longest_line (length bs)) refl refl
    go (Some vs) e = rw (le-ltb longest_line (length bs) (omega (arith, well-formed-length bs vs e)))

-- a line that is read has values
pub read-values : (bs : List ℕ) (case : Case) → read_line bs ≡ Ok case
    → (vs : List ℕ) × (values_of layout (completed (parts tab bs)) ≡ Some vs) × (case_of vs ≡ case)
unfolding read_values
read-values bs case e = go (values_of layout (completed (parts tab bs))) (sym (length-never-decides-alone bs) ∙ e)
  where
    go : (o : Option (List ℕ)) → read_values o ≡ Ok case → (vs : List ℕ) × (o ≡ Some vs) × (case_of vs ≡ case)
    go None k = cc
    go (Some vs) k = (vs, refl, cc)

pub well-formed-lines-are-short : WellFormedLinesAreShort
well-formed-lines-are-short bs case e = let r = read-values bs case e in well-formed-length bs r.0 r.1

-- with 13 parts, and with the two that stand for clear weather behind them
completed-thirteen : (ps : List (List ℕ)) → length ps ≡ 13 → completed (ps ++ clear_factors) ≡ completed ps
unfolding completed
completed-thirteen ps h = grind (arith, common_steps)

pub clear-weather-may-be-left-out : ClearWeatherMayBeLeftOut
unfolding parts on_first decimal_up_to decimal
clear-weather-may-be-left-out bs h =
    length-never-decides-alone (bs ++ bytes_of "\t1000\t1000")
    ∙ ap (λ ps. read_values (values_of layout ps))
    (ap completed (parts-append tab bs (bytes_of "1000\t1000")) ∙ completed-thirteen (parts tab bs) h)
    ∙ sym (length-never-decides-alone bs)

pub other-counts-are-malformed : OtherCountsAreMalformed
unfolding layout completed read_values
other-counts-are-malformed bs a b =
    length-never-decides-alone bs ∙ go (values_of layout (completed (parts tab bs))) refl
  where
    go : (o : Option (List ℕ)) → values_of layout (completed (parts tab bs)) ≡ o → read_values o ≡ Err Refusal.LineMalformed
    go None e = refl
    go (Some vs) e =
        absurd (b (rw (ne_eqb (length (parts tab bs)) 13 a) at (values_of-sizes layout (completed (parts tab bs)) vs e).0))

pub values-are-the-fields : ValuesAreTheFields
unfolding read_values
values-are-the-fields bs vs e =
    rw (length-never-decides-alone bs, e) (case-values vs (values_of-fits layout (completed (parts tab bs)) vs e))

pub refusal-has-its-number : RefusalHasItsNumber
refusal-has-its-number n = (refl, refl)

pub demand-on-a-line : DemandOnALine
unfolding layout case_of
demand-on-a-line bs case e =
    let r = read-values bs case e in
    omega (arith, ap (λ c. c.demand) r.2, (values_of-fits layout (completed (parts tab bs)) r.0 r.1).1 9 (omega arith))

-- ---- LINE-7: the demand of an older reader
number-shorter : (k : ℕ) (bs : List ℕ) → length bs ≤ k → number (suc k) bs ≡ number k bs
unfolding number
number-shorter k bs h = grind (arith, common_steps)

number-longer : (k : ℕ) (bs : List ℕ) → k < length bs → number k bs ≡ None
unfolding number
number-longer k bs h = grind (arith, common_steps)

-- a field that reads as the one put in its place
same-values : (g : Field) (fs : List Field) (ps : List (List ℕ)) (i : ℕ)
    → field_as (get_or fs i g) (get_or ps i []) ≡ field_as g (get_or ps i []) → values_of fs ps ≡ values_of (set fs i g) ps
unfolding values_of
same-values g [] ps i e = refl
same-values g (f ∷ fs) [] zero e = refl
same-values g (f ∷ fs) [] (suc i) e = refl
same-values g (f ∷ fs) (p ∷ ps) zero e = rw e
same-values g (f ∷ fs) (p ∷ ps) (suc i) e = rw (same-values g fs ps i e)

-- a field that is malformed
no-values : (fs : List Field) (ps : List (List ℕ)) (i : ℕ) → i < length fs
    → field_as (get_or fs i (digits 5)) (get_or ps i []) ≡ None → values_of fs ps ≡ None
unfolding values_of
no-values [] ps i l e = absurd (omega arith)
no-values (f ∷ fs) [] i l e = refl
no-values (f ∷ fs) (p ∷ ps) zero l e = rw e
no-values (f ∷ fs) (p ∷ ps) (suc i) l e = rw (no-values fs ps i (omega arith) e) (joined-none (field_as f p))
  where
    joined-none : (v : Option ℕ) → joined v None ≡ None
    joined-none None = refl
    joined-none (Some v) = refl

completed-demand : (ps : List (List ℕ)) → get_or (completed ps) 9 [] ≡ get_or ps 9 []
unfolding completed
completed-demand ps = grind (arith, common_steps)

pub five-digits-read-as-before : FiveDigitsReadAsBefore
unfolding layout field_as read_line
five-digits-read-as-before bs h =
    let field : List ℕ = get_or (completed (parts tab bs)) 9 [] in
    let few : length field ≤ 5 = rw (completed-demand (parts tab bs)) h in
    rw (same-values (digits 5) layout (completed (parts tab bs)) 9 (number-shorter 5 field few))

pub older-reader-refuses-more : OlderReaderRefusesMore
unfolding layout field_as read_values
older-reader-refuses-more bs h =
    let field : List ℕ = get_or (completed (parts tab bs)) 9 [] in
    let many : 5 < length field = rw (completed-demand (parts tab bs)) h in
    rw (no-values older_layout (completed (parts tab bs)) 9 (omega arith) (number-longer 5 field many))
    (cond-all (λ r. r ≡ Err Refusal.LineMalformed) (ltb longest_line (length bs)) refl refl)
