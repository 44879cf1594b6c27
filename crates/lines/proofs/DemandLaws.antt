-- A line with another demand in the place of its tenth field, and the longest line (specs/Laws).
use Rattle.std.proofs.Common.{◌≡◌, ℕ, zero, suc, ◌+◌, ◌-◌, ◌*◌, ◌/◌, ◌%◌, ◌^◌, ◌≤◌, ◌<◌, Some, Ok, List, [], ◌∷◌, ◌++◌}
use Rattle.std.proofs.Common.{length, get_or, set, refl, ap, ◌∙◌, arith, pow-suc, lt-ltb, le-ltb, ⊎_elim, length-append}
use Rattle.std.proofs.lemmas.Bool.{cases_lt}
use Rattle.std.proofs.lemmas.List.{set-append_left, get_or_append_left}
use Rattle.std.proofs.lemmas.Grind.{common_steps}
use Rattle.text.specs.Bytes.{tab}
use Rattle.text.specs.Parts.{parts, on_first}
use Rattle.text.specs.Decimal.{decimal_up_to, decimal}
use Rattle.text.proofs.DigitLaws.{decimal-mono}
use Rattle.road.specs.Cases.{with_demand}
use Rattle.road.specs.Refusals.{greatest_demand}
use Rattle.lines.specs.Fields.{Field, digits, layout, completed, spelled, number, letter, field_as, values_of}
use Rattle.lines.specs.Reading.{case_of, read_values, read_line}
use Rattle.lines.specs.Laws.{LongestIsRead, TenthFieldIsTheDemand}
use Rattle.lines.proofs.Laws.{by-fields, values_of-fits, length-never-decides-alone, read-values}

-- ---- the digits of a number spell it
spelled-push : (bs : List ℕ) (n m d : ℕ) → spelled n bs ≡ Some m → d < 10 → spelled n (bs ++ ((48 + d) ∷ [])) ≡ Some (10 * m + d)
unfolding spelled
spelled-push [] n m d e h = grind (arith, common_steps)
spelled-push (b ∷ bs) n m d e h = grind (arith, common_steps, spelled-push bs (10 * n + (b - 48)) m d)

-- they spell the number, and the first is not 0 unless it is the number
record Spells (n : ℕ) (ds : List ℕ) : Type 0 where
  value : spelled 0 ds ≡ Some n
  some : 0 < length ds
  first : 0 < n → 48 < get_or ds 0 0

one-digit : (n : ℕ) → n < 10 → Spells n ((48 + n) ∷ [])
unfolding spelled
one-digit n l = record { value = grind (arith, common_steps); some = omega arith; first = λ p. omega arith }

digit-more : (n : ℕ) (ds : List ℕ) → 10 ≤ n → Spells (n / 10) ds → Spells n (ds ++ ((48 + n % 10) ∷ []))
digit-more n ds l tenth =
    let seam : 10 * (n / 10) + n % 10 ≡ n = omega arith in
    record {
      value = spelled-push ds 0 (n / 10) (n % 10) tenth.value (omega arith) ∙ ap (λ m. Some m) seam;
      some = omega (arith, length-append ds ((48 + n % 10) ∷ []));
      first = λ p. rw (get_or_append_left ds ((48 + n % 10) ∷ []) 0 0 tenth.some) (tenth.first (omega arith));
    }

decimal-spells : (k n : ℕ) → n < 10 ^ suc k → Spells n (decimal_up_to (suc k) n)
unfolding decimal_up_to
decimal-spells zero n h = let l : n < 10 = omega (arith, h) in rw (lt-ltb n 10 l) (one-digit n l)
decimal-spells (suc k) n h =
    ⊎_elim
    (λ l. rw (lt-ltb n 10 l) (one-digit n l))
    (λ l. rw (le-ltb n 10 l) (digit-more n _ l (decimal-spells k (n / 10) (omega (arith, h, pow-suc 10 (suc k))))))
    (cases_lt n 10)

number-spelled : (n : ℕ) (ds : List ℕ) → length ds ≤ 6 → Spells n ds → (n ≡ 0 → length ds ≡ 1) → number 6 ds ≡ Some n
unfolding number
number-spelled n ds few s none = let value = s.value in let some = s.some in let first = s.first in grind (arith, common_steps)

number-decimal : (n : ℕ) → n ≤ greatest_demand → number 6 (decimal n) ≡ Some n
unfolding decimal_up_to decimal
number-decimal n h =
    number-spelled n (decimal n) (decimal-mono n greatest_demand h) (decimal-spells 19 n (omega arith)) (λ z. rw z refl)

-- ---- a field replaced
-- its values with that field's in the place of its own
abbrev Replaced : List Field → List (List ℕ) → List ℕ → Type 0
Replaced fs ps vs =
    (values_of fs ps ≡ Some vs)
    × ((i : ℕ) (p : List ℕ) (v : ℕ) → i < length fs → field_as (get_or fs i (digits 5)) p ≡ Some v
    → values_of fs (set ps i p) ≡ Some (set vs i v))

replaced-more : (f : Field) (q : List ℕ) (w : ℕ) (fs : List Field) (ps : List (List ℕ)) (vs : List ℕ) → field_as f q ≡ Some w
    → Replaced fs ps vs → Replaced (f ∷ fs) (q ∷ ps) (w ∷ vs)
unfolding values_of
replaced-more f q w fs ps vs h r = (rw (h, r.0), at)
  where
    at : (i : ℕ) (p : List ℕ) (v : ℕ) → i < suc (length fs) → field_as (get_or (f ∷ fs) i (digits 5)) p ≡ Some v
        → values_of (f ∷ fs) (set (q ∷ ps) i p) ≡ Some (set (w ∷ vs) i v)
    at zero p v l k = rw (k, r.0)
    at (suc i) p v l k = rw (h, r.1 i p v (omega arith) k)

values_of-set : (fs : List Field) (ps : List (List ℕ)) (vs : List ℕ) → values_of fs ps ≡ Some vs → Replaced fs ps vs
unfolding values_of
values_of-set = by-fields Replaced (refl, λ i p v l k. absurd (omega arith)) replaced-more

completed-set : (ps : List (List ℕ)) (i : ℕ) (p : List ℕ) → i < 13 → completed (set ps i p) ≡ set (completed ps) i p
unfolding completed
completed-set ps i p l = grind (arith, common_steps, set-append_left)

case_of-set : (vs : List ℕ) (demand : ℕ) → length vs ≡ 15 → case_of (set vs 9 demand) ≡ with_demand (case_of vs) demand
unfolding case_of
case_of-set vs demand e = grind (arith, common_steps)

pub tenth-field-is-the-demand : TenthFieldIsTheDemand
unfolding layout field_as read_values
tenth-field-is-the-demand bs other case demand e h same =
    let r = read-values bs case e in
    let fields : List (List ℕ) = completed (parts tab bs) in
    let long : length r.0 ≡ 15 = (values_of-fits layout fields r.0 r.1).0 in
    let values : values_of layout (set fields 9 (decimal demand)) ≡ Some (set r.0 9 demand) =
    (values_of-set layout fields r.0 r.1).1 9 (decimal demand) demand (omega arith) (number-decimal demand h) in
    length-never-decides-alone other
    ∙ rw (same, completed-set (parts tab bs) 9 (decimal demand) (omega arith), values)
    (ap (λ c. Ok c) (case_of-set r.0 demand long ∙ ap (λ c. with_demand c demand) r.2))

pub longest-is-read : LongestIsRead
unfolding on_first parts layout completed spelled number letter field_as values_of read_values read_line
longest-is-read = (refl, refl)
