-- A number read digit by digit (specs/Fields, specs/ReadSoFar).
use Rattle.std.proofs.Common.{◌≡◌, ℕ, suc, ◌+◌, ◌-◌, ◌*◌, ◌^◌, ◌≤◌, ◌<◌, Bool, true, false, cond, ◌||◌, ◌⊎◌, Some, None}
use Rattle.std.proofs.Common.{List, [], ◌∷◌, length, get_or, take, drop, eqb, sym, ◌∙◌, arith, add-one, pow-suc, drop-cons}
use Rattle.std.proofs.Common.{ne_eqb, eq-eqb, length-take-le, drop_of_length-le, ⊎_elim, eq-or-lt_of_le}
use Rattle.std.proofs.lemmas.Grind.{common_steps}
use Rattle.std.proofs.Math.Nat.{pow-le-pow_right}
use Rattle.text.specs.Bytes.{tab}
use Rattle.text.specs.Parts.{count_before}
use Rattle.text.proofs.PartsLaws.{count_before-le}
use Rattle.lines.specs.Fields.{digits, digit, spelled, leading_zero, number, field_as}
use Rattle.lines.specs.ReadSoFar.{first_field}

-- a number of i digits with one digit more
pub fits-more : (n d i : ℕ) → n < 10 ^ i → d ≤ 9 → 10 * n + d < 10 ^ (i + 1)
fits-more n d i h k = rw (add-one i) (omega (arith, pow-suc 10 i))

-- 64 bits hold it, up to 19 digits
pub room-for-more : (n i : ℕ) → n < 10 ^ i → i < 19 → 10 * n + 9 < 2 ^ 64
room-for-more n i h l = omega (arith, pow-le-pow_right {n = 10} (omega arith) {i = i} {j = 18} (omega arith))

-- the first i bytes of bs are digits of its first field, and spell n
pub record DigitsRead (bs : List ℕ) (i n : ℕ) : Type 0 where
  pub same-field : i + count_before tab (drop i bs) ≡ count_before tab bs
  pub spells : spelled 0 (first_field bs) ≡ spelled n (first_field (drop i bs))

number-by : (k n : ℕ) (bs : List ℕ) → length bs ≤ k → spelled 0 bs ≡ Some n
    → number k bs ≡ cond (eqb (length bs) 0 || leading_zero bs) None (Some n)
unfolding number
number-by k n bs few e = grind (arith, common_steps)

module _ (bs : List ℕ) (i n : ℕ) (r : DigitsRead bs i n) where
  -- a byte of the field follows
  module _ (h : i < length bs) (other : get_or bs i 0 ≡ tab → ⊥) where
    counted : count_before tab (drop i bs) ≡ suc (count_before tab (drop (i + 1) bs))
    unfolding count_before
    counted = rw (add-one i, drop-cons bs i 0 h, ne_eqb (get_or bs i 0) tab other)

    next : first_field (drop i bs) ≡ get_or bs i 0 ∷ first_field (drop (i + 1) bs)
    next = rw (counted, add-one i, drop-cons bs i 0 h)

    -- one digit more is read
    pub read-more : digit (get_or bs i 0) ≡ true → DigitsRead bs (i + 1) (10 * n + (get_or bs i 0 - 48))
    unfolding spelled
    read-more d = record { same-field = omega (arith, r.same-field, counted); spells = r.spells ∙ rw (next, d) }

    -- it is no digit, or a digit too many
    pub read-stops : (k : ℕ) (d : Bool) → d ≡ digit (get_or bs i 0) → (d ≡ false) ⊎ (i ≡ k) → field_as (digits k) (first_field bs) ≡ None
    unfolding spelled number field_as
    read-stops k d e s =
        let size = length-take-le (count_before tab bs) bs (count_before-le tab bs) in
        let more : i < length (first_field bs) = omega (arith, r.same-field, counted) in
        ⊎_elim
        (λ f. let none : digit (get_or bs i 0) ≡ false = sym e ∙ f in rw (r.spells, next, none) (grind (arith, common_steps)))
        (λ m. grind (arith, common_steps)) s

  -- none follows
  module _ (h : i ≤ length bs) (t : i < length bs → get_or bs i 0 ≡ tab) where
    uncounted : count_before tab (drop i bs) ≡ 0
    unfolding count_before
    uncounted =
        ⊎_elim (λ e. rw (drop_of_length-le bs {i = i} (omega arith))) (λ l. rw (drop-cons bs i 0 l, eq-eqb (get_or bs i 0) tab (t l)))
        (eq-or-lt_of_le h)

    -- no byte of the field follows: it has the digits that were read
    pub counts-all : count_before tab bs ≡ i
    counts-all = omega (arith, r.same-field, uncounted)

    -- then it is the number, unless there is no digit or a leading zero
    pub read-all : (k : ℕ) → i ≤ k
        → field_as (digits k) (first_field bs) ≡ cond (eqb (length (take i bs)) 0 || leading_zero (take i bs)) None (Some n)
    unfolding spelled field_as
    read-all k few =
        let nothing : first_field (drop i bs) ≡ [] = rw uncounted in
        let spells : spelled 0 (first_field bs) ≡ Some n = r.spells ∙ rw nothing in
        rw (counts-all, number-by k n (take i bs) (rw (length-take-le i bs h) few) (rw counts-all at spells))
