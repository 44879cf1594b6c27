-- A float's exact value in a unit, rounded down (specs/Survey), by the bits of the float.
use Rattle.std.proofs.Common.{◌≡◌, refl, sym, ap, ◌∙◌, subst, ⊎_elim, Bool, true, false, cond, true≢false, leb, eqb, lit≤, pos}
use Rattle.std.proofs.Common.{ℕ, zero, suc, ◌+◌, ◌-◌, ◌*◌, ◌/◌, ◌%◌, ◌^◌, ◌≤◌, ◌<◌, arith, leb-false, ne_eqb, mod-eq_of_lt}
use Rattle.std.proofs.Common.{le_trans, lt_of_le_of_lt, le_of_suc-le-suc, eq-or-lt_of_le, pow-add, pow_pos, pow_mono}
use Rattle.std.proofs.Common.{mul_assoc, mul_comm, mul_left_comm, mul-pos, mul-le-mul, mul-le-mul_left, mul-le-mul_right}
use Rattle.std.proofs.Common.{div-lt_iff_lt-mul, le-div_iff_mul-le}
use Rattle.std.proofs.Math.Nat.{mul-lt-mul_of_pos_left, mul-mul-mul_comm, mul-div-mul_left}
use Rattle.std.proofs.lemmas.Bool.Decides.{nat_tests}
use Rattle.std.proofs.lemmas.Grind.{one_shifted}
use borrow.Author.Tests.{lt-leb}
use lib.Ieee.{Float, nan, inf, fin, binary32, up, down, odd, of_fields, of_bits, is_nan}
use lib.Ieee.Bits.{of_bits-to_bits}
use lib.Ieee.Exact.{HasValue, odd_sign}
use lib.Ieee.Fits.{down_pos}
use lib.Ieee.Nearest.{div_same}
use Rattle.numbers.specs.declared.Fraction.{Fraction}
use Rattle.numbers.specs.Fraction.{times, rounded_up}
use Rattle.refusals.specs.Refusals.{outside}
use Rattle.survey.specs.Survey.{thousandths, exact_value, rounded_in, speed_refused, thousandths_in}
use Rattle.survey.specs.Units.{UnitFits}
use Rattle.survey.proofs.SurveyLaws.{speed_refused-low, speed_refused-high, speed_refused-negative}

-- ---- where a floor lies
-- a / c at most 1 and the unit n / d below 30,000: the floor is below 30,000
floor-low : (a c n d : ℕ) → 0 < c → 0 < d → a ≤ c → n < 30000 * d → a * n / (c * d) < 30000
floor-low a c n d hc hd l h =
    (div-lt_iff_lt-mul (mul-pos hc hd)).1
    (lt_of_le_of_lt (mul-le-mul_right n l) (subst (λ (x : ℕ). c * n < x) (mul_left_comm c 30000 d) (mul-lt-mul_of_pos_left h hc)))

-- a / c at least 512 and 512 units at least 90,001: the floor is above 90,000
floor-high : (a c n d : ℕ) → 0 < c → 0 < d → 512 * c ≤ a → 90001 * d ≤ 512 * n → 90000 < a * n / (c * d)
floor-high a c n d hc hd l h =
    (le-div_iff_mul-le (mul-pos hc hd)).1
    (subst (λ (x : ℕ). x ≤ a * n) (mul_left_comm c 90001 d)
    (le_trans (mul-le-mul_left c h)
    (subst (λ (x : ℕ). x ≤ a * n) (mul_assoc 512 c n ∙ sym (mul_left_comm c 512 n)) (mul-le-mul_right n l))))

-- 2 ^ x is a factor of both sides of the division
floor-cancel : (q x j n d : ℕ) → q * 2 ^ x * n / (2 ^ (x + j) * d) ≡ q * n / (2 ^ j * d)
floor-cancel q x j n d =
    rw (mul_comm q (2 ^ x), mul_assoc (2 ^ x) q n, pow-add 2 x j, mul_assoc (2 ^ x) (2 ^ j) d)
    (mul-div-mul_left (q * n) (2 ^ j * d) (pow_pos x))

-- what the code works out of the bits b, the exponent's field being b / 2 ^ 23 and the digits b % 2 ^ 23
abbrev pub quotient : Fraction → ℕ → ℕ
quotient unit b = (8388608 + b % 8388608) * unit.numerator / (2 ^ (150 - b / 8388608) * unit.denominator)

-- a pattern without the sign
of_bits-fields : (b : ℕ) → b < 2147483648 → of_bits binary32 b ≡ of_fields binary32 false (b / 8388608) (b % 8388608)
unfolding of_bits
of_bits-fields b h = rw (lt-leb 2147483648 b h, mod-eq_of_lt h)

module _ (unit : Fraction) where
  -- NaN: no value, 13
  pub rounded_in-nan : (x : Float) → is_nan x ≡ true → speed_refused (rounded_in unit x) ≡ true
  unfolding rounded_in is_nan
  rounded_in-nan nan h = refl
  rounded_in-nan (inf s) h = absurd (true≢false (sym h))
  rounded_in-nan (fin s m e) h = absurd (true≢false (sym h))

  -- a negative value rounds to a number below 30,000, and an infinite one has none: 13
  negative : (x : Float) (a c : ℕ) → HasValue x true a c → speed_refused (rounded_in unit x) ≡ true
  unfolding rounded_in
  negative nan a c v = refl
  negative (inf s) a c v = refl
  negative (fin s m e) a c v = rw v.0 (speed_refused-negative (rounded_up (times (exact_value m e) unit)))

  -- a positive one is a / c times the unit, rounded down
  positive : (x : Float) (a c : ℕ) → 0 < unit.denominator → 0 < c → HasValue x false a c
      → rounded_in unit x ≡ thousandths (pos (a * unit.numerator / (c * unit.denominator)))
  unfolding rounded_in
  positive nan a c hd hc v = absurd v
  positive (inf s) a c hd hc v = absurd v
  positive (fin s m e) a c hd hc v =
      rw v.0
      (ap (λ (k : ℕ). thousandths (pos k))
      (div_same (m * up e * unit.numerator) (down e * unit.denominator) (a * unit.numerator) (c * unit.denominator)
      (mul-pos (down_pos e) hd) (mul-pos hc hd)
      (mul-mul-mul_comm (m * up e) unit.numerator c unit.denominator
      ∙ ap (λ (y : ℕ). y * (unit.numerator * unit.denominator)) v.1
      ∙ mul-mul-mul_comm a (down e) unit.numerator unit.denominator)))

  -- by the fields of a pattern, the exponent's field x and the digits t. With the sign: 13, whatever they are
  signed : (x t : ℕ) → speed_refused (rounded_in unit (of_fields binary32 true x t)) ≡ true
  unfolding of_fields rounded_in
  signed zero t = negative (odd 24 true t 0 149) (t * 2 ^ 0) (2 ^ 149) (odd_sign 24 true t 0 149)
  signed (suc x) t = by-test (eqb (suc x) 255) (eqb t 0)
    where
      by-test : (a b : Bool) → speed_refused (rounded_in unit (cond a (cond b (inf true) nan) (odd 24 true (8388608 + t) x 149)))
          ≡ true
      by-test true true = refl
      by-test true false = refl
      by-test false b = negative (odd 24 true (8388608 + t) x 149) ((8388608 + t) * 2 ^ x) (2 ^ 149) (odd_sign 24 true (8388608 + t) x 149)

  -- exponent 255: infinite or NaN, 13
  special : (t : ℕ) → speed_refused (rounded_in unit (of_fields binary32 false 255 t)) ≡ true
  unfolding of_fields rounded_in
  special t = by-test (eqb t 0)
    where
      by-test : (b : Bool) → speed_refused (rounded_in unit (cond b (inf false) nan)) ≡ true
      by-test true = refl
      by-test false = refl

  module _ (s : UnitFits unit) where
    -- in units of the least float, 2 ^ 149 of which make 1
    abbrev floor_of : ℕ → ℕ
    floor_of a = a * unit.numerator / (2 ^ 149 * unit.denominator)

    -- exponent 0: t of the least float
    subnormal : (t : ℕ) → rounded_in unit (of_fields binary32 false 0 t) ≡ thousandths (pos (floor_of (t * 2 ^ 0)))
    unfolding of_fields
    subnormal t = positive (odd 24 false t 0 149) (t * 2 ^ 0) (2 ^ 149) s.denominator-pos (pow_pos 149) (odd_sign 24 false t 0 149)

    -- any other exponent: 2 ^ 23 + t, shifted by one less than it
    normal : (x t : ℕ) → suc x < 255 → rounded_in unit (of_fields binary32 false (suc x) t)
        ≡ thousandths (pos (floor_of ((8388608 + t) * 2 ^ x)))
    unfolding of_fields
    normal x t h =
        rw (ne_eqb (suc x) 255 (λ e. omega arith))
        (positive (odd 24 false (8388608 + t) x 149) ((8388608 + t) * 2 ^ x) (2 ^ 149) s.denominator-pos (pow_pos 149)
        (odd_sign 24 false (8388608 + t) x 149))

    -- at most 1: refused as too low
    below-1 : (a : ℕ) → a ≤ 2 ^ 149 → speed_refused (thousandths (pos (floor_of a))) ≡ true
    below-1 a h = speed_refused-low (floor_of a)
        (floor-low a (2 ^ 149) unit.numerator unit.denominator (pow_pos 149) s.denominator-pos h s.low-at-1)

    -- 512 or more: refused as too high
    from-512 : (a : ℕ) → 512 * 2 ^ 149 ≤ a → speed_refused (thousandths (pos (floor_of a))) ≡ true
    from-512 a h = speed_refused-high (floor_of a)
        (floor-high a (2 ^ 149) unit.numerator unit.denominator (pow_pos 149) s.denominator-pos h s.high-at-512)

    -- exponents below that of 1: at most 2 ^ 24 × 2 ^ 125 of the least float, which is 1
    fields-low : (x t : ℕ) → t < 8388608 → x < 127 → speed_refused (rounded_in unit (of_fields binary32 false x t)) ≡ true
    fields-low zero t ht h = ap speed_refused (subnormal t) ∙ below-1 (t * 2 ^ 0) (le_trans {m = 16777216} (omega arith) (lit≤ tt))
    fields-low (suc x) t ht h =
        ap speed_refused (normal x t (omega arith))
        ∙ below-1 ((8388608 + t) * 2 ^ x)
        (mul-le-mul {n₁ = 8388608 + t} {m₁ = 2 ^ x} {n₂ = 16777216} {m₂ = 2 ^ 125} (omega arith) (pow_mono {i = x} {j = 125} (omega arith)))

    -- exponents from that of 512 on: at least 2 ^ 23 × 2 ^ 135 of the least float, which is 512; or 255
    fields-high : (x t : ℕ) → 135 < x → x < 256 → speed_refused (rounded_in unit (of_fields binary32 false x t)) ≡ true
    fields-high zero t h l = absurd (omega arith)
    fields-high (suc x) t h l = ⊎_elim (λ e. rw e (special t)) finite (eq-or-lt_of_le (le_of_suc-le-suc l))
      where
        finite : suc x < 255 → speed_refused (rounded_in unit (of_fields binary32 false (suc x) t)) ≡ true
        finite f =
            ap speed_refused (normal x t f)
            ∙ from-512 ((8388608 + t) * 2 ^ x)
            (mul-le-mul {n₁ = 8388608} {m₁ = 2 ^ 135} {n₂ = 8388608 + t} {m₂ = 2 ^ x} (omega arith) (pow_mono (le_of_suc-le-suc h)))

    -- exponents of 1 up to 512: the powers of two of value and least float cancel
    fields-between : (x t : ℕ) → 127 ≤ x → x ≤ 135
        → rounded_in unit (of_fields binary32 false x t)
        ≡ thousandths (pos ((8388608 + t) * unit.numerator / (2 ^ (150 - x) * unit.denominator)))
    fields-between zero t h l = absurd (omega arith)
    fields-between (suc x) t h l =
        let split : 149 ≡ x + (150 - suc x) = omega arith in
        normal x t (omega arith)
        ∙ ap (λ (k : ℕ). thousandths (pos k))
        (ap (λ (y : ℕ). (8388608 + t) * 2 ^ x * unit.numerator / (2 ^ y * unit.denominator)) split
        ∙ floor-cancel (8388608 + t) x (150 - suc x) unit.numerator unit.denominator)

    -- the bits of a float below 1, subnormals and 0 among them: refused. Below 2 ^ 31 there is no sign
    pub bits-low : (b : ℕ) → b / 8388608 < 127 → speed_refused (rounded_in unit (of_bits binary32 b)) ≡ true
    bits-low b h = rw (of_bits-fields b (omega arith)) (fields-low (b / 8388608) (b % 8388608) (omega arith) h)

    -- of 512 and more, infinite, NaN or negative, -0 among them: refused. The sign is the highest bit
    pub bits-high : (b : ℕ) → 135 < b / 8388608 → speed_refused (rounded_in unit (of_bits binary32 b)) ≡ true
    unfolding of_bits
    bits-high b h = by-sign (leb 2147483648 b) refl
      where
        by-sign : (v : Bool) → leb 2147483648 b ≡ v → speed_refused (rounded_in unit (of_bits binary32 b)) ≡ true
        by-sign true e = rw e (signed (b % 2147483648 / 8388608) (b % 8388608))
        by-sign false e =
            let below : b < 2147483648 = leb-false 2147483648 b e in
            rw (of_bits-fields b below) (fields-high (b / 8388608) (b % 8388608) h (omega arith))

    -- of 1 up to 512: by the range, the floor that the code works out or refused
    pub bits-between : (b : ℕ) → 127 ≤ b / 8388608 → b / 8388608 ≤ 135
        → (speed_refused (rounded_in unit (of_bits binary32 b)) ≡ outside 30000 90000 (quotient unit b))
        × (thousandths_in (rounded_in unit (of_bits binary32 b)) ≡ quotient unit b)
    bits-between b h l =
        let e : rounded_in unit (of_bits binary32 b) ≡ thousandths (pos (quotient unit b)) =
        rw (of_bits-fields b (omega arith)) (fields-between (b / 8388608) (b % 8388608) h l) in
        (ap speed_refused e, ap thousandths_in e)

-- what survey::speed_of_bits goes by
pub ruleset by_bits = (bits-low, bits-high, bits-between, nat_tests, one_shifted)

-- what survey::speed_of_float goes by: a NaN is refused, and any other float is that of its bits
pub ruleset by_float = (rounded_in-nan, of_bits-to_bits)
