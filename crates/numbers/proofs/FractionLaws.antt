-- Exact fractions (specs/Fraction): their order, and what rounding keeps of it.
use Rattle.std.proofs.Common.{◌≡◌, sym, ◌↔◌, ⊎_elim, ℕ, ◌*◌, ◌≤◌, ◌<◌, arith, mul-le-mul_left, mul-le-mul_right, le_of_mul-le-mul_right}
use Rattle.std.proofs.Common.{le-div_iff_mul-le, div-mul-le_self, le_antisymm, le_of_eq, mul-pos, zero-mul, eq-zero-or-pos}
use Rattle.numbers.specs.declared.Fraction.{Fraction}
use Rattle.numbers.specs.Division.{div_up}
use Rattle.numbers.specs.Fraction.{whole, times, divided_by, rounded_down, rounded_up, AtMost, SameValue}
use Rattle.numbers.proofs.DivisionLaws.{div_up-le-iff, le-div_up}

-- the order is transitive
pub AtMost-trans : (x y z : Fraction) → 0 < y.denominator → AtMost x y → AtMost y z → AtMost x z
AtMost-trans x y z p h k =
    le_of_mul-le-mul_right (omega (arith, mul-le-mul_right z.denominator h, mul-le-mul_right x.denominator k)) p

-- the greater fraction is rounded down to no less
pub rounded_down-mono : (x y : Fraction) → 0 < x.denominator → 0 < y.denominator → AtMost x y → rounded_down x ≤ rounded_down y
rounded_down-mono x y p q h =
    (le-div_iff_mul-le q).1
    (le_of_mul-le-mul_right
    (omega (arith, mul-le-mul_right y.denominator (div-mul-le_self x.numerator x.denominator), h)) p)

-- fractions of one value are rounded down to one number
pub rounded_down-eq : (x y : Fraction) → 0 < x.denominator → 0 < y.denominator → SameValue x y → rounded_down x ≡ rounded_down y
rounded_down-eq x y p q e = le_antisymm (rounded_down-mono x y p q (le_of_eq e)) (rounded_down-mono y x q p (le_of_eq (sym e)))

-- the greater fraction is rounded up to no less
pub rounded_up-mono : (x y : Fraction) → 0 < x.denominator → 0 < y.denominator → AtMost x y → rounded_up x ≤ rounded_up y
rounded_up-mono x y p q h =
    (div_up-le-iff x.numerator x.denominator (rounded_up y) p).1
    (le_of_mul-le-mul_right
    (omega (arith, h, mul-le-mul_right x.denominator (le-div_up y.numerator y.denominator q))) q)

-- fractions of one value are rounded up to one number
pub rounded_up-eq : (x y : Fraction) → 0 < x.denominator → 0 < y.denominator → SameValue x y → rounded_up x ≡ rounded_up y
rounded_up-eq x y p q e = le_antisymm (rounded_up-mono x y p q (le_of_eq e)) (rounded_up-mono y x q p (le_of_eq (sym e)))

-- a fraction of one value with one above 0 is above 0
pub SameValue-pos : (x y : Fraction) → 0 < x.numerator → 0 < y.denominator → SameValue x y → 0 < y.numerator
SameValue-pos x y p q e = ⊎_elim zero-case (λ h. h) (eq-zero-or-pos y.numerator)
  where
    zero-case : y.numerator ≡ 0 → 0 < y.numerator
    zero-case z = let none : y.numerator * x.denominator ≡ 0 = rw z (zero-mul x.denominator) in absurd (omega (arith, mul-pos p q))

-- more divided by less is no less
pub divided_by-mono : (m n : ℕ) (x y : Fraction) → m ≤ n → AtMost y x → AtMost (divided_by (whole m) x) (divided_by (whole n) y)
divided_by-mono m n x y h k =
    omega (arith, mul-le-mul_right (x.denominator * y.numerator) h, mul-le-mul_left n k)

-- n / x rounded up is at most l exactly when n is at most l times x
pub quotient-le-iff : (n l : ℕ) (x : Fraction) → 0 < x.numerator
    → (rounded_up (divided_by (whole n) x) ≤ l) ↔ AtMost (whole n) (times (whole l) x)
quotient-le-iff n l x p =
    let d : (div_up (n * x.denominator) (1 * x.numerator) ≤ l) ↔ (n * x.denominator ≤ l * (1 * x.numerator)) =
    div_up-le-iff (n * x.denominator) (1 * x.numerator) l (omega arith) in
    (λ h. omega (arith, d.0 h), λ h. d.1 (omega (arith, h)))
