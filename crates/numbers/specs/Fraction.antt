-- Exact fractions of whole numbers, none below 0: src's struct Fraction, a numerator over a denominator, not
-- reduced.
use Rattle.std.specs.Prelude.{◌≡◌, ℕ, ◌*◌, ◌-◌, ◌/◌, ◌≤◌}
use Rattle.numbers.specs.declared.Fraction.{Fraction}
use Rattle.numbers.specs.Division.{div_up}

-- UNIT-2: over n d, whole n: n / d, n / 1
abbrev pub over : ℕ → ℕ → Fraction
over n d = record { numerator = n; denominator = d }

abbrev pub whole : ℕ → Fraction
whole n = over n 1

-- UNIT-2: minus, times, squared: the usual operations; minus, where the second fraction is at most the first
abbrev pub minus : Fraction → Fraction → Fraction
minus x y =
    over (x.numerator * y.denominator - y.numerator * x.denominator) (x.denominator * y.denominator)

abbrev pub times : Fraction → Fraction → Fraction
times x y = over (x.numerator * y.numerator) (x.denominator * y.denominator)

abbrev pub squared : Fraction → Fraction
squared x = times x x

-- UNIT-2: the quotient, for a second fraction above 0
abbrev pub divided_by : Fraction → Fraction → Fraction
divided_by x y = over (x.numerator * y.denominator) (x.denominator * y.numerator)

-- UNIT-3: rounded_down, rounded_up: to a whole number
abbrev pub rounded_down : Fraction → ℕ
rounded_down x = x.numerator / x.denominator

abbrev pub rounded_up : Fraction → ℕ
rounded_up x = div_up x.numerator x.denominator

-- UNIT-2: AtMost, SameValue: the order and the equality of the values, cross-multiplied, for denominators
-- above 0
abbrev pub AtMost : Fraction → Fraction → Type 0
AtMost x y = x.numerator * y.denominator ≤ y.numerator * x.denominator

abbrev pub SameValue : Fraction → Fraction → Type 0
SameValue x y = x.numerator * y.denominator ≡ y.numerator * x.denominator
