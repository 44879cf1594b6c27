-- Speed on a curve at flow rate v, in thousandths of mi/h.
use Rattle.std.specs.Prelude.{ℕ, ◌*◌, ◌-◌, ◌≤◌, ◌<◌, if◌then◌else◌, nat_le}
use Rattle.numbers.specs.declared.Fraction.{Fraction}
use Rattle.numbers.specs.Fraction.{over, whole, minus, times, squared, SameValue, rounded_down, rounded_up}
use Rattle.curve.specs.Power.{power}
use Rattle.curve.specs.declared.kind.Kind.{Kind}
use Rattle.curve.specs.declared.Curve.{Curve}

-- CURVE-4, CURVE-5: 100v − b, 0 up to the breakpoint
abbrev pub beyond_breakpoint : Curve → ℕ → ℕ
beyond_breakpoint curve v = 100 * v - curve.breakpoint

-- CURVE-4, CURVE-5: c − b
abbrev pub span_to_capacity : Curve → ℕ
span_to_capacity curve = curve.capacity - curve.breakpoint

-- CURVE-4, CURVE-5, KIND-1: w, by the kind: the exponent is 2 on kind F, 1.31 on kind M
unfoldable pub fall_share_by : Kind → Curve → ℕ → Fraction
fall_share_by Kind.Freeway curve v = squared (over (beyond_breakpoint curve v) (span_to_capacity curve))
fall_share_by Kind.Multilane curve v =
    over (power (rounded_up (over (1000 * beyond_breakpoint curve v) (span_to_capacity curve)))) 1000000

-- CURVE-4, CURVE-5: w, the part of the fall from F to the speed at capacity that is reached at v
abbrev pub fall_share : Curve → ℕ → Fraction
fall_share curve v = fall_share_by curve.kind curve v

-- CURVE-3: S, exactly, for v up to capacity: F up to b, and from there F − (F − 10c/45) × w
unfoldable pub speed : Curve → ℕ → Fraction
speed curve v =
    if nat_le (100 * v) curve.breakpoint then whole curve.free_flow_speed
    else minus (whole curve.free_flow_speed)
    (times (minus (whole curve.free_flow_speed) (over (10 * curve.capacity) 45)) (fall_share curve v))

-- CURVE-6, LETTER-2: S rounded down; 0 above capacity
unfoldable pub shown_speed : Curve → ℕ → ℕ
shown_speed curve v = if nat_le (100 * v) curve.capacity then rounded_down (speed curve v) else 0

-- CURVE-3, SAFE-1: s is a fraction of the same value as S, above 0 and in numbers that the code can go on
-- with
pub record ExactSpeed (curve : Curve) (v : ℕ) (s : Fraction) : Type 0 where
  pub same : SameValue s (speed curve v)
  pub denominator-pos : 0 < s.denominator
  pub denominator-le : s.denominator ≤ 9 * (140000 * 140000)
  pub numerator-pos : 0 < s.numerator
  pub numerator-le : s.numerator ≤ 9 * 75000 * (140000 * 140000)
