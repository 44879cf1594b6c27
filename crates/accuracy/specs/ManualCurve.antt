-- The manual's multilane speed with the exponent 1.31 exactly, by whole powers: no real number appears.
use Rattle.std.specs.Prelude.{ℕ, ◌*◌, ◌-◌, ◌^◌, ◌≤◌}
use Rattle.curve.specs.declared.kind.Kind.TheVariants as Kind
use Rattle.curve.specs.Curves.{capacity, curve_at}
use Rattle.curve.specs.Speed.{beyond_breakpoint, span_to_capacity}

-- ACCURACY-1: s thousandths of mi/h are at most the manual's speed at free-flow speed f and flow rate v, up
-- to capacity
-- The manual's speed is F up to 100v = b, and F − (F − 10c/45) × (p/q)^1.31 from there to 100v = c, with p =
-- 100v − b and q = c − b; with p = 0 up to the breakpoint it is this one formula. So s is at most it exactly
-- when s ≤ F and
--   (F − 10c/45) × (p/q)^1.31 ≤ F − s                the fall to s is no less than the curve's
--   (9F − 2c) × (p/q)^1.31 ≤ 9(F − s)                times 9, since 10c/45 is 2c/9
--   (9F − 2c)^100 × (p/q)^131 ≤ (9(F − s))^100       both sides to the power 100
--   (9F − 2c)^100 × p^131 ≤ (9(F − s))^100 × q^131   times q^131
-- Each line says what the one before says: of two numbers that are not below 0 the greater has the greater
-- power, 9F − 2c is at least 25,000 for F from 45,000 to 70,000, and q is above 0.
unfoldable pub AtMostManualCurve : (f v s : ℕ) → Type 0
AtMostManualCurve f v s =
    (s ≤ f)
    × ((9 * f - 2 * capacity Kind.Multilane f) ^ 100 * beyond_breakpoint (curve_at Kind.Multilane f) v ^ 131
    ≤ (9 * (f - s)) ^ 100 * span_to_capacity (curve_at Kind.Multilane f) ^ 131)
