-- Kind M: with a higher free-flow speed the speed never falls: the place in the table of powers comes
-- earlier, and the fall to the speed at capacity grows by no more than F does.
use Rattle.std.proofs.Common.{ℕ, ◌+◌, ◌*◌, ◌-◌, ◌≤◌, arith, mul-le-mul_left, mul-le-mul_right, add-sub_of_le}
use Rattle.numbers.specs.Fraction.{AtMost}
use Rattle.numbers.proofs.DivisionLaws.{div_up-mono}
use Rattle.curve.specs.Power.{power}
use Rattle.curve.proofs.PowerLaws.{power-le, power-mono}
use Rattle.curve.specs.declared.kind.Kind.TheVariants as Kind
use Rattle.curve.specs.Curves.{capacity, breakpoint, curve_at}
use Rattle.curve.specs.Speed.{beyond_breakpoint, span_to_capacity, fall_share_by, speed}
use Rattle.curve.proofs.CurveLaws.{curve_at-well_formed}
use Rattle.curve.proofs.SpeedLaws.{place, place-le, reduced_numerator, reduced_speed, speed-le}
use Rattle.curve.proofs.FreewayLaws.{lift}

place-antitone : (f g v : ℕ) → 45000 ≤ f → f ≤ g → place (curve_at Kind.Multilane g) v ≤ place (curve_at Kind.Multilane f) v
unfolding curve_at capacity breakpoint
place-antitone f g v h k =
    div_up-mono (1000 * beyond_breakpoint (curve_at Kind.Multilane g) v) (span_to_capacity (curve_at Kind.Multilane g))
    (1000 * beyond_breakpoint (curve_at Kind.Multilane f) v) (span_to_capacity (curve_at Kind.Multilane f)) (omega arith)
    (omega arith) (omega arith)

fall-rise : (f q : ℕ) → 9 * (f + q) - 2 * capacity Kind.Multilane (f + q) ≤ 9 * f - 2 * capacity Kind.Multilane f + 9 * q
unfolding capacity
fall-rise f q = omega arith

-- the numerators at f and at f + q, with the powers t and s at their places
rise : (f q t s : ℕ) → s ≤ t → t ≤ 1000000
    → reduced_numerator f (capacity Kind.Multilane f) t 1000000 ≤ reduced_numerator (f + q) (capacity Kind.Multilane (f + q)) s 1000000
rise f q t s h top =
    let fall : 9 * (f + q) - 2 * capacity Kind.Multilane (f + q) ≤ 9 * f - 2 * capacity Kind.Multilane f + 9 * q = fall-rise f q in
    omega (
      arith,
      lift f q (capacity Kind.Multilane f) (capacity Kind.Multilane (f + q)) t s 1000000 1000000
          (omega (
            arith,
            mul-le-mul_left (9 * (f + q) - 2 * capacity Kind.Multilane (f + q)) h,
            mul-le-mul_right t fall,
            mul-le-mul_left (9 * q) top,
          )),
    )

-- AtMost (speed at f) (speed at g) for f ≤ g
pub multilane_speed-mono : (f g v : ℕ) → 45000 ≤ f → f ≤ g → g ≤ 70000 → 100 * v ≤ capacity Kind.Multilane f
    → AtMost (speed (curve_at Kind.Multilane f) v) (speed (curve_at Kind.Multilane g) v)
unfolding reduced_speed curve_at fall_share_by
multilane_speed-mono f g v h k e hv =
    let first : place (curve_at Kind.Multilane f) v ≤ 1000 =
    place-le (curve_at Kind.Multilane f) v (curve_at-well_formed Kind.Multilane f h (omega arith)) hv in
    let powers : power (place (curve_at Kind.Multilane g) v) ≤ power (place (curve_at Kind.Multilane f) v) =
    power-mono (place (curve_at Kind.Multilane g) v) (place (curve_at Kind.Multilane f) v) (place-antitone f g v h k) first in
    speed-le (curve_at Kind.Multilane f) (curve_at Kind.Multilane g) v v (curve_at-well_formed Kind.Multilane f h (omega arith))
    (curve_at-well_formed Kind.Multilane g (omega arith) e)
    (mul-le-mul_right 9000000
    (rw (add-sub_of_le k) at
    (rise f (g - f) (power (place (curve_at Kind.Multilane f) v)) (power (place (curve_at Kind.Multilane g) v)) powers
    (power-le (place (curve_at Kind.Multilane f) v) first))))
