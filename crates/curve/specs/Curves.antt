-- Capacity, breakpoint and the speed–flow curve, in hundredths of passenger cars per hour per lane.
use Rattle.std.specs.Prelude.{ℕ, ◌+◌, ◌*◌, ◌-◌, ◌≤◌, ◌<◌, min}
use Rattle.numbers.specs.Fraction.{over, whole, AtMost}
use Rattle.curve.specs.declared.kind.Kind.{Kind}
use Rattle.curve.specs.declared.Curve.{Curve}

-- CURVE-1: c at free-flow speed f
unfoldable pub capacity : Kind → ℕ → ℕ
capacity Kind.Freeway f = min 240000 (170000 + f)
capacity Kind.Multilane f = min 230000 (100000 + 2 * f)

-- CURVE-2: b at free-flow speed f
unfoldable pub breakpoint : Kind → ℕ → ℕ
breakpoint Kind.Freeway f = 400000 - 4 * f
breakpoint Kind.Multilane f = 140000

-- CURVE-1, CURVE-2: the curve of a kind at free-flow speed f, in clear weather
unfoldable pub curve_at : Kind → ℕ → Curve
curve_at kind f =
    record { kind = kind; free_flow_speed = f; capacity = capacity kind f; breakpoint = breakpoint kind f }

-- CURVE-3: b is below c, and the speed at capacity, 10c/45, is at most F
pub record WellFormed (curve : Curve) : Type 0 where
  pub breakpoint-below : curve.breakpoint < curve.capacity
  pub capacity_speed-le : AtMost (over (10 * curve.capacity) 45) (whole curve.free_flow_speed)

-- SAFE-1, CURVE-3: the curve's figures are within ends for which 64 bits hold every product
pub record Sized (curve : Curve) : Type 0 where
  pub speed-le : curve.free_flow_speed ≤ 75000
  pub capacity-le : curve.capacity ≤ 240000
  pub span-le : curve.capacity - curve.breakpoint ≤ 140000
