-- Points of the manual's curve and how far below it the shown speed is, each worked out by whole powers;
-- proofs/Distances proves them.
use Rattle.std.specs.Prelude.{◌≡◌, ℕ, suc, ◌+◌}
use Rattle.curve.specs.declared.kind.Kind.TheVariants as Kind
use Rattle.curve.specs.Curves.{curve_at}
use Rattle.curve.specs.Speed.{shown_speed}
use Rattle.accuracy.specs.ManualCurve.{AtMostManualCurve}
use Rattle.accuracy.specs.Promises.{JustBelowManualCurve}

-- ACCURACY-3: at F and v the shown speed is s, k whole thousandths of mi/h below the manual's curve
abbrev pub ShownBelow : (f v s k : ℕ) → Type 0
ShownBelow f v s k =
    (shown_speed (curve_at Kind.Multilane f) v ≡ s)
    × AtMostManualCurve f v (s + k)
    × (AtMostManualCurve f v (s + suc k) → ⊥)

-- ACCURACY-3: nine points with their distances
-- The farthest that was found, and the same flow rate at the highest F; just past the breakpoint, and at it;
-- halfway from there to capacity; at capacity, with the highest c and with the lowest; and two points at
-- which the curve is all but a whole number: with the exponent 1.3101 the first would be 8 below, with 1.3099
-- the second 3.
abbrev pub DistancesShown : Type 0
DistancesShown =
    ShownBelow 69923 2292 51307 22
    × ShownBelow 70000 2292 51308 22
    × ShownBelow 60000 1401 59996 2
    × ShownBelow 60000 1400 60000 0
    × ShownBelow 60000 1800 55518 0
    × ShownBelow 65000 2300 51111 0
    × ShownBelow 45000 1900 42222 0
    × ShownBelow 63462 1822 58396 7
    × ShownBelow 64634 1714 61148 4

-- ACCURACY-2, ACCURACY-3: the farthest of them is less than 26 below, worked out without the theorem
abbrev pub FarthestJustBelow : Type 0
FarthestJustBelow = JustBelowManualCurve 69923 2292 51307
