-- The points of specs/Distances, worked out by whole powers.
use Rattle.std.proofs.Common.{refl, arith, not-le_of_lt, lit<, lit≤}
use Rattle.numbers.specs.Division.{div_up}
use Rattle.curve.proofs.PowerTable.{power_table}
use Rattle.curve.proofs.PowerLaws.{power_table-at}
use Rattle.curve.specs.Curves.{capacity, breakpoint, curve_at}
use Rattle.curve.specs.Speed.{fall_share_by, speed, shown_speed}
use Rattle.accuracy.specs.ManualCurve.{AtMostManualCurve}
use Rattle.accuracy.specs.Distances.{DistancesShown, FarthestJustBelow}

pub distances-shown : DistancesShown
unfolding power_table div_up capacity breakpoint curve_at fall_share_by speed shown_speed AtMostManualCurve
distances-shown = (
  (simp (power_table-at 992 (omega arith)), (lit≤ tt, lit≤ tt), λ h. not-le_of_lt (lit< tt) h.1),
  (simp (power_table-at 992 (omega arith)), (lit≤ tt, lit≤ tt), λ h. not-le_of_lt (lit< tt) h.1),
  (simp (power_table-at 2 (omega arith)), (lit≤ tt, lit≤ tt), λ h. not-le_of_lt (lit< tt) h.1),
  (refl, (lit≤ tt, lit≤ tt), λ h. not-le_of_lt (lit< tt) h.0),
  (simp (power_table-at 500 (omega arith)), (lit≤ tt, lit≤ tt), λ h. not-le_of_lt (lit< tt) h.1),
  (simp (power_table-at 1000 (omega arith)), (lit≤ tt, lit≤ tt), λ h. not-le_of_lt (lit< tt) h.1),
  (simp (power_table-at 1000 (omega arith)), (lit≤ tt, lit≤ tt), λ h. not-le_of_lt (lit< tt) h.1),
  (simp (power_table-at 486 (omega arith)), (lit≤ tt, lit≤ tt), λ h. not-le_of_lt (lit< tt) h.1),
  (simp (power_table-at 352 (omega arith)), (lit≤ tt, lit≤ tt), λ h. not-le_of_lt (lit< tt) h.1),
)

pub farthest-just-below : FarthestJustBelow
unfolding capacity breakpoint curve_at AtMostManualCurve
farthest-just-below = ((lit≤ tt, lit≤ tt), λ h. not-le_of_lt (lit< tt) h.1)
