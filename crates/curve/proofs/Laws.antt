-- The laws that specs/Laws states, proved: each by the law of the file beside its definition.
use Rattle.std.proofs.Common.{refl, sym, ℕ, ◌*◌, ◌^◌, ◌≤◌, arith, leb→le, le→leb}
use Rattle.std.proofs.Math.Decide.{dec_le}
use Rattle.numbers.proofs.SearchLaws.{least-passes, least-le-of}
use Rattle.curve.specs.declared.kind.Kind.TheVariants as Kind
use Rattle.curve.specs.Curves.{capacity}
use Rattle.curve.specs.Power.{reaches_power, power}
use Rattle.curve.specs.Laws.{PowerIsLeast, PowerNeverFalls, TableHoldsPowers}
use Rattle.curve.specs.Laws.{CapacityWithinEnds, CapacityReachesEnds, ClearWeatherChangesNothing, CurveUnderIsWellFormed, SpeedIsAboveZero}
use Rattle.curve.specs.Laws.{SpeedNeverBelowCapacitySpeed, SpeedNeverRisesWithFlow, DensityNeverFallsWithFlow}
use Rattle.curve.specs.Laws.{SpeedNeverFallsWithFreeFlowSpeed, DensityMeetsLimitByExactSpeed, DensityAtMost450, LetterNeverBetterWithFlow}
use Rattle.curve.specs.Laws.{LetterNeverBetter, KindsCarry}
use Rattle.curve.proofs.PowerTable.{power_table}
use Rattle.curve.proofs.PowerLaws.{power_table-at, power-le, power-mono}
use Rattle.curve.proofs.CurveLaws.{capacity-within}
use Rattle.curve.proofs.WeatherLaws.{curve_under-clear, curve_under-fits}
use Rattle.curve.proofs.SpeedLaws.{speed-numerator-pos, speed-denominator-pos, speed-antitone, capacity_speed-le}
use Rattle.curve.proofs.ServiceLaws.{density-le-iff, shown_density-eq, density-mono, density-le, letter_at-flow, letter_at-mono, speed-mono}

pub power-is-least : PowerIsLeast
unfolding power reaches_power
power-is-least i h =
    (leb→le (i ^ 131 * 10 ^ 207) (power i ^ 100) (least-passes (reaches_power i) 1000001 (omega (arith, power-le i h))), no-less)
  where
    go : (t : ℕ) → i ^ 131 * 10 ^ 207 ≤ t ^ 100 → Dec (t ≤ 1000000) → power i ≤ t
    go t e (yes l) = least-le-of (reaches_power i) 1000001 t (le→leb (i ^ 131 * 10 ^ 207) (t ^ 100) e) (omega arith)
    go t e (no l) = omega (arith, power-le i h)

    no-less : (t : ℕ) → i ^ 131 * 10 ^ 207 ≤ t ^ 100 → power i ≤ t
    no-less t e = go t e (dec_le t 1000000)

pub power-never-falls : PowerNeverFalls
power-never-falls i j h k = (power-mono i j h k, power-le j k)

pub table-holds-powers : TableHoldsPowers
unfolding power_table
table-holds-powers = (refl, λ i h. sym (power_table-at i h))

pub kinds-carry : KindsCarry
kinds-carry = (refl, refl)

pub capacity-within-ends : CapacityWithinEnds
capacity-within-ends = capacity-within

pub capacity-reaches-ends : CapacityReachesEnds
unfolding capacity
capacity-reaches-ends Kind.Freeway = (refl, refl)
capacity-reaches-ends Kind.Multilane = (refl, refl)

pub clear-weather-changes-nothing : ClearWeatherChangesNothing
clear-weather-changes-nothing = curve_under-clear

pub curve-under-is-well-formed : CurveUnderIsWellFormed
curve-under-is-well-formed = curve_under-fits

pub speed-is-above-zero : SpeedIsAboveZero
speed-is-above-zero curve v ok h = (speed-numerator-pos curve v ok h, speed-denominator-pos curve v ok)

pub speed-never-below-capacity-speed : SpeedNeverBelowCapacitySpeed
speed-never-below-capacity-speed = capacity_speed-le

pub speed-never-rises-with-flow : SpeedNeverRisesWithFlow
speed-never-rises-with-flow = speed-antitone

pub density-never-falls-with-flow : DensityNeverFallsWithFlow
density-never-falls-with-flow curve v w ok l h = density-mono curve curve v w ok ok (omega arith) h l (speed-antitone curve v w ok l h)

pub speed-never-falls-with-free-flow-speed : SpeedNeverFallsWithFreeFlowSpeed
speed-never-falls-with-free-flow-speed = speed-mono

pub density-meets-limit-by-exact-speed : DensityMeetsLimitByExactSpeed
density-meets-limit-by-exact-speed curve v limit ok h = rw (shown_density-eq curve v h) (density-le-iff curve v limit ok h)

pub density-at-most-450 : DensityAtMost450
density-at-most-450 = density-le

pub letter-never-better-with-flow : LetterNeverBetterWithFlow
letter-never-better-with-flow = letter_at-flow

pub letter-never-better : LetterNeverBetter
letter-never-better = letter_at-mono
