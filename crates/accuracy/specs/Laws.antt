-- What it is to be at most the manual's curve, said without powers where that can be: for lower speeds, at
-- the curve's two ends, and with more flow; and the step of the table of powers. The functions of
-- src/promises.rt ensure each.
use Rattle.std.specs.Prelude.{◌≡◌, ◌↔◌, ℕ, suc, ◌+◌, ◌*◌, ◌≤◌}
use Rattle.numbers.specs.Fraction.{over, whole, AtMost}
use Rattle.curve.specs.Power.{power}
use Rattle.curve.specs.declared.kind.Kind.TheVariants as Kind
use Rattle.curve.specs.Kinds.{lowest_speed, highest_speed}
use Rattle.curve.specs.Curves.{capacity, breakpoint}
use Rattle.accuracy.specs.ManualCurve.{AtMostManualCurve}

-- ACCURACY-1: with a speed every lower one is at most the curve, so that the speeds at most the curve end at
-- one place
abbrev pub LowerSpeedsAtMost : Type 0
LowerSpeedsAtMost = (f v s t : ℕ) → s ≤ t → AtMostManualCurve f v t → AtMostManualCurve f v s

-- ACCURACY-1: up to 100v = b the curve is at F
abbrev pub FreeFlowSpeedUpToBreakpoint : Type 0
FreeFlowSpeedUpToBreakpoint =
    (f v s : ℕ) → 100 * v ≤ breakpoint Kind.Multilane f → AtMostManualCurve f v s ↔ (s ≤ f)

-- ACCURACY-1: at 100v = c the curve is at 10c/45; a whole v is there where F is a multiple of 50 or at least
-- 65,000
abbrev pub CapacitySpeedAtCapacity : Type 0
CapacitySpeedAtCapacity =
    (f v s : ℕ) → lowest_speed Kind.Multilane ≤ f → f ≤ highest_speed Kind.Multilane
    → 100 * v ≡ capacity Kind.Multilane f
    → AtMostManualCurve f v s ↔ AtMost (whole s) (over (10 * capacity Kind.Multilane f) 45)

-- ACCURACY-1: with more flow the curve never rises
abbrev pub NoFasterWithMoreFlow : Type 0
NoFasterWithMoreFlow =
    (f less more s : ℕ) → less ≤ more → AtMostManualCurve f more s → AtMostManualCurve f less s

-- ACCURACY-3: from one entry of the table of powers to the next is at most 1,310 millionths
-- With 9F − 2c ≤ 170,000 and the rounding of the speed this makes less than 26.
abbrev pub TableStepAtMost1310 : Type 0
TableStepAtMost1310 = (i : ℕ) → suc i ≤ 1000 → power (suc i) ≤ power i + 1310

-- ACCURACY-3: from place 998 of the table of powers to place 999 it is 1,310
abbrev pub TableStepReaches1310 : Type 0
TableStepReaches1310 = power 999 ≡ power 998 + 1310
