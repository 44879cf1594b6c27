-- The laws that specs/Laws states, proved.
use Rattle.std.proofs.Common.{◌≡◌, ℕ, ◌*◌, ◌-◌, ◌^◌, ◌<◌, zero-le, arith, mul-le-mul_left, mul-le-mul_right, mul-zero, le_trans, le_of_mul-le-mul_right}
use native.Mathlib.Nat.{pow-le-pow_left, one-le-pow}
use Rattle.curve.specs.declared.kind.Kind.TheVariants as Kind
use Rattle.curve.specs.Curves.{capacity, breakpoint, curve_at, WellFormed}
use Rattle.curve.specs.Speed.{beyond_breakpoint, span_to_capacity}
use Rattle.curve.proofs.CurveLaws.{curve_at-well_formed}
use Rattle.accuracy.specs.ManualCurve.{AtMostManualCurve}
use Rattle.accuracy.specs.Laws.{LowerSpeedsAtMost, FreeFlowSpeedUpToBreakpoint, CapacitySpeedAtCapacity, NoFasterWithMoreFlow}
use Rattle.accuracy.specs.Laws.{TableStepAtMost1310, TableStepReaches1310}
use Rattle.accuracy.proofs.WholePowerLaws.{power-order}
use Rattle.accuracy.proofs.TableStepLaws.{step-le, step-999}

pub lower-speeds-at-most : LowerSpeedsAtMost
unfolding AtMostManualCurve
lower-speeds-at-most f v s t l h = (
  le_trans l h.0,
  le_trans h.1
      (mul-le-mul_right (span_to_capacity (curve_at Kind.Multilane f) ^ 131)
      (pow-le-pow_left {n = 9 * (f - t)} {m = 9 * (f - s)} (omega arith) 100)),
)

pub free-flow-speed-up-to-breakpoint : FreeFlowSpeedUpToBreakpoint
unfolding AtMostManualCurve curve_at
free-flow-speed-up-to-breakpoint f v s l =
    let none : 100 * v - breakpoint Kind.Multilane f ≡ 0 = omega arith in
    (λ h. h.0, λ h. (h, rw (none, mul-zero ((9 * f - 2 * capacity Kind.Multilane f) ^ 100)) zero-le))

pub capacity-speed-at-capacity : CapacitySpeedAtCapacity
unfolding AtMostManualCurve curve_at
capacity-speed-at-capacity f v s slow fast e =
    rw e (
      λ h. omega (arith, ok.capacity_speed-le, h.0, power-order fall (9 * (f - s)) 100 (omega arith) (le_of_mul-le-mul_right h.1 span)),
      λ h. (
        omega (arith, ok.capacity_speed-le),
        mul-le-mul_right (span_to_capacity (curve_at Kind.Multilane f) ^ 131)
            (pow-le-pow_left {n = fall} {m = 9 * (f - s)} (omega (arith, ok.capacity_speed-le)) 100),
      ),
    )
  where
    fall : ℕ
    fall = 9 * f - 2 * capacity Kind.Multilane f

    ok : WellFormed (curve_at Kind.Multilane f)
    ok = curve_at-well_formed Kind.Multilane f slow fast

    span : 0 < span_to_capacity (curve_at Kind.Multilane f) ^ 131
    span = one-le-pow 131 (span_to_capacity (curve_at Kind.Multilane f)) (omega (arith, ok.breakpoint-below))

pub no-faster-with-more-flow : NoFasterWithMoreFlow
unfolding AtMostManualCurve
no-faster-with-more-flow f v w s l h = (
  h.0,
  le_trans
      (mul-le-mul_left ((9 * f - 2 * capacity Kind.Multilane f) ^ 100)
      (pow-le-pow_left
      {n = beyond_breakpoint (curve_at Kind.Multilane f) v} {m = beyond_breakpoint (curve_at Kind.Multilane f) w} (omega arith) 131))
      h.1,
)

pub table-step-at-most-1310 : TableStepAtMost1310
table-step-at-most-1310 = step-le

pub table-step-reaches-1310 : TableStepReaches1310
table-step-reaches-1310 = step-999
