-- The theorem of specs/Promises, proved.
-- With T(i) at the place i of v, and the fall 9F − 2c, in ninths: S is F − fall × T(i) / 9,000,000, and the
-- shown speed s is S rounded down. At most the curve: fall × T(i) ≤ 9(F − s) × 1,000,000 is carried up to the
-- powers, by the table's rule at i and 1,000p ≤ i × q. Not so s + 26: it would be carried down to fall ×
-- (T(i) − 1,311) ≤ 9(F − s − 26) × 1,000,000, by the table's rule and step at the place before i. But fall ×
-- 1,311 is below 9 × 25,000,000, and the rounding takes off less than 1.
use Rattle.std.proofs.Common.{◌≡◌, refl, ◌↔◌, ℕ, ◌+◌, ◌*◌, ◌-◌, ◌/◌, ◌^◌, ◌≤◌, ◌<◌, arith, mul-le-mul, mul-le-mul_left, mul_comm, div-mul-le_self, lt_of_not-le, T, leb, lit<, leb→le, le-leb}
use native.Mathlib.Nat.{mul-sub, lt-div-mul-add, one-le-pow}
use borrow.Author.Tests.{lt-leb}
use Rattle.numbers.specs.Division.{div_up}
use Rattle.numbers.specs.Fraction.{over, AtMost}
use Rattle.numbers.proofs.BoolLaws.{and-left}
use Rattle.numbers.proofs.DivisionLaws.{le-div_up}
use Rattle.numbers.proofs.FractionLaws.{AtMost-trans, rounded_down-eq}
use Rattle.curve.specs.Power.{power}
use Rattle.curve.proofs.PowerLaws.{power-le}
use Rattle.curve.proofs.Laws.{power-is-least}
use Rattle.curve.specs.declared.kind.Kind.{Kind}
use Rattle.curve.specs.declared.Curve.{Curve}
use Rattle.curve.specs.declared.Weather.{Weather}
use Rattle.curve.specs.Kinds.{highest_speed, lowest_adjusted_speed}
use Rattle.curve.specs.Curves.{capacity, curve_at, WellFormed}
use Rattle.curve.specs.Weather.{clear, adjusted_speed, curve_under}
use Rattle.curve.specs.Speed.{beyond_breakpoint, span_to_capacity, fall_share_by, speed, shown_speed}
use Rattle.curve.specs.Service.{density, density_limit, letter_at, meets_limit, letter_number, performance}
use Rattle.curve.proofs.CurveLaws.{curve_at-well_formed}
use Rattle.curve.proofs.WeatherLaws.{adjusted_speed-clear, curve_under-clear}
use Rattle.curve.proofs.SpeedLaws.{place, place-le, reduced_numerator, reduced_speed, reduced_speed-denominator-pos, speed-reduced}
use Rattle.curve.proofs.SpeedLaws.{speed-denominator-pos}
use Rattle.curve.proofs.ServiceLaws.{density-le, letter_at-le-iff}
use Rattle.road.specs.FreeFlowSpeed.{free_flow_speed_of}
use Rattle.road.proofs.FreeFlowSpeedLaws.{free_flow_speed_of-le}
use Rattle.method.specs.Checked.{curve_of, case_curve}
use Rattle.method.specs.Flow.{case_flow_rate}
use Rattle.method.specs.Assess.{measures}
use Rattle.method.proofs.CheckedLaws.{case_curve-well_formed}
use Rattle.method.proofs.RefusalLaws.{accepted-adjusted}
use Rattle.method.proofs.Laws.{multilane-is-in-clear-weather}
use Rattle.answer.specs.Answers.{graded}
use Rattle.answer.proofs.AnswerLaws.{answer_to-accepted}
use Rattle.accuracy.specs.ManualCurve.{AtMostManualCurve}
use Rattle.accuracy.specs.Promises.{tolerance, JustBelowManualCurve, ShownSpeedJustBelow, AnswerJustBelow, AToEUpToCapacity}
use Rattle.accuracy.specs.Promises.{AToEJustBelow, NoSpeedAboveCapacity}
use Rattle.accuracy.proofs.WholePowerLaws.{products-up, products-down, power-under, power-over}
use Rattle.accuracy.proofs.TableStepLaws.{step-reaches}

module _ (f v : ℕ) (slow : 45000 ≤ f) (fast : f ≤ 70000) (within : 100 * v ≤ capacity Kind.Multilane f) where
  abbrev curve : Curve
  curve = curve_at Kind.Multilane f

  -- 9F − 2c, nine times the fall from F to the speed at capacity
  abbrev fall : ℕ
  fall = 9 * f - 2 * capacity Kind.Multilane f

  abbrev p : ℕ
  p = beyond_breakpoint curve v

  abbrev q : ℕ
  q = span_to_capacity curve

  abbrev i : ℕ
  i = place curve v

  abbrev t : ℕ
  t = power i

  abbrev s : ℕ
  s = shown_speed curve v

  ok : WellFormed curve
  ok = curve_at-well_formed Kind.Multilane f slow fast

  q-pos : 0 < q
  q-pos = omega (arith, ok.breakpoint-below)

  i-le : i ≤ 1000
  unfolding curve_at
  i-le = place-le curve v ok within

  -- S rounded down, over 9,000,000
  s-eq : s ≡ (9 * f * 1000000 - fall * t) / 9000000
  unfolding shown_speed reduced_speed reduced_numerator fall_share_by curve_at
  s-eq =
      rw (le-leb (100 * v) (capacity Kind.Multilane f) within)
      (rounded_down-eq (speed curve v) (reduced_speed curve v) (speed-denominator-pos curve v ok) (reduced_speed-denominator-pos curve v ok)
      (speed-reduced curve v ok))

  -- T is at most 1,000,000, so that no subtraction stops at 0
  fall-le : fall * t ≤ 9 * f * 1000000
  fall-le = mul-le-mul {n₂ = 9 * f} {m₂ = 1000000} (omega arith) (power-le i i-le)

  s-low : s * 9000000 + fall * t ≤ 9 * f * 1000000
  s-low = rw s-eq (omega (arith, fall-le, div-mul-le_self (9 * f * 1000000 - fall * t) 9000000))

  s-high : 9 * f * 1000000 < s * 9000000 + 9000000 + fall * t
  s-high = rw s-eq (omega (arith, lt-div-mul-add {a = 9 * f * 1000000 - fall * t} {b = 9000000} (lit< tt)))

  -- ---- at most the curve: T(i) millionths are at least the power 1.31 of p/q
  share-le : AtMost (over (p ^ 131) (q ^ 131)) (over (t ^ 100) (1000000 ^ 100))
  share-le = power-under 100 131 1000 1000000 (10 ^ 207) refl p q i t (le-div_up (1000 * p) q q-pos) (power-is-least i i-le).0

  at-most : AtMostManualCurve f v s
  unfolding AtMostManualCurve
  at-most = (
    omega (arith, s-low),
    rw (mul_comm (fall ^ 100) (p ^ 131))
        (AtMost-trans (over (p ^ 131) (q ^ 131)) (over (t ^ 100) (1000000 ^ 100)) (over ((9 * (f - s)) ^ 100) (fall ^ 100)) (lit< tt)
        share-le (products-up t fall (9 * (f - s)) 1000000 100 (omega (arith, s-low)))),
  )

  -- ---- less than 26 below it: the number before T(i − 1) is at most the power 1.31 of p/q, in millionths
  abbrev u : ℕ
  u = power (i - 1) - 1

  abbrev d : ℕ
  d = 9 * (f - (s + tolerance))

  -- the place before i is at most 1,000p / q
  place-before : (i - 1) * q ≤ 1000 * p
  unfolding div_up
  place-before =
      omega (arith, q-pos, div-mul-le_self (1000 * p + (q - 1)) q, mul_comm (i - 1) q, mul-sub q i 1)

  share-ge : AtMost (over (u ^ 100) (1000000 ^ 100)) (over (p ^ 131) (q ^ 131))
  share-ge = power-over 100 131 1000 1000000 (10 ^ 207) refl p q (i - 1) u place-before (step-reaches i i-le).0

  -- 9F − 2c is greatest at F = 70,000
  fall-top : fall ≤ 170000
  unfolding capacity
  fall-top = omega arith

  not-more : AtMostManualCurve f v (s + tolerance) → ⊥
  unfolding AtMostManualCurve
  not-more h =
      let far : u * fall ≤ d * 1000000 =
      products-down u fall d 1000000 100 (omega arith)
      (AtMost-trans (over (u ^ 100) (1000000 ^ 100)) (over (p ^ 131) (q ^ 131)) (over (d ^ 100) (fall ^ 100)) (one-le-pow 131 q q-pos)
      share-ge (rw (mul_comm (fall ^ 100) (p ^ 131)) at h.1)) in
      omega (arith, s-high, far, h.0, mul-le-mul_left fall (step-reaches i i-le).1, fall-top)

pub shown-speed-just-below : ShownSpeedJustBelow
shown-speed-just-below f v slow fast within = (at-most f v slow fast within, not-more f v slow fast within)

-- ---- through the answer
-- a multilane curve in clear weather
clear-just-below : (kind : Kind) (weather : Weather) (f v : ℕ) → kind ≡ Kind.Multilane → weather ≡ clear
    → lowest_adjusted_speed kind ≤ adjusted_speed weather f
    → f ≤ highest_speed kind
    → 100 * v ≤ (curve_under weather kind f).capacity
    → JustBelowManualCurve (curve_under weather kind f).free_flow_speed v (shown_speed (curve_under weather kind f) v)
unfolding curve_at
clear-just-below kind weather f v e w slow fast =
    rw (e, w, curve_under-clear Kind.Multilane f)
    (shown-speed-just-below f v (rw (e, w, adjusted_speed-clear f) at slow) (rw e at fast))

pub answer-just-below : AnswerJustBelow
unfolding graded measures performance curve_of
answer-just-below case accepted e within =
    rw (answer_to-accepted case accepted)
    (clear-just-below case.road.kind case.weather (free_flow_speed_of case.road case.lanes) (case_flow_rate case) e
    (multilane-is-in-clear-weather case accepted e) (accepted-adjusted case accepted) (free_flow_speed_of-le case.road case.lanes)
    (omega (arith, rw (answer_to-accepted case accepted) at within)))

pub a-to-e-up-to-capacity : AToEUpToCapacity
unfolding graded measures performance meets_limit density_limit
a-to-e-up-to-capacity case accepted = rw (answer_to-accepted case accepted) (λ h. iff.1 (up-to h), λ l. within (iff.0 l))
  where
    curve : Curve
    curve = case_curve case

    v : ℕ
    v = case_flow_rate case

    iff : (letter_number (letter_at curve v) ≤ 5) ↔ T (meets_limit curve v 450)
    iff = letter_at-le-iff curve v 5 (omega arith) (omega arith)

    up-to : 100 * v ≤ curve.capacity → T (meets_limit curve v 450)
    up-to h =
        rw (le-leb (100 * v) curve.capacity h, le-leb (density curve v) 450 (density-le curve v (case_curve-well_formed case accepted) h)) tt

    within : T (meets_limit curve v 450) → 100 * v ≤ curve.capacity
    within t = leb→le (100 * v) curve.capacity (and-left (leb (100 * v) curve.capacity) (leb (density curve v) 450) t)

pub a-to-e-just-below : AToEJustBelow
a-to-e-just-below case accepted e letter = answer-just-below case accepted e ((a-to-e-up-to-capacity case accepted).1 letter)

pub no-speed-above-capacity : NoSpeedAboveCapacity
unfolding graded measures performance shown_speed
no-speed-above-capacity case accepted above =
    rw (answer_to-accepted case accepted)
    (rw (lt-leb (100 * case_flow_rate case) (case_curve case).capacity (lt_of_not-le (rw (answer_to-accepted case accepted) at above))) refl)
