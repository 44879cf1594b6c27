-- Speed on a curve (specs/Speed): laws in the flow rate v, on any well-formed curve, up to capacity.
use Rattle.std.proofs.Common.{◌≡◌, refl, sym, ℕ, ◌*◌, ◌-◌, ◌≤◌, ◌<◌, arith, mul-le-mul, mul-le-mul_left, mul-le-mul_right, mul-pos}
use Rattle.std.proofs.Common.{mul_comm, mul-zero, le_refl, le_of_eq, le_trans, sub-le, lt_of_lt_of_le, le-leb}
use Rattle.std.proofs.Math.Nat.{mul-sub}
use Rattle.std.proofs.Math.Decide.{dec_le}
use Rattle.std.proofs.lemmas.Bool.{lt-leb}
use Rattle.numbers.specs.declared.Fraction.{Fraction}
use Rattle.numbers.specs.Division.{div_up}
use Rattle.numbers.specs.Fraction.{over, whole, AtMost, SameValue}
use Rattle.numbers.proofs.DivisionLaws.{div_up-le-iff, div_up-mono, div_up-zero}
use Rattle.numbers.proofs.FractionLaws.{AtMost-trans, SameValue-pos}
use Rattle.curve.proofs.PowerLaws.{power-zero, power-le, power-mono}
use Rattle.curve.specs.declared.kind.Kind.{Kind}
use Rattle.curve.specs.declared.Curve.{Curve}
use Rattle.curve.specs.Curves.{WellFormed, Sized}
use Rattle.curve.specs.Speed.{beyond_breakpoint, span_to_capacity, fall_share_by, fall_share, speed, ExactSpeed}

-- ---- w
-- the place in the table of powers: 1,000 × (100v − b) / (c − b), rounded up
abbrev pub place : Curve → ℕ → ℕ
place curve v = div_up (1000 * beyond_breakpoint curve v) (span_to_capacity curve)

span-pos : (curve : Curve) → WellFormed curve → 0 < span_to_capacity curve
span-pos curve ok = omega (arith, ok.breakpoint-below)

-- the place in the table of powers is at most 1,000
pub place-le : (curve : Curve) (v : ℕ) → WellFormed curve → 100 * v ≤ curve.capacity → place curve v ≤ 1000
place-le curve v ok h =
    (div_up-le-iff (1000 * beyond_breakpoint curve v) (span_to_capacity curve) 1000 (span-pos curve ok)).1 (omega arith)

module _ (curve : Curve) (ok : WellFormed curve) where
  share-pos-by : (kind : Kind) (v : ℕ) → 0 < (fall_share_by kind curve v).denominator
  unfolding fall_share_by
  share-pos-by Kind.Freeway v = mul-pos (span-pos curve ok) (span-pos curve ok)
  share-pos-by Kind.Multilane v = omega arith

  share-le-by : (kind : Kind) (v : ℕ) → 100 * v ≤ curve.capacity
      → (fall_share_by kind curve v).numerator ≤ (fall_share_by kind curve v).denominator
  unfolding fall_share_by
  share-le-by Kind.Freeway v h =
      let part : beyond_breakpoint curve v ≤ span_to_capacity curve = omega arith in mul-le-mul part part
  share-le-by Kind.Multilane v h = power-le (place curve v) (place-le curve v ok h)

  share-mono-by : (kind : Kind) (v w : ℕ) → v ≤ w → 100 * w ≤ curve.capacity
      → (fall_share_by kind curve v).numerator ≤ (fall_share_by kind curve w).numerator
  unfolding fall_share_by
  share-mono-by Kind.Freeway v w l h =
      let part : beyond_breakpoint curve v ≤ beyond_breakpoint curve w = omega arith in mul-le-mul part part
  share-mono-by Kind.Multilane v w l h =
      power-mono (place curve v) (place curve w)
      (div_up-mono (1000 * beyond_breakpoint curve v) (span_to_capacity curve) (1000 * beyond_breakpoint curve w) (span_to_capacity curve)
      (span-pos curve ok) (omega arith) (le_refl (span_to_capacity curve)))
      (place-le curve w ok h)

  share-zero-by : (kind : Kind) (v : ℕ) → 100 * v ≤ curve.breakpoint → (fall_share_by kind curve v).numerator ≡ 0
  unfolding fall_share_by
  share-zero-by Kind.Freeway v h = let part : beyond_breakpoint curve v ≡ 0 = omega arith in rw part
  share-zero-by Kind.Multilane v h =
      let part : 1000 * beyond_breakpoint curve v ≡ 0 = omega arith in
      rw (part, div_up-zero (span_to_capacity curve) (span-pos curve ok)) power-zero

-- the denominator of w is above 0
pub share-pos : (curve : Curve) (v : ℕ) → WellFormed curve → 0 < (fall_share curve v).denominator
share-pos curve v ok = share-pos-by curve ok curve.kind v

-- w is at most 1
pub share-le : (curve : Curve) (v : ℕ) → WellFormed curve → 100 * v ≤ curve.capacity
    → (fall_share curve v).numerator ≤ (fall_share curve v).denominator
share-le curve v ok h = share-le-by curve ok curve.kind v h

-- the denominator of w does not hang on v
share-denominator-by : (kind : Kind) (curve : Curve) (v w : ℕ)
    → (fall_share_by kind curve v).denominator ≡ (fall_share_by kind curve w).denominator
unfolding fall_share_by
share-denominator-by Kind.Freeway curve v w = refl
share-denominator-by Kind.Multilane curve v w = refl

-- ---- S with 9 in the place of 45
-- the speed at capacity is at most F, in whole numbers
falls : (curve : Curve) → WellFormed curve → 2 * curve.capacity ≤ 9 * curve.free_flow_speed
falls curve ok = omega (arith, ok.capacity_speed-le)

-- (F − (F − 2c/9) × p/q) × 9q
unfoldable pub reduced_numerator : (f c p q : ℕ) → ℕ
reduced_numerator f c p q = 9 * f * q - (9 * f - 2 * c) * p

unfoldable pub reduced_speed : Curve → ℕ → Fraction
reduced_speed curve v =
    over
    (reduced_numerator curve.free_flow_speed curve.capacity (fall_share curve v).numerator (fall_share curve v).denominator)
    (9 * (fall_share curve v).denominator)

-- F − (F − 10c/45) × p/q, as specs/Speed works it out
abbrev fallen : (f c p q : ℕ) → ℕ
fallen f c p q = f * (1 * 45 * q) - (f * 45 - 10 * c * 1) * p * 1

fallen-eq : (f c p q : ℕ) → fallen f c p q ≡ 5 * reduced_numerator f c p q
unfolding reduced_numerator
fallen-eq f c p q = go (9 * f - 2 * c) (f * 45 - 10 * c * 1) (omega arith)
  where
    go : (a e : ℕ) → e ≡ 5 * a → f * (1 * 45 * q) - e * p * 1 ≡ 5 * (9 * f * q - a * p)
    go a e h = rw h (omega arith)

same-fallen : (n f c p q : ℕ) → n ≡ 5 * reduced_numerator f c p q
    → SameValue (over n (1 * (1 * 45 * q))) (over (reduced_numerator f c p q) (9 * q))
same-fallen n f c p q e = rw e (omega arith)

same-free : (f c q : ℕ) → SameValue (whole f) (over (reduced_numerator f c 0 q) (9 * q))
unfolding reduced_numerator
same-free f c q = rw (mul-zero (9 * f - 2 * c)) (omega arith)

-- it has the value of S
pub speed-reduced : (curve : Curve) (v : ℕ) → WellFormed curve → SameValue (speed curve v) (reduced_speed curve v)
unfolding speed reduced_speed
speed-reduced curve v ok = go (dec_le (100 * v) curve.breakpoint)
  where
    go : Dec (100 * v ≤ curve.breakpoint) → SameValue (speed curve v) (reduced_speed curve v)
    go (yes h) =
        simp (le-leb (100 * v) curve.breakpoint h)
        (rw (share-zero-by curve ok curve.kind v h)
        (same-free curve.free_flow_speed curve.capacity (fall_share curve v).denominator))
    go (no h) =
        simp (lt-leb (100 * v) curve.breakpoint (omega arith))
        (same-fallen _ curve.free_flow_speed curve.capacity (fall_share curve v).numerator (fall_share curve v).denominator
        (fallen-eq curve.free_flow_speed curve.capacity (fall_share curve v).numerator (fall_share curve v).denominator))

-- what the numerator is at least and at most, for p/q at most 1
reduced_numerator-ge : (f c p q : ℕ) → 2 * c ≤ 9 * f → p ≤ q → 2 * c * q ≤ reduced_numerator f c p q
unfolding reduced_numerator
reduced_numerator-ge f c p q h k =
    omega (arith, mul-le-mul_left (9 * f - 2 * c) k, mul_comm (9 * f - 2 * c) q, mul-sub q (9 * f) (2 * c), mul-le-mul_right q h)

reduced_numerator-antitone : (f c p r q : ℕ) → p ≤ r → reduced_numerator f c r q ≤ reduced_numerator f c p q
unfolding reduced_numerator
reduced_numerator-antitone f c p r q h = omega (arith, mul-le-mul_left (9 * f - 2 * c) h)

-- reduced_speed-denominator-pos, reduced_speed-pos: it is a fraction, above 0
pub reduced_speed-denominator-pos : (curve : Curve) (v : ℕ) → WellFormed curve → 0 < (reduced_speed curve v).denominator
unfolding reduced_speed
reduced_speed-denominator-pos curve v ok = omega (arith, share-pos curve v ok)

pub reduced_speed-pos : (curve : Curve) (v : ℕ) → WellFormed curve → 100 * v ≤ curve.capacity → 0 < (reduced_speed curve v).numerator
unfolding reduced_speed
reduced_speed-pos curve v ok h =
    lt_of_lt_of_le (mul-pos (omega (arith, ok.breakpoint-below)) (share-pos curve v ok))
    (reduced_numerator-ge curve.free_flow_speed curve.capacity (fall_share curve v).numerator
    (fall_share curve v).denominator (falls curve ok)
    (share-le curve v ok h))

-- speed-denominator-pos, speed-numerator-pos: S is a fraction, above 0
pub speed-denominator-pos : (curve : Curve) (v : ℕ) → WellFormed curve → 0 < (speed curve v).denominator
unfolding speed
speed-denominator-pos curve v ok = go (dec_le (100 * v) curve.breakpoint)
  where
    go : Dec (100 * v ≤ curve.breakpoint) → 0 < (speed curve v).denominator
    go (yes h) = simp (le-leb (100 * v) curve.breakpoint h) (omega arith)
    go (no h) = simp (lt-leb (100 * v) curve.breakpoint (omega arith)) (omega (arith, share-pos curve v ok))

pub speed-numerator-pos : (curve : Curve) (v : ℕ) → WellFormed curve → 100 * v ≤ curve.capacity → 0 < (speed curve v).numerator
speed-numerator-pos curve v ok h =
    SameValue-pos (reduced_speed curve v) (speed curve v) (reduced_speed-pos curve v ok h) (speed-denominator-pos curve v ok)
    (sym (speed-reduced curve v ok))

-- from an order of the reduced speeds to that of the speeds
pub speed-le : (curve₁ curve₂ : Curve) (v w : ℕ) → WellFormed curve₁ → WellFormed curve₂
    → AtMost (reduced_speed curve₁ v) (reduced_speed curve₂ w) → AtMost (speed curve₁ v) (speed curve₂ w)
speed-le curve₁ curve₂ v w ok₁ ok₂ h =
    AtMost-trans (speed curve₁ v) (reduced_speed curve₁ v) (speed curve₂ w) (reduced_speed-denominator-pos curve₁ v ok₁)
    (le_of_eq (speed-reduced curve₁ v ok₁))
    (AtMost-trans (reduced_speed curve₁ v) (reduced_speed curve₂ w) (speed curve₂ w) (reduced_speed-denominator-pos curve₂ w ok₂) h
    (le_of_eq (sym (speed-reduced curve₂ w ok₂))))

-- with more flow S never rises
pub speed-antitone : (curve : Curve) (v w : ℕ) → WellFormed curve → v ≤ w → 100 * w ≤ curve.capacity
    → AtMost (speed curve w) (speed curve v)
unfolding reduced_speed
speed-antitone curve v w ok l h =
    speed-le curve curve w v ok ok
    (rw (share-denominator-by curve.kind curve w v)
    (mul-le-mul_right (9 * (fall_share curve v).denominator)
    (reduced_numerator-antitone curve.free_flow_speed curve.capacity (fall_share curve v).numerator (fall_share curve w).numerator
    (fall_share curve v).denominator (share-mono-by curve ok curve.kind v w l h))))

-- S is at least the speed at capacity, 10c/45
pub capacity_speed-le : (curve : Curve) (v : ℕ) → WellFormed curve → 100 * v ≤ curve.capacity
    → AtMost (over (10 * curve.capacity) 45) (speed curve v)
unfolding reduced_speed
capacity_speed-le curve v ok h =
    AtMost-trans (over (10 * curve.capacity) 45) (reduced_speed curve v) (speed curve v) (reduced_speed-denominator-pos curve v ok)
    (omega (
      arith,
      reduced_numerator-ge curve.free_flow_speed curve.capacity (fall_share curve v).numerator
          (fall_share curve v).denominator (falls curve ok) (share-le curve v ok h),
    ))
    (le_of_eq (sym (speed-reduced curve v ok)))

-- ---- what 64 bits hold
share-denominator-le-by : (kind : Kind) (curve : Curve) (v : ℕ) → Sized curve → (fall_share_by kind curve v).denominator ≤ 140000 * 140000
unfolding fall_share_by
share-denominator-le-by Kind.Freeway curve v sized = mul-le-mul {n₂ = 140000} {m₂ = 140000} sized.span-le sized.span-le
share-denominator-le-by Kind.Multilane curve v sized = omega arith

-- share-denominator-le, reduced_speed-exact: what 64 bits hold of w and of S
pub share-denominator-le : (curve : Curve) (v : ℕ) → Sized curve → (fall_share curve v).denominator ≤ 140000 * 140000
share-denominator-le curve v sized = share-denominator-le-by curve.kind curve v sized

reduced_numerator-le : (f c p q : ℕ) → f ≤ 75000 → q ≤ 140000 * 140000 → reduced_numerator f c p q ≤ 9 * 75000 * (140000 * 140000)
unfolding reduced_numerator
reduced_numerator-le f c p q h k = le_trans (sub-le (9 * f * q) ((9 * f - 2 * c) * p))
    (mul-le-mul {n₂ = 675000} {m₂ = 19600000000} (omega arith) k)

pub reduced_speed-exact : (curve : Curve) (v : ℕ) → WellFormed curve → Sized curve → 100 * v ≤ curve.capacity
    → ExactSpeed curve v (reduced_speed curve v)
unfolding reduced_speed
reduced_speed-exact curve v ok sized h =
    record {
      same = sym (speed-reduced curve v ok);
      denominator-pos = reduced_speed-denominator-pos curve v ok;
      denominator-le = omega (arith, share-denominator-le curve v sized);
      numerator-pos = reduced_speed-pos curve v ok h;
      numerator-le = reduced_numerator-le curve.free_flow_speed curve.capacity (fall_share curve v).numerator
          (fall_share curve v).denominator sized.speed-le (share-denominator-le curve v sized);
    }
