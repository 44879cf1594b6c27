-- The terms of a curve (src/speed.rt, specs/Terms).
use Rattle.std.proofs.Common.{◌≡◌, refl, sym, ap, ◌∙◌, ℕ, ◌*◌, ◌-◌, ◌≤◌, ◌<◌, arith, mul-le-mul}
use Rattle.numbers.specs.Fraction.{over}
use Rattle.numbers.proofs.DivisionLaws.{div_ceil-eq}
use Rattle.curve.specs.declared.kind.Kind.{Kind}
use Rattle.curve.specs.declared.Curve.{Curve}
use Rattle.curve.specs.declared.speed.CurveTerms.{CurveTerms}
use Rattle.curve.specs.Speed.{span_to_capacity, fall_share_by, fall_share, ExactSpeed}
use Rattle.curve.specs.Terms.{share_denominator_of}
use Rattle.curve.proofs.ServiceLaws.{performance-exact, performance-beyond, limit-exact, meets_limit-beyond}
use Rattle.curve.proofs.SpeedLaws.{share-le, reduced_numerator, reduced_speed, reduced_speed-exact}

denominator-by : (kind : Kind) (curve : Curve) (v : ℕ)
    → (fall_share_by kind curve v).denominator ≡ share_denominator_of kind (span_to_capacity curve)
unfolding fall_share_by
denominator-by Kind.Freeway curve v = refl
denominator-by Kind.Multilane curve v = refl

share-denominator-eq : (curve : Curve) (v : ℕ) → (fall_share curve v).denominator ≡ share_denominator_of curve.kind (span_to_capacity curve)
share-denominator-eq curve v = denominator-by curve.kind curve v

module _ (terms : CurveTerms) (v : ℕ) where
  -- flow-within, flow-beyond: a flow rate by the greatest that keeps to capacity
  pub flow-within : v ≤ terms.most_flow → (100 * v ≤ terms.curve.capacity) × (10000 * v ≤ 24000000)
  flow-within h = (omega (arith, terms.own_most_flow), omega (arith, terms.own_most_flow, terms.sized.capacity-le))

  pub flow-beyond : terms.most_flow < v → terms.curve.capacity < 100 * v
  flow-beyond h = omega (arith, terms.own_most_flow)

  denominator-eq : terms.share_denominator ≡ (fall_share terms.curve v).denominator
  denominator-eq =
      terms.own_denominator ∙ ap (share_denominator_of terms.curve.kind) terms.own_span ∙ sym (share-denominator-eq terms.curve v)

  module _ (n : ℕ) (h : 100 * v ≤ terms.curve.capacity) (own : n ≡ (fall_share terms.curve v).numerator) where
    -- what is taken from the free-flow term is at most that term
    pub fall-within : terms.fall_term * n ≤ terms.free_flow_term
    fall-within =
        rw (own, terms.own_free_flow_term)
        (mul-le-mul (omega (arith, terms.own_fall_term)) (rw denominator-eq (share-le terms.curve v terms.well_formed h)))

    -- the speed worked from the terms
    pub terms-exact : ExactSpeed terms.curve v (over (terms.free_flow_term - terms.fall_term * n) (9 * terms.share_denominator))
    unfolding reduced_speed reduced_numerator
    terms-exact =
        rw (own, terms.own_free_flow_term, terms.own_fall_term, denominator-eq)
        (reduced_speed-exact terms.curve v terms.well_formed terms.sized h)

-- terms_fit, performance_laws, limit_laws: for tactics: what src wants of a speed, of what is shown and of a
-- limit
pub ruleset terms_fit = (flow-within, flow-beyond, fall-within)

pub ruleset performance_laws = (flow-within, flow-beyond, performance-exact, performance-beyond, div_ceil-eq)

pub ruleset limit_laws = (flow-within, flow-beyond, limit-exact, meets_limit-beyond)
