-- What halving tries (specs/Halving).
use Rattle.std.proofs.Common.{◌/◌, ◌≡◌, refl, sym, ap, ◌∙◌, Bool, true, false, cond, List, [], ◌∷◌, T, length, ℕ, zero, suc, ◌+◌, ◌-◌, ◌*◌, ◌^◌}
use Rattle.std.proofs.Common.{◌≤◌, ◌<◌, zero-le, arith, le_refl, lt-ltb, le-ltb}
use Rattle.std.proofs.Math.Numerals.{unary_clauses}
use Rattle.std.proofs.Math.Decide.{dec_le}
use Rattle.numbers.specs.Search.{greatest, DownwardClosed}
use Rattle.numbers.specs.Halving.{middle, tried_between, tried_up_to}
use Rattle.numbers.proofs.BoolLaws.{T-true, T-false, cond-all}
use Rattle.numbers.proofs.SearchLaws.{greatest-between}

-- a step brings the two nearer
middle-below : (low high : ℕ) → 1 < high - low → middle low high < high
unfolding middle
middle-below low high h = omega arith

middle-halves : (low high n : ℕ) → high - low ≤ 2 * n → (high - middle low high ≤ n) × (middle low high - low ≤ n)
unfolding middle
middle-halves low high n h = (omega arith, omega arith)

module _ (p : ℕ → Bool) where
  done : (steps low high : ℕ) → high - low ≤ 1 → tried_between p steps low high ≡ []
  unfolding tried_between
  done zero low high h = refl
  done (suc steps) low high h = simp (le-ltb 1 (high - low) h)

  next : (steps low high : ℕ) → 1 < high - low
      → tried_between p (suc steps) low high
      ≡ middle low high
      ∷ cond (p (middle low high)) (tried_between p steps (middle low high) high) (tried_between p steps low (middle low high))
  unfolding tried_between
  next steps low high h = simp (lt-ltb 1 (high - low) h)

  -- nothing is tried, or the middle and then what is tried on one of its sides
  by-sides : (P : List ℕ → Type 0) (steps low high : ℕ) → P []
      → (1 < high - low → P (middle low high ∷ tried_between p steps (middle low high) high))
      → (1 < high - low → P (middle low high ∷ tried_between p steps low (middle low high)))
      → P (tried_between p (suc steps) low high)
  by-sides P steps low high none above below = go (dec_le (high - low) 1)
    where
      go : Dec (high - low ≤ 1) → P (tried_between p (suc steps) low high)
      go (yes h) = rw (done (suc steps) low high h) none
      go (no h) =
          let far : 1 < high - low = omega arith in
          rw (next steps low high far) (cond-all (λ l. P (middle low high ∷ l)) (p (middle low high)) (above far) (below far))

  between-steps : (steps low high : ℕ) → length (tried_between p steps low high) ≤ steps
  unfolding tried_between
  between-steps zero low high = le_refl 0
  between-steps (suc steps) low high =
      by-sides (λ l. length l ≤ suc steps) steps low high zero-le
      (λ h. omega (arith, between-steps steps (middle low high) high)) (λ h. omega (arith, between-steps steps low (middle low high)))

  -- no more numbers than the end counts
  pub tried_up_to-steps : (end : ℕ) → length (tried_up_to p end) ≤ end
  unfolding tried_up_to
  tried_up_to-steps end = between-steps end 0 (suc end)

  between-doublings : (steps low high k : ℕ) → high - low ≤ 2 ^ k → length (tried_between p steps low high) ≤ k
  unfolding tried_between
  between-doublings zero low high k h = zero-le
  between-doublings (suc steps) low high zero h = rw (done (suc steps) low high h) (le_refl 0)
  between-doublings (suc steps) low high (suc k) h =
      let halves = middle-halves low high (2 ^ k) (omega (arith, simp unary_clauses at h)) in
      by-sides (λ l. length l ≤ suc k) steps low high zero-le
      (λ f. omega (arith, between-doublings steps (middle low high) high k halves.0))
      (λ f. omega (arith, between-doublings steps low (middle low high) k halves.1))

  -- at most k numbers, where the end is below the k-th power of 2
  pub tried_up_to-doublings : (end k : ℕ) → end < 2 ^ k → length (tried_up_to p end) ≤ k
  unfolding tried_up_to
  tried_up_to-doublings end k h = between-doublings end 0 (suc end) k (omega arith)

  -- at least one number, where the end is above 0
  pub tried_up_to-some : (end : ℕ) → 0 < end → 0 < length (tried_up_to p end)
  unfolding tried_up_to
  tried_up_to-some zero h = absurd (omega arith)
  tried_up_to-some (suc end) h = rw (next end 0 (suc (suc end)) (omega arith)) (omega arith)

-- the middle is half the sum, rounded down
pub middle-half : (low high : ℕ) → low ≤ high → (low + high) / 2 ≡ middle low high
unfolding middle
middle-half low high h = omega arith

-- ---- a search that counts
-- so many were tried on the way to low, which passes, and high, which fails or is past the end; what is left
-- to try makes up the rest
pub record Halved (p : ℕ → Bool) (end low high tries : ℕ) : Type 0 where
  pub apart : low < high
  pub inside : high ≤ end + 1
  pub passes : T (p low)
  pub fails : high ≤ end → T (p high) → ⊥
  pub near : high - low ≤ suc (end - tries)
  pub count : tries + length (tried_between p (end - tries) low high) ≡ length (tried_up_to p end)

module _ (p : ℕ → Bool) (end : ℕ) where
  -- halved-start, halved-passes, halved-fails: at its start, and after a try that passes or fails
  pub halved-start : T (p 0) → Halved p end 0 (end + 1) 0
  unfolding tried_up_to
  halved-start z =
      record {
        apart = omega arith;
        inside = omega arith;
        passes = z;
        fails = λ h t. omega arith;
        near = omega arith;
        count = simp unary_clauses (omega arith);
      }

  module _ (low high tries : ℕ) (c : Halved p end low high tries) where
    -- of a step to nearer numbers, what is left to try is the rest
    left-after : (low' high' : ℕ) → 1 < high - low
        → ((steps : ℕ) → tried_between p (suc steps) low high ≡ middle low high ∷ tried_between p steps low' high')
        → tries + 1 + length (tried_between p (end - (tries + 1)) low' high') ≡ length (tried_up_to p end)
    left-after low' high' far rest =
        let left : end - tries ≡ suc (end - (tries + 1)) = omega (arith, c.near) in
        omega (arith, rw left at c.count, ap length (rest (end - (tries + 1))))

    pub halved-passes : 1 < high - low → p (middle low high) ≡ true → Halved p end (middle low high) high (tries + 1)
    unfolding middle
    halved-passes far e =
        record {
          apart = omega arith;
          inside = c.inside;
          passes = T-true _ e;
          fails = c.fails;
          near = omega (arith, c.near);
          count = left-after (middle low high) high far (λ steps. next p steps low high far ∙ simp e);
        }

    pub halved-fails : 1 < high - low → p (middle low high) ≡ false → Halved p end low (middle low high) (tries + 1)
    unfolding middle
    halved-fails far e =
        record {
          apart = omega arith;
          inside = omega (arith, c.inside);
          passes = c.passes;
          fails = λ h. T-false _ e;
          near = omega (arith, c.near);
          count = left-after low (middle low high) far (λ steps. next p steps low high far ∙ simp e);
        }

    -- at its end it has found the greatest number that passes, and has counted what it tried
    pub halved-done : DownwardClosed p → high - low ≤ 1 → (greatest p end ≡ low) × (length (tried_up_to p end) ≡ tries)
    halved-done down near =
        let neighbours : high ≡ suc low = omega (arith, c.apart) in (
          greatest-between p end low down (omega (arith, c.apart, c.inside)) c.passes (rw neighbours at c.fails),
          omega (arith, c.count, ap length (done p (end - tries) low high near)),
        )

module _ (p q : ℕ → Bool) (end : ℕ) (same : (k : ℕ) → k ≤ end → p k ≡ q k) where
  between-cong : (steps low high : ℕ) → high ≤ suc end → tried_between p steps low high ≡ tried_between q steps low high
  unfolding tried_between
  between-cong zero low high h = refl
  between-cong (suc steps) low high h = go (dec_le (high - low) 1) (between-cong steps (middle low high) high h) (between-cong steps low)
    where
      go : Dec (high - low ≤ 1) → tried_between p steps (middle low high) high ≡ tried_between q steps (middle low high) high
          → ((k : ℕ) → k ≤ suc end → tried_between p steps low k ≡ tried_between q steps low k)
          → tried_between p (suc steps) low high ≡ tried_between q (suc steps) low high
      go (yes near) above below = done p (suc steps) low high near ∙ sym (done q (suc steps) low high near)
      go (no near) above below =
          let far : 1 < high - low = omega arith in
          let inside : middle low high ≤ end = omega (arith, middle-below low high far) in
          next p steps low high far
          ∙ rw (same (middle low high) inside, above, below (middle low high) (omega arith))
          (sym (next q steps low high far))

  -- for tests that agree up to the end the same numbers are tried
  pub tried_up_to-cong : tried_up_to p end ≡ tried_up_to q end
  unfolding tried_up_to
  tried_up_to-cong = between-cong end 0 (suc end) (le_refl (suc end))
