-- Whole powers of products and of fractions.
use Rattle.std.proofs.Common.{◌≡◌, refl, ap, ℕ, zero, suc, ◌*◌, ◌^◌, ◌≤◌, ◌<◌, arith, mul-le-mul_left, pow-suc}
use native.Mathlib.Decide.{dec_le}
use native.Mathlib.Nat.{pow-zero, pow-le-pow_left, pow-lt-pow_left}
use Rattle.numbers.specs.Fraction.{over, AtMost}

-- numbers are ordered as their powers are
pub power-order : (a b n : ℕ) → 0 < n → a ^ n ≤ b ^ n → a ≤ b
power-order a b n p h = go (dec_le a b)
  where
    go : Dec (a ≤ b) → a ≤ b
    go (yes l) = l
    go (no l) =
        let more : b ^ n < a ^ n = pow-lt-pow_left (omega arith) (λ e. omega (arith, e)) in absurd (omega arith)

product-power : (a b n : ℕ) → (a * b) ^ n ≡ a ^ n * b ^ n
product-power a b zero = rw (pow-zero (a * b), pow-zero a, pow-zero b) refl
product-power a b (suc n) = rw (pow-suc (a * b) n, pow-suc a n, pow-suc b n, product-power a b n) (omega arith)

module _ (a b c d n : ℕ) where
  -- products are ordered so in their factors' powers too
  pub products-up : a * b ≤ c * d → a ^ n * b ^ n ≤ c ^ n * d ^ n
  products-up h = rw (product-power a b n, product-power c d n) at (pow-le-pow_left h n)

  -- and from there back
  pub products-down : 0 < n → a ^ n * b ^ n ≤ c ^ n * d ^ n → a * b ≤ c * d
  products-down p h = power-order (a * b) (c * d) n p (rw (product-power a b n, product-power c d n) h)

-- the two below with each power as one number
module _ (P Q I T K M R : ℕ) (scale : K * R ≡ M) where
  under : K * P ≤ I * Q → I * R ≤ T → AtMost (over P Q) (over T M)
  under place reaches = omega (arith, ap (λ x. P * x) scale, mul-le-mul_left R place, mul-le-mul_left Q reaches)

  above : I * Q ≤ K * P → T ≤ I * R → AtMost (over T M) (over P Q)
  above place short = omega (arith, ap (λ x. P * x) scale, mul-le-mul_left R place, mul-le-mul_left Q short)

-- K^n × R is M^m: one power of ten, in two ways
module _ (m n K M R : ℕ) (scale : K ^ n * R ≡ M ^ m) (p q : ℕ) where
  -- (p/q)^n is at most t^m / M^m, where p/q is at most i/K and i^n × R at most t^m
  pub power-under : (i t : ℕ) → K * p ≤ i * q → i ^ n * R ≤ t ^ m → AtMost (over (p ^ n) (q ^ n)) (over (t ^ m) (M ^ m))
  power-under i t place reaches =
      under (p ^ n) (q ^ n) (i ^ n) (t ^ m) (K ^ n) (M ^ m) R scale (products-up K p i q n place) reaches

  -- (p/q)^n is at least u^m / M^m, where p/q is at least j/K and j^n × R at least u^m
  pub power-over : (j u : ℕ) → j * q ≤ K * p → u ^ m ≤ j ^ n * R → AtMost (over (u ^ m) (M ^ m)) (over (p ^ n) (q ^ n))
  power-over j u place short =
      above (p ^ n) (q ^ n) (j ^ n) (u ^ m) (K ^ n) (M ^ m) R scale (products-up j q K p n place) short
