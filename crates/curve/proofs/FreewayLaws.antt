-- Kind F: with a higher free-flow speed the speed never falls.
-- The breakpoint falls as F rises, so the proof is not term by term. With p = 100v − b (0 up to b), d what is
-- left of c − b, q the rise of F and a = 9F − 2c: c − b rises by 4q and a by 9q from F = 70,000 up, and by 5q
-- and 7q up to it. Each half is one polynomial inequality; they join at 70,000.
use Rattle.std.proofs.Common.{◌≡◌, ℕ, ◌+◌, ◌*◌, ◌-◌, ◌≤◌, arith, mul-le-mul, mul-le-mul_left, mul-le-mul_right, mul_comm, le_trans}
use Rattle.std.proofs.Common.{add-sub_of_le}
use Rattle.std.proofs.Math.Nat.{mul-sub}
use Rattle.std.proofs.Math.Decide.{dec_le}
use Rattle.numbers.specs.Fraction.{AtMost}
use Rattle.numbers.proofs.FractionLaws.{AtMost-trans}
use Rattle.curve.specs.declared.kind.Kind.TheVariants as Kind
use Rattle.curve.specs.Curves.{capacity, breakpoint, curve_at}
use Rattle.curve.specs.Speed.{fall_share_by, speed}
use Rattle.curve.proofs.CurveLaws.{capacity-le, curve_at-well_formed}
use Rattle.curve.proofs.SpeedLaws.{reduced_numerator, reduced_speed, reduced_speed-denominator-pos, speed-le}

-- from 70,000 up
high-core : (p d q a : ℕ) → 4 * a ≤ 9 * (p + d)
    → (a + 9 * q) * ((p + 4 * q) * (p + 4 * q)) * ((p + d) * (p + d))
    ≤ 9 * q * ((p + d) * (p + d)) * ((p + d + 4 * q) * (p + d + 4 * q)) + a * (p * p) * ((p + d + 4 * q) * (p + d + 4 * q))
high-core p d q a h = omega (arith, mul-le-mul_left (q * d * (p * (p + d + 4 * q) + (p + 4 * q) * (p + d))) h)

-- up to 70,000
low-core : (p d q a : ℕ) → 5 * a ≤ 7 * (p + d)
    → (a + 7 * q) * ((p + 4 * q) * (p + 4 * q)) * ((p + d) * (p + d))
    ≤ 9 * q * ((p + d) * (p + d)) * ((p + d + 5 * q) * (p + d + 5 * q)) + a * (p * p) * ((p + d + 5 * q) * (p + d + 5 * q))
low-core p d q a h = omega (arith, mul-le-mul_left (4 * q * d * ((p + 4 * q) * (p + d) + p * (p + d + 5 * q))) h)

-- x and y are 100v − b before and after the rise q, m and n are c − b, a and e are 9F − 2c
abbrev Rise : (q x y m n a e : ℕ) → Type 0
Rise q x y m n a e = e * (y * y) * (m * m) ≤ 9 * q * (m * m) * (n * n) + a * (x * x) * (n * n)

nearer : (q x y z m n a e : ℕ) → y ≤ z → Rise q x z m n a e → Rise q x y m n a e
nearer q x y z m n a e h r = le_trans (mul-le-mul_right (m * m) (mul-le-mul_left e (mul-le-mul h h))) r

high-rise : (q x y d m n a e : ℕ) → m ≡ x + d → n ≡ x + d + 4 * q → e ≡ a + 9 * q → y ≤ x + 4 * q → 4 * a ≤ 9 * (x + d) → Rise q x y m n a e
high-rise q x y d m n a e em en ee hy ha = rw (em, en, ee)
    (nearer q x y (x + 4 * q) (x + d) (x + d + 4 * q) a (a + 9 * q) hy (high-core x d q a ha))

low-rise : (q x y d m n a e : ℕ) → m ≡ x + d → n ≡ x + d + 5 * q → e ≡ a + 7 * q → y ≤ x + 4 * q → 5 * a ≤ 7 * (x + d) → Rise q x y m n a e
low-rise q x y d m n a e em en ee hy ha = rw (em, en, ee)
    (nearer q x y (x + 4 * q) (x + d) (x + d + 5 * q) a (a + 7 * q) hy (low-core x d q a ha))

sub-cross : (p r s t w z : ℕ) → p * z + t * w ≤ s * w + r * z → (p - r) * z ≤ (s - t) * w
sub-cross p r s t w z h = simp (mul_comm (p - r) z, mul_comm (s - t) w, mul-sub) (omega arith)

-- from the rise to the numerators
pub lift : (f q c₁ c₂ p₁ p₂ m n : ℕ)
    → (9 * (f + q) - 2 * c₂) * p₂ * m ≤ 9 * q * m * n + (9 * f - 2 * c₁) * p₁ * n
    → reduced_numerator f c₁ p₁ m * n ≤ reduced_numerator (f + q) c₂ p₂ n * m
unfolding reduced_numerator
lift f q c₁ c₂ p₁ p₂ m n h =
    sub-cross (9 * f * m) ((9 * f - 2 * c₁) * p₁) (9 * (f + q) * n) ((9 * (f + q) - 2 * c₂) * p₂) m n (omega arith)

-- ---- the freeway's c and b
b-at : (f : ℕ) → f ≤ 75000 → breakpoint Kind.Freeway f + 4 * f ≡ 400000
unfolding breakpoint
b-at f h = omega arith

c-high : (f : ℕ) → 70000 ≤ f → capacity Kind.Freeway f ≡ 240000
unfolding capacity
c-high f h = omega arith

c-low : (f : ℕ) → f ≤ 70000 → capacity Kind.Freeway f ≡ 170000 + f
unfolding capacity
c-low f h = omega arith

abbrev beyond : ℕ → ℕ → ℕ
beyond u f = u - breakpoint Kind.Freeway f

abbrev span : ℕ → ℕ
span f = capacity Kind.Freeway f - breakpoint Kind.Freeway f

abbrev numerator : ℕ → ℕ → ℕ
numerator u f = reduced_numerator f (capacity Kind.Freeway f) (beyond u f * beyond u f) (span f * span f)

-- the order at u = 100v, from f to f + q
abbrev Faster : ℕ → ℕ → ℕ → Type 0
Faster u f g = numerator u f * (span g * span g) ≤ numerator u g * (span f * span f)

high : (u f q : ℕ) → 70000 ≤ f → f + q ≤ 75000 → u ≤ 240000 → Faster u f (f + q)
high u f q h k hu =
    let b₁ : breakpoint Kind.Freeway f + 4 * f ≡ 400000 = b-at f (omega arith) in
    let b₂ : breakpoint Kind.Freeway (f + q) + 4 * (f + q) ≡ 400000 = b-at (f + q) k in
    let c₁ : capacity Kind.Freeway f ≡ 240000 = c-high f h in
    let c₂ : capacity Kind.Freeway (f + q) ≡ 240000 = c-high (f + q) (omega arith) in
    lift f q (capacity Kind.Freeway f) (capacity Kind.Freeway (f + q)) _ _ _ _
    (high-rise q (beyond u f) (beyond u (f + q)) (span f - beyond u f) _ _ _ _ (omega arith) (omega arith) (omega arith)
    (omega arith) (omega arith))

low : (u f q : ℕ) → 55000 ≤ f → f + q ≤ 70000 → u ≤ capacity Kind.Freeway f → Faster u f (f + q)
low u f q h k hu =
    let b₁ : breakpoint Kind.Freeway f + 4 * f ≡ 400000 = b-at f (omega arith) in
    let b₂ : breakpoint Kind.Freeway (f + q) + 4 * (f + q) ≡ 400000 = b-at (f + q) (omega arith) in
    let c₁ : capacity Kind.Freeway f ≡ 170000 + f = c-low f (omega arith) in
    let c₂ : capacity Kind.Freeway (f + q) ≡ 170000 + (f + q) = c-low (f + q) k in
    lift f q (capacity Kind.Freeway f) (capacity Kind.Freeway (f + q)) _ _ _ _
    (low-rise q (beyond u f) (beyond u (f + q)) (span f - beyond u f) _ _ _ _ (omega arith) (omega arith) (omega arith)
    (omega arith) (omega arith))

-- any two free-flow speeds, by the lower one and the rise, or by way of 70,000
low-to : (u f g : ℕ) → 55000 ≤ f → f ≤ g → g ≤ 70000 → u ≤ capacity Kind.Freeway f → Faster u f g
low-to u f g h k e hu = rw (add-sub_of_le k) at (low u f (g - f) h (omega arith) hu)

high-to : (u f g : ℕ) → 70000 ≤ f → f ≤ g → g ≤ 75000 → u ≤ 240000 → Faster u f g
high-to u f g h k e hu = rw (add-sub_of_le k) at (high u f (g - f) h (omega arith) hu)

nine : (a b x y : ℕ) → a * x ≤ b * y → a * (9 * x) ≤ b * (9 * y)
nine a b x y h = omega arith

faster : (v f g : ℕ) → Faster (100 * v) f g → AtMost (reduced_speed (curve_at Kind.Freeway f) v) (reduced_speed (curve_at Kind.Freeway g) v)
unfolding reduced_speed curve_at fall_share_by
faster v f g h = nine (numerator (100 * v) f) (numerator (100 * v) g) (span g * span g) (span f * span f) h

-- AtMost (speed at f) (speed at g) for f ≤ g
pub freeway_speed-mono : (f g v : ℕ) → 55000 ≤ f → f ≤ g → g ≤ 75000 → 100 * v ≤ capacity Kind.Freeway f
    → AtMost (speed (curve_at Kind.Freeway f) v) (speed (curve_at Kind.Freeway g) v)
freeway_speed-mono f g v h k e hu =
    speed-le (curve_at Kind.Freeway f) (curve_at Kind.Freeway g) v v (curve_at-well_formed Kind.Freeway f h (omega arith))
    (curve_at-well_formed Kind.Freeway g (omega arith) e) (go (dec_le g 70000) (dec_le 70000 f))
  where
    top : 100 * v ≤ 240000
    top = le_trans hu (capacity-le Kind.Freeway f)

    go : Dec (g ≤ 70000) → Dec (70000 ≤ f) → AtMost (reduced_speed (curve_at Kind.Freeway f) v) (reduced_speed (curve_at Kind.Freeway g) v)
    go (yes a) d = faster v f g (low-to (100 * v) f g h k a hu)
    go (no a) (yes b) = faster v f g (high-to (100 * v) f g b k e top)
    go (no a) (no b) =
        AtMost-trans (reduced_speed (curve_at Kind.Freeway f) v) (reduced_speed (curve_at Kind.Freeway 70000) v)
        (reduced_speed (curve_at Kind.Freeway g) v)
        (reduced_speed-denominator-pos (curve_at Kind.Freeway 70000) v (curve_at-well_formed Kind.Freeway 70000 (omega arith) (omega arith)))
        (faster v f 70000 (low-to (100 * v) f 70000 h (omega arith) (omega arith) hu))
        (faster v 70000 g (high-to (100 * v) 70000 g (omega arith) (omega arith) e top))
