-- Density and letter (specs/Service).
use Rattle.std.proofs.Common.{zero, suc, ◌≡◌, refl, ap, Bool, true, false, cond, ◌↔◌, ℕ, ◌*◌, ◌/◌, ◌≤◌, ◌<◌, arith, le_trans, le_of_eq, zero-mul}
use Rattle.std.proofs.Common.{mul-le-mul_right, div-one, le-leb, T, leb, leb→le, le→leb}
use Rattle.std.proofs.Math.Decide.{dec_le}
use Rattle.std.proofs.lemmas.Bool.{lt-leb}
use Rattle.std.proofs.lemmas.Bool.Decides.{nat_tests}
use Rattle.numbers.specs.declared.Fraction.{Fraction}
use Rattle.numbers.specs.Division.{div_up}
use Rattle.numbers.specs.Fraction.{over, whole, times, divided_by, rounded_down, AtMost}
use Rattle.numbers.proofs.DivisionLaws.{div_up-le-iff, div_up-zero}
use Rattle.numbers.proofs.FractionLaws.{AtMost-trans, rounded_down-mono, rounded_down-eq, rounded_up-mono, rounded_up-eq, divided_by-mono}
use Rattle.numbers.proofs.FractionLaws.{quotient-le-iff}
use Rattle.numbers.proofs.BoolLaws.{and-left, and-right}
use Rattle.curve.specs.declared.kind.Kind.{Kind}
use Rattle.curve.specs.declared.Curve.{Curve}
use Rattle.curve.specs.declared.service.Letter.{Letter}
use Rattle.curve.specs.Kinds.{lowest_speed, highest_speed}
use Rattle.curve.specs.Curves.{capacity, curve_at, WellFormed}
use Rattle.curve.specs.Speed.{speed, shown_speed, ExactSpeed}
use Rattle.curve.specs.Service.{density, shown_density, density_letter, letter_at, meets_limit, density_limit, letter_number, performance}
use Rattle.curve.proofs.CurveLaws.{capacity-mono, curve_at-well_formed}
use Rattle.curve.proofs.SpeedLaws.{speed-numerator-pos, speed-denominator-pos, speed-antitone, capacity_speed-le}
use Rattle.curve.proofs.FreewayLaws.{freeway_speed-mono}
use Rattle.curve.proofs.MultilaneLaws.{multilane_speed-mono}

-- ---- density
-- the density meets a limit exactly when 10,000v is at most the limit times S
pub density-le-iff : (curve : Curve) (v limit : ℕ) → WellFormed curve → 100 * v ≤ curve.capacity
    → (density curve v ≤ limit) ↔ AtMost (whole (10000 * v)) (times (whole limit) (speed curve v))
unfolding density
density-le-iff curve v limit ok h = quotient-le-iff (10000 * v) limit (speed curve v) (speed-numerator-pos curve v ok h)

-- up to capacity it is the shown density
pub shown_density-eq : (curve : Curve) (v : ℕ) → 100 * v ≤ curve.capacity → shown_density curve v ≡ density curve v
unfolding shown_density
shown_density-eq curve v h = simp (le-leb (100 * v) curve.capacity h)

-- it may be worked from any fraction of the value of S
pub density-exact : (curve : Curve) (v : ℕ) (s : Fraction) → WellFormed curve → 100 * v ≤ curve.capacity → ExactSpeed curve v s
    → div_up (10000 * v * s.denominator) s.numerator ≡ density curve v
unfolding density
density-exact curve v s ok h exact =
    rounded_up-eq (over (10000 * v * s.denominator) s.numerator) (divided_by (whole (10000 * v)) (speed curve v)) exact.numerator-pos
    (omega (arith, speed-numerator-pos curve v ok h))
    (crossed (10000 * v) s.numerator s.denominator (speed curve v).numerator (speed curve v).denominator exact.same)
  where
    crossed : (m a b x y : ℕ) → a * y ≡ x * b → m * b * (1 * x) ≡ m * y * a
    crossed m a b x y e = omega (arith, ap (λ n. m * n) e)

-- the test of a limit may be worked from any such fraction too
pub limit-exact : (curve : Curve) (v limit : ℕ) (s : Fraction) → WellFormed curve → 100 * v ≤ curve.capacity → ExactSpeed curve v s
    → leb (10000 * v * s.denominator) (limit * s.numerator) ≡ meets_limit curve v limit
unfolding meets_limit
limit-exact curve v limit s ok h exact =
    let dense = density-exact curve v s ok h exact in
    let iff = div_up-le-iff (10000 * v * s.denominator) s.numerator limit exact.numerator-pos in
    grind (arith, nat_tests, dense, iff.0, iff.1)

-- what the three are worked from such a fraction, and past capacity
pub performance-exact : (curve : Curve) (v : ℕ) (s : Fraction) → WellFormed curve → 100 * v ≤ curve.capacity → ExactSpeed curve v s
    → performance curve v
    ≡ (let d = div_up (10000 * v * s.denominator) s.numerator in
    record { speed = s.numerator / s.denominator; density = d; letter = density_letter d })
unfolding performance shown_speed shown_density letter_at
performance-exact curve v s ok h exact =
    simp (
      le-leb (100 * v) curve.capacity h,
      density-exact curve v s ok h exact,
      rounded_down-eq s (speed curve v) exact.denominator-pos (speed-denominator-pos curve v ok) exact.same,
    )

pub performance-beyond : (curve : Curve) (v : ℕ) → curve.capacity < 100 * v
    → performance curve v ≡ record { speed = 0; density = 0; letter = Letter.F }
unfolding performance shown_speed shown_density letter_at
performance-beyond curve v h = simp (lt-leb (100 * v) curve.capacity h)

-- more flow at no higher speed: no less density
pub density-mono : (curve₁ curve₂ : Curve) (v w : ℕ) → WellFormed curve₁ → WellFormed curve₂
    → 100 * v ≤ curve₁.capacity → 100 * w ≤ curve₂.capacity → v ≤ w → AtMost (speed curve₂ w) (speed curve₁ v)
    → density curve₁ v ≤ density curve₂ w
unfolding density
density-mono curve₁ curve₂ v w ok₁ ok₂ h k l s =
    rounded_up-mono (divided_by (whole (10000 * v)) (speed curve₁ v)) (divided_by (whole (10000 * w)) (speed curve₂ w))
    (omega (arith, speed-numerator-pos curve₁ v ok₁ h)) (omega (arith, speed-numerator-pos curve₂ w ok₂ k))
    (divided_by-mono (10000 * v) (10000 * w) (speed curve₁ v) (speed curve₂ w) (omega arith) s)

-- up to capacity the density is at most 450
pub density-le : (curve : Curve) (v : ℕ) → WellFormed curve → 100 * v ≤ curve.capacity → density curve v ≤ 450
density-le curve v ok h =
    (density-le-iff curve v 450 ok h).1
    (omega (arith, capacity_speed-le curve v ok h, mul-le-mul_right (speed curve v).denominator h))

-- shown_density-le, shown_speed-le: what is shown is at most 450, and at most F
pub shown_density-le : (curve : Curve) (v : ℕ) → WellFormed curve → shown_density curve v ≤ 450
unfolding shown_density
shown_density-le curve v ok = go (dec_le (100 * v) curve.capacity)
  where
    go : Dec (100 * v ≤ curve.capacity) → shown_density curve v ≤ 450
    go (yes h) = rw (le-leb (100 * v) curve.capacity h) (density-le curve v ok h)
    go (no h) = rw (lt-leb (100 * v) curve.capacity (omega arith)) (omega arith)

-- without flow the speed is F, and it never rises with flow
pub shown_speed-le : (curve : Curve) (v : ℕ) → WellFormed curve → shown_speed curve v ≤ curve.free_flow_speed
unfolding shown_speed speed
shown_speed-le curve v ok = go (dec_le (100 * v) curve.capacity)
  where
    free : rounded_down (speed curve 0) ≡ curve.free_flow_speed
    free = rw (le-leb (100 * 0) curve.breakpoint (omega arith)) (div-one curve.free_flow_speed)

    go : Dec (100 * v ≤ curve.capacity) → shown_speed curve v ≤ curve.free_flow_speed
    go (yes h) =
        rw (le-leb (100 * v) curve.capacity h)
        (le_trans (rounded_down-mono (speed curve v) (speed curve 0) (speed-denominator-pos curve v ok)
        (speed-denominator-pos curve 0 ok) (speed-antitone curve 0 v ok (omega arith) h))
        (le_of_eq free))
    go (no h) = rw (lt-leb (100 * v) curve.capacity (omega arith)) (omega arith)

-- without flow it is 0
pub density-zero : (curve : Curve) → WellFormed curve → density curve 0 ≡ 0
unfolding density
density-zero curve ok =
    rw (zero-mul (speed curve 0).denominator)
    (div_up-zero (1 * (speed curve 0).numerator) (omega (arith, speed-numerator-pos curve 0 ok (omega arith))))

-- ---- letters
-- what holds of the five letter numbers holds of each
pub by-letter : (P : ℕ → Type 0) → P 1 → P 2 → P 3 → P 4 → P 5 → (n : ℕ) → 1 ≤ n → n ≤ 5 → P n
by-letter P a b c d e zero h k = absurd (omega arith)
by-letter P a b c d e (suc zero) h k = a
by-letter P a b c d e (suc (suc zero)) h k = b
by-letter P a b c d e (suc (suc (suc zero))) h k = c
by-letter P a b c d e (suc (suc (suc (suc zero)))) h k = d
by-letter P a b c d e (suc (suc (suc (suc (suc zero))))) h k = e
by-letter P a b c d e (suc (suc (suc (suc (suc (suc n)))))) h k = absurd (omega arith)

letter_number-cond : (b : Bool) (x y : Letter) → letter_number (cond b x y) ≡ cond b (letter_number x) (letter_number y)
letter_number-cond true x y = refl
letter_number-cond false x y = refl

-- the number of a density's letter
grade_number : ℕ → ℕ
grade_number d =
    cond (leb d (density_limit 1)) 1
    (cond (leb d (density_limit 2)) 2
    (cond (leb d (density_limit 3)) 3 (cond (leb d (density_limit 4)) 4 (cond (leb d (density_limit 5)) 5 6))))

density_letter-number : (d : ℕ) → letter_number (density_letter d) ≡ grade_number d
unfolding density_letter grade_number
density_letter-number d = simp letter_number-cond

grade_number-mono : (d e : ℕ) → d ≤ e → grade_number d ≤ grade_number e
unfolding grade_number
grade_number-mono d e h = grind (arith, nat_tests)

-- density_letter-mono, letter_number-le, letter_number-ge: a greater density gets no better letter; none is
-- past F nor before A
pub density_letter-mono : (d e : ℕ) → d ≤ e → letter_number (density_letter d) ≤ letter_number (density_letter e)
density_letter-mono d e h = rw (density_letter-number d, density_letter-number e) (grade_number-mono d e h)

pub letter_number-le : (l : Letter) → letter_number l ≤ 6
letter_number-le Letter.A = omega arith
letter_number-le Letter.B = omega arith
letter_number-le Letter.C = omega arith
letter_number-le Letter.D = omega arith
letter_number-le Letter.E = omega arith
letter_number-le Letter.F = omega arith

pub letter_number-ge : (l : Letter) → 1 ≤ letter_number l
letter_number-ge Letter.A = omega arith
letter_number-ge Letter.B = omega arith
letter_number-ge Letter.C = omega arith
letter_number-ge Letter.D = omega arith
letter_number-ge Letter.E = omega arith
letter_number-ge Letter.F = omega arith

-- without flow the letter is A
pub letter_at-zero : (curve : Curve) → WellFormed curve → letter_at curve 0 ≡ Letter.A
unfolding letter_at density_letter density_limit
letter_at-zero curve ok = simp (le-leb (100 * 0) curve.capacity (omega arith), density-zero curve ok)

-- the limits of A to E
limit-iff : (d l : ℕ) → 1 ≤ l → l ≤ 5 → (grade_number d ≤ l) ↔ (d ≤ density_limit l)
unfolding grade_number density_limit
limit-iff d l h k = (λ e. grind (arith, nat_tests), λ e. grind (arith, nat_tests))

-- no letter's density is above 450
pub density_limit-le : (l : ℕ) → density_limit l ≤ 450
unfolding density_limit
density_limit-le l = grind (arith, nat_tests)

-- it is letter l or better exactly when the flow keeps to capacity and to the letter's density
pub letter_at-le-iff : (curve : Curve) (v l : ℕ) → 1 ≤ l → l ≤ 5
    → (letter_number (letter_at curve v) ≤ l) ↔ T (meets_limit curve v (density_limit l))
unfolding letter_at meets_limit
letter_at-le-iff curve v l h k = go (dec_le (100 * v) curve.capacity)
  where
    go : Dec (100 * v ≤ curve.capacity) → (letter_number (letter_at curve v) ≤ l) ↔ T (meets_limit curve v (density_limit l))
    go (yes c) =
        let iff = limit-iff (density curve v) l h k in
        simp (le-leb (100 * v) curve.capacity c, density_letter-number (density curve v))
        (λ e. le→leb (density curve v) (density_limit l) (iff.0 e), λ e. iff.1 (leb→le (density curve v) (density_limit l) e))
    go (no c) = simp (lt-leb (100 * v) curve.capacity (omega arith)) (λ e. absurd (omega arith), λ e. absurd e)

-- beyond capacity no limit is met
pub meets_limit-beyond : (curve : Curve) (v limit : ℕ) → curve.capacity < 100 * v → false ≡ meets_limit curve v limit
unfolding meets_limit
meets_limit-beyond curve v limit h = simp (lt-leb (100 * v) curve.capacity h)

-- meets_limit-zero, meets_limit-down: no flow meets every limit; less flow meets what more meets
pub meets_limit-zero : (curve : Curve) (limit : ℕ) → WellFormed curve → T (meets_limit curve 0 limit)
unfolding meets_limit
meets_limit-zero curve limit ok = simp
    (le-leb (100 * 0) curve.capacity (omega arith), density-zero curve ok, le-leb 0 limit (omega arith)) tt

pub meets_limit-down : (curve : Curve) (v w limit : ℕ) → WellFormed curve → v ≤ w → T (meets_limit curve w limit)
    → T (meets_limit curve v limit)
unfolding meets_limit
meets_limit-down curve v w limit ok l t =
    let cw : 100 * w ≤ curve.capacity = leb→le (100 * w) curve.capacity
    (and-left (leb (100 * w) curve.capacity) (leb (density curve w) limit) t) in
    let dw : density curve w ≤ limit = leb→le (density curve w) limit
    (and-right (leb (100 * w) curve.capacity) (leb (density curve w) limit) t) in
    let dv : density curve v ≤ density curve w = density-mono curve curve v w ok ok (omega arith) cw l (speed-antitone curve v w ok l cw) in
    simp (le-leb (100 * v) curve.capacity (omega arith)) (le→leb (density curve v) limit (omega arith))

-- where the second flow keeps to capacity, the first does and is no denser
pub letter_at-worse : (curve₁ curve₂ : Curve) (v w : ℕ)
    → (100 * w ≤ curve₂.capacity → (100 * v ≤ curve₁.capacity) × (density curve₁ v ≤ density curve₂ w))
    → letter_number (letter_at curve₁ v) ≤ letter_number (letter_at curve₂ w)
unfolding letter_at
letter_at-worse curve₁ curve₂ v w h = go (dec_le (100 * w) curve₂.capacity)
  where
    go : Dec (100 * w ≤ curve₂.capacity) → letter_number (letter_at curve₁ v) ≤ letter_number (letter_at curve₂ w)
    go (yes c) =
        simp (le-leb (100 * w) curve₂.capacity c, le-leb (100 * v) curve₁.capacity (h c).0) (density_letter-mono _ _ (h c).1)
    go (no c) = simp (lt-leb (100 * w) curve₂.capacity (omega arith)) (letter_number-le (letter_at curve₁ v))

-- more flow on one curve: no better letter
pub letter_at-flow : (curve : Curve) (v w : ℕ) → WellFormed curve → v ≤ w
    → letter_number (letter_at curve v) ≤ letter_number (letter_at curve w)
letter_at-flow curve v w ok l =
    letter_at-worse curve curve v w
    (λ c. let d : 100 * v ≤ curve.capacity = omega arith in
    (d, density-mono curve curve v w ok ok d c l (speed-antitone curve v w ok l c)))

-- ---- either kind, at two free-flow speeds
-- with a higher free-flow speed the speed never falls, of either kind
pub speed-mono : (kind : Kind) (f g v : ℕ) → lowest_speed kind ≤ f → f ≤ g → g ≤ highest_speed kind → 100 * v ≤ capacity kind f
    → AtMost (speed (curve_at kind f) v) (speed (curve_at kind g) v)
speed-mono Kind.Freeway f g v h l k c = freeway_speed-mono f g v h l k c
speed-mono Kind.Multilane f g v h l k c = multilane_speed-mono f g v h l k c

density_at-mono : (kind : Kind) (f g v w : ℕ) → lowest_speed kind ≤ f → f ≤ g → g ≤ highest_speed kind → v ≤ w → 100 * w ≤ capacity kind f
    → density (curve_at kind g) v ≤ density (curve_at kind f) w
unfolding curve_at
density_at-mono kind f g v w h l k s c =
    let okf : WellFormed (curve_at kind f) = curve_at-well_formed kind f h (le_trans l k) in
    let okg : WellFormed (curve_at kind g) = curve_at-well_formed kind g (le_trans h l) k in
    let cg : capacity kind f ≤ capacity kind g = capacity-mono kind f g l in
    density-mono (curve_at kind g) (curve_at kind f) v w okg okf (omega arith) c s
    (AtMost-trans (speed (curve_at kind f) w) (speed (curve_at kind g) w) (speed (curve_at kind g) v)
    (speed-denominator-pos (curve_at kind g) w okg)
    (speed-mono kind f g w h l k c) (speed-antitone (curve_at kind g) v w okg s (omega arith)))

-- more flow, or a lower free-flow speed: no better letter
pub letter_at-mono : (kind : Kind) (f g v w : ℕ) → lowest_speed kind ≤ f → f ≤ g → g ≤ highest_speed kind → v ≤ w
    → letter_number (letter_at (curve_at kind g) v) ≤ letter_number (letter_at (curve_at kind f) w)
unfolding curve_at
letter_at-mono kind f g v w h l k s =
    letter_at-worse (curve_at kind g) (curve_at kind f) v w
    (λ c. (omega (arith, capacity-mono kind f g l), density_at-mono kind f g v w h l k s c))
