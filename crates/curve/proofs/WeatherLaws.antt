-- The curve under weather (specs/Weather).
use Rattle.std.proofs.Common.{◌≡◌, refl, ap, sym, subst, ◌∙◌, ℕ, ◌+◌, ◌*◌, ◌-◌, ◌/◌, ◌≤◌, arith, mul-le-mul_left, mul-le-mul_right}
use Rattle.std.proofs.Common.{le_trans}
use Rattle.curve.specs.declared.kind.Kind.{Kind}
use Rattle.curve.specs.declared.Weather.{Weather}
use Rattle.curve.specs.Kinds.{highest_speed, lowest_adjusted_speed}
use Rattle.curve.specs.Curves.{capacity, breakpoint, curve_at, WellFormed, Sized}
use Rattle.curve.specs.Weather.{factors, clear, FactorsFit, adjusted_speed, adjusted_capacity, adjusted_breakpoint, curve_under}
use Rattle.curve.proofs.KindLaws.{kind-ends}
use Rattle.curve.proofs.CurveLaws.{capacity-le, breakpoint-le, curve_at-well_formed, curve_at-sized}

-- the factor raises no speed
pub adjusted_speed-le : (weather : Weather) (f : ℕ) → weather.speed_factor ≤ 1000 → adjusted_speed weather f ≤ f
unfolding adjusted_speed
adjusted_speed-le weather f h = omega (arith, mul-le-mul_left f h)

-- ---- clear weather
-- adjusted_speed-clear, curve_under-clear: in clear weather F is kept, and the curve is the one at that F
pub adjusted_speed-clear : (f : ℕ) → adjusted_speed clear f ≡ f
unfolding adjusted_speed
adjusted_speed-clear f = omega arith

adjusted_capacity-clear : (c : ℕ) → adjusted_capacity clear c ≡ c
unfolding adjusted_capacity
adjusted_capacity-clear c = omega arith

adjusted_breakpoint-clear : (b : ℕ) → adjusted_breakpoint clear b ≡ b
unfolding adjusted_breakpoint
adjusted_breakpoint-clear b = omega arith

pub curve_under-clear : (kind : Kind) (f : ℕ) → curve_under clear kind f ≡ curve_at kind f
unfolding curve_under curve_at
curve_under-clear kind f = simp (adjusted_speed-clear f, adjusted_capacity-clear, adjusted_breakpoint-clear)

-- ---- kind M
-- factors that fit kind M are those of clear weather
pub multilane-clear : (weather : Weather) → FactorsFit Kind.Multilane weather → weather ≡ clear
multilane-clear weather fit =
    let s : weather.speed_factor ≡ 1000 = omega (arith, fit.speed-low, fit.speed-high) in
    let k : weather.capacity_factor ≡ 1000 = omega (arith, fit.capacity-low, fit.capacity-high) in
    ap (λ n. factors n weather.capacity_factor) s ∙ ap (factors 1000) k

-- its curve is that of clear weather, at an F that is not below the lower end
multilane-curve : (weather : Weather) (f : ℕ) → FactorsFit Kind.Multilane weather → 45000 ≤ adjusted_speed weather f
    → (curve_under weather Kind.Multilane f ≡ curve_at Kind.Multilane f) × (45000 ≤ f)
multilane-curve weather f fit slow =
    let e = multilane-clear weather fit in
    (rw e (curve_under-clear Kind.Multilane f), rw (adjusted_speed-clear f) at (rw e at slow))

-- ---- kind F, at the free-flow speed g after its factor
-- the square of a factor is at least what its tangent at 1,000 gives
square-ge : (k j : ℕ) → k + j ≡ 1000 → 2000 * k ≤ k * k + 1000000
square-ge k j e = omega (arith, ap (λ n. k * n) e, ap (λ n. n * j) e)

module _ (weather : Weather) (low : 500 ≤ weather.capacity_factor) (high : weather.capacity_factor ≤ 1000) (g : ℕ)
    (slow : 50000 ≤ g) (fast : g ≤ 75000) where
  abbrev k : ℕ
  k = weather.capacity_factor

  abbrev c : ℕ
  c = adjusted_capacity weather (capacity Kind.Freeway g)

  abbrev b : ℕ
  b = adjusted_breakpoint weather (breakpoint Kind.Freeway g)

  c-raw : (220000 ≤ capacity Kind.Freeway g) × (capacity Kind.Freeway g ≤ 240000) × (capacity Kind.Freeway g ≤ 170000 + g)
  unfolding capacity
  c-raw = (omega arith, omega arith, omega arith)

  b-raw : (100000 ≤ breakpoint Kind.Freeway g) × (breakpoint Kind.Freeway g ≤ 200000)
  unfolding breakpoint
  b-raw = (omega arith, omega arith)

  c-ends : (220 * k ≤ c) × (c ≤ 240 * k) × (c ≤ capacity Kind.Freeway g)
  unfolding adjusted_capacity
  c-ends = (
    omega (arith, mul-le-mul_right k c-raw.0),
    omega (arith, mul-le-mul_right k c-raw.1),
    omega (arith, mul-le-mul_left (capacity Kind.Freeway g) high),
  )

  b-ends : (200 * k ≤ b + 100000) × (b ≤ 200 * k)
  unfolding adjusted_breakpoint
  b-ends = (
    omega (arith, mul-le-mul_right (k * k) b-raw.0, square-ge k (1000 - k) (omega arith)),
    omega (arith, mul-le-mul_right (k * k) b-raw.1, mul-le-mul_right k high),
  )

-- 10c ≤ 45F from 48,572 up: 50,000 leaves room
pub curve_under-fits : (kind : Kind) (weather : Weather) (f : ℕ) → FactorsFit kind weather
    → lowest_adjusted_speed kind ≤ adjusted_speed weather f → f ≤ highest_speed kind
    → WellFormed (curve_under weather kind f) × Sized (curve_under weather kind f)
unfolding curve_under
curve_under-fits Kind.Freeway weather f fit slow fast =
    let g = adjusted_speed weather f in
    let top : g ≤ 75000 = le_trans (adjusted_speed-le weather f fit.speed-high) fast in
    let c = c-ends weather fit.capacity-low fit.capacity-high g slow top in
    let b = b-ends weather fit.capacity-low fit.capacity-high g slow top in
    let raw = c-raw weather fit.capacity-low fit.capacity-high g slow top in (
      record { breakpoint-below = omega (arith, fit.capacity-low, c, b); capacity_speed-le = omega (arith, c, raw) },
      record { speed-le = top; capacity-le = omega (arith, c, raw); span-le = omega (arith, fit.capacity-high, c, b) },
    )
curve_under-fits Kind.Multilane weather f fit slow fast =
    let same = multilane-curve weather f fit slow in
    subst (λ curve. WellFormed curve × Sized curve) (sym same.0)
    (curve_at-well_formed Kind.Multilane f same.1 fast, curve_at-sized Kind.Multilane f same.1 fast)

-- ---- what src works out
-- it as src works it out
pub curve_under-worked : (weather : Weather) (kind : Kind) (f : ℕ)
    → curve_under weather kind f
    ≡ (let g = adjusted_speed weather f in
    let k = weather.capacity_factor in
    record {
      kind = kind;
      free_flow_speed = g;
      capacity = capacity kind g * k / 1000;
      breakpoint = breakpoint kind g * (k * k) / 1000000;
    })
unfolding curve_under adjusted_capacity adjusted_breakpoint
curve_under-worked weather kind f = refl

-- for tactics: what src wants of it
pub ruleset curve_laws = (kind-ends, adjusted_speed-le, capacity-le, breakpoint-le, curve_under-worked)
