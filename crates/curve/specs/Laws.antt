-- The laws of the curve, stated over the definitions that the contracts cite; proofs/Laws proves each. Under
-- weather the laws in v hold, on one curve. Those in F are for clear weather: with a capacity factor of 501
-- to 506 the speed may fall as F rises, by the rounding of b.
use Rattle.std.specs.Prelude.{◌≡◌, ◌↔◌, List, [], ◌∷◌, ℕ, ◌*◌, ◌^◌, ◌≤◌, ◌<◌}
use Rattle.numbers.specs.Fraction.{over, whole, times, AtMost}
use Rattle.curve.specs.declared.kind.Kind.{Kind}
use Rattle.curve.specs.declared.power_table.TheConstants.{POWERS}
use Rattle.curve.specs.declared.Curve.{Curve}
use Rattle.curve.specs.declared.Weather.{Weather}
use Rattle.curve.specs.Kinds.{lowest_speed, highest_speed, lowest_adjusted_speed, lowest_factor, fewest_lanes, most_lanes}
use Rattle.curve.specs.Kinds.{lowest_capacity, highest_capacity}
use Rattle.curve.specs.Curves.{capacity, curve_at, WellFormed, Sized}
use Rattle.curve.specs.Power.{power, PowerTable}
use Rattle.curve.specs.Weather.{clear, FactorsFit, adjusted_speed, curve_under}
use Rattle.curve.specs.Speed.{speed}
use Rattle.curve.specs.Service.{density, shown_density, letter_at, letter_number}

-- ---- powers
-- CURVE-5, FORM-6: T(i) reaches the power 1.31 of i, and no smaller number does, for i from 0 to 1,000.
abbrev pub PowerIsLeast : Type 0
PowerIsLeast =
    (i : ℕ) → i ≤ 1000
    → (i ^ 131 * 10 ^ 207 ≤ power i ^ 100) × ((t : ℕ) → i ^ 131 * 10 ^ 207 ≤ t ^ 100 → power i ≤ t)

-- CURVE-5, FORM-6: T never falls, and is at most 1,000,000 millionths.
abbrev pub PowerNeverFalls : Type 0
PowerNeverFalls = (i j : ℕ) → i ≤ j → j ≤ 1000 → (power i ≤ power j) × (power j ≤ 1000000)

-- CURVE-5, FORM-6, UNIT-4: the code's constant is the table of T.
abbrev pub TableHoldsPowers : Type 0
TableHoldsPowers = PowerTable POWERS

-- ---- kinds
-- KIND-1, FORM-7: what each kind carries, in figures: the ends of F, the lower end of F after its factor and
-- of the weather's factors, the ends of the lane count, and the ends of capacity.
abbrev pub KindsCarry : Type 0
KindsCarry =
    (carried_by Kind.Freeway ≡ 55000 ∷ 75000 ∷ 50000 ∷ 500 ∷ 2 ∷ 8 ∷ 225000 ∷ 240000 ∷ [])
    × (carried_by Kind.Multilane ≡ 45000 ∷ 70000 ∷ 45000 ∷ 1000 ∷ 2 ∷ 3 ∷ 190000 ∷ 230000 ∷ [])
  where
    carried_by : Kind → List ℕ
    carried_by kind =
        lowest_speed kind ∷ highest_speed kind ∷ lowest_adjusted_speed kind ∷ lowest_factor kind
        ∷ fewest_lanes kind ∷ most_lanes kind
        ∷ lowest_capacity kind ∷ highest_capacity kind ∷ []

-- ---- capacity
-- CURVE-1, KIND-1: capacity lies between the kind's ends, for every F between its ends.
abbrev pub CapacityWithinEnds : Type 0
CapacityWithinEnds =
    (kind : Kind) (f : ℕ) → lowest_speed kind ≤ f → f ≤ highest_speed kind
    → (lowest_capacity kind ≤ capacity kind f) × (capacity kind f ≤ highest_capacity kind)

-- CURVE-1, KIND-1: capacity reaches the kind's ends, at the ends of F.
abbrev pub CapacityReachesEnds : Type 0
CapacityReachesEnds =
    (kind : Kind)
    → (capacity kind (lowest_speed kind) ≡ lowest_capacity kind)
    × (capacity kind (highest_speed kind) ≡ highest_capacity kind)

-- ---- weather
-- WEATHER-1: with both factors 1,000 the curve is the one at F itself.
abbrev pub ClearWeatherChangesNothing : Type 0
ClearWeatherChangesNothing = (kind : Kind) (f : ℕ) → curve_under clear kind f ≡ curve_at kind f

-- CURVE-3, WEATHER-2, WEATHER-3, SAFE-1: with factors within their ends, F up to its upper end and after its
-- factor not below its lower end, the breakpoint is below capacity, the speed at capacity is at most F, and
-- 64 bits hold the products.
abbrev pub CurveUnderIsWellFormed : Type 0
CurveUnderIsWellFormed =
    (kind : Kind) (weather : Weather) (f : ℕ) → FactorsFit kind weather
    → lowest_adjusted_speed kind ≤ adjusted_speed weather f
    → f ≤ highest_speed kind
    → WellFormed (curve_under weather kind f) × Sized (curve_under weather kind f)

-- ---- speed
-- CURVE-3: up to capacity the speed is a fraction above 0: what the laws below say by cross-multiplying has
-- its meaning.
abbrev pub SpeedIsAboveZero : Type 0
SpeedIsAboveZero =
    (curve : Curve) (v : ℕ) → WellFormed curve → 100 * v ≤ curve.capacity
    → (0 < (speed curve v).numerator) × (0 < (speed curve v).denominator)

-- CURVE-3: up to capacity the speed is never below that at capacity, 10c/45: so no subtraction in S goes
-- below 0.
abbrev pub SpeedNeverBelowCapacitySpeed : Type 0
SpeedNeverBelowCapacitySpeed =
    (curve : Curve) (v : ℕ) → WellFormed curve → 100 * v ≤ curve.capacity
    → AtMost (over (10 * curve.capacity) 45) (speed curve v)

-- CURVE-3: up to capacity the speed never rises with more flow.
abbrev pub SpeedNeverRisesWithFlow : Type 0
SpeedNeverRisesWithFlow =
    (curve : Curve) (v₁ v₂ : ℕ) → WellFormed curve → v₁ ≤ v₂ → 100 * v₂ ≤ curve.capacity
    → AtMost (speed curve v₂) (speed curve v₁)

-- CURVE-7: up to capacity the density never falls with more flow.
abbrev pub DensityNeverFallsWithFlow : Type 0
DensityNeverFallsWithFlow =
    (curve : Curve) (v₁ v₂ : ℕ) → WellFormed curve → v₁ ≤ v₂ → 100 * v₂ ≤ curve.capacity
    → density curve v₁ ≤ density curve v₂

-- CURVE-3: with a higher free-flow speed the speed never falls, of either kind, in clear weather.
abbrev pub SpeedNeverFallsWithFreeFlowSpeed : Type 0
SpeedNeverFallsWithFreeFlowSpeed =
    (kind : Kind) (f g v : ℕ) → lowest_speed kind ≤ f → f ≤ g → g ≤ highest_speed kind
    → 100 * v ≤ capacity kind f
    → AtMost (speed (curve_at kind f) v) (speed (curve_at kind g) v)

-- ---- density and letter
-- LETTER-1, CURVE-7: the shown density meets a limit exactly when 10,000v is at most the limit times S, which
-- is exact.
abbrev pub DensityMeetsLimitByExactSpeed : Type 0
DensityMeetsLimitByExactSpeed =
    (curve : Curve) (v limit : ℕ) → WellFormed curve → 100 * v ≤ curve.capacity
    → (shown_density curve v ≤ limit) ↔ AtMost (whole (10000 * v)) (times (whole limit) (speed curve v))

-- LETTER-1, CURVE-7: up to capacity the density is at most 450: no case there is past E.
abbrev pub DensityAtMost450 : Type 0
DensityAtMost450 =
    (curve : Curve) (v : ℕ) → WellFormed curve → 100 * v ≤ curve.capacity → density curve v ≤ 450

-- SHAPE-1, LETTER-3: more flow never gets a better letter, on any well-formed curve.
abbrev pub LetterNeverBetterWithFlow : Type 0
LetterNeverBetterWithFlow =
    (curve : Curve) (v₁ v₂ : ℕ) → WellFormed curve → v₁ ≤ v₂
    → letter_number (letter_at curve v₁) ≤ letter_number (letter_at curve v₂)

-- SHAPE-1, LETTER-3: more flow at a free-flow speed that is no higher never gets a better letter, in clear
-- weather.
abbrev pub LetterNeverBetter : Type 0
LetterNeverBetter =
    (kind : Kind) (f g v₁ v₂ : ℕ) → lowest_speed kind ≤ f → f ≤ g → g ≤ highest_speed kind → v₁ ≤ v₂
    → letter_number (letter_at (curve_at kind g) v₁) ≤ letter_number (letter_at (curve_at kind f) v₂)
