-- Capacity, breakpoint and the curve (specs/Curves).
use Rattle.std.proofs.Common.{ℕ, ◌≤◌, arith}
use Rattle.curve.specs.declared.kind.Kind.{Kind}
use Rattle.curve.specs.Kinds.{lowest_speed, highest_speed, lowest_capacity, highest_capacity}
use Rattle.curve.specs.Curves.{capacity, breakpoint, curve_at, WellFormed, Sized}

-- capacity never falls with a higher free-flow speed
pub capacity-mono : (kind : Kind) (f g : ℕ) → f ≤ g → capacity kind f ≤ capacity kind g
unfolding capacity
capacity-mono Kind.Freeway f g h = omega arith
capacity-mono Kind.Multilane f g h = omega arith

-- it is at most 240,000
pub capacity-le : (kind : Kind) (f : ℕ) → capacity kind f ≤ 240000
unfolding capacity
capacity-le Kind.Freeway f = omega arith
capacity-le Kind.Multilane f = omega arith

-- the breakpoint is at most 400,000
pub breakpoint-le : (kind : Kind) (f : ℕ) → breakpoint kind f ≤ 400000
unfolding breakpoint
breakpoint-le Kind.Freeway f = omega arith
breakpoint-le Kind.Multilane f = omega arith

-- it lies between the kind's ends, for F between its ends
pub capacity-within : (kind : Kind) (f : ℕ) → lowest_speed kind ≤ f → f ≤ highest_speed kind
    → (lowest_capacity kind ≤ capacity kind f) × (capacity kind f ≤ highest_capacity kind)
unfolding capacity
capacity-within Kind.Freeway f h k = (omega arith, omega arith)
capacity-within Kind.Multilane f h k = (omega arith, omega arith)

-- the curve at an F between the kind's ends is well formed
pub curve_at-well_formed : (kind : Kind) (f : ℕ) → lowest_speed kind ≤ f → f ≤ highest_speed kind → WellFormed (curve_at kind f)
unfolding curve_at capacity breakpoint
curve_at-well_formed Kind.Freeway f h k = record { breakpoint-below = omega arith; capacity_speed-le = omega arith }
curve_at-well_formed Kind.Multilane f h k = record { breakpoint-below = omega arith; capacity_speed-le = omega arith }

-- and within the ends that 64 bits want
pub curve_at-sized : (kind : Kind) (f : ℕ) → lowest_speed kind ≤ f → f ≤ highest_speed kind → Sized (curve_at kind f)
unfolding curve_at capacity breakpoint
curve_at-sized Kind.Freeway f h k = record { speed-le = omega arith; capacity-le = omega arith; span-le = omega arith }
curve_at-sized Kind.Multilane f h k = record { speed-le = omega arith; capacity-le = omega arith; span-le = omega arith }
