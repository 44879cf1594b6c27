-- What each kind carries (specs/Kinds): bounds that hold for both.
use Rattle.std.proofs.Common.{◌≤◌, arith}
use Rattle.curve.specs.declared.kind.Kind.{Kind}
use Rattle.curve.specs.Kinds.{lowest_speed, highest_speed, fewest_lanes, most_lanes}

-- KindEnds, kind-ends: the ends of F and of the lane count
pub record KindEnds (kind : Kind) : Type 0 where
  pub speed-order : lowest_speed kind ≤ highest_speed kind
  pub speed-le : highest_speed kind ≤ 75000
  pub lanes-ge : 2 ≤ fewest_lanes kind
  pub lanes-order : fewest_lanes kind ≤ most_lanes kind
  pub lanes-le : most_lanes kind ≤ 8

pub kind-ends : (kind : Kind) → KindEnds kind
kind-ends Kind.Freeway =
    record { speed-order = omega arith; speed-le = omega arith; lanes-ge = omega arith; lanes-order = omega arith; lanes-le = omega arith }
kind-ends Kind.Multilane =
    record { speed-order = omega arith; speed-le = omega arith; lanes-ge = omega arith; lanes-order = omega arith; lanes-le = omega arith }
