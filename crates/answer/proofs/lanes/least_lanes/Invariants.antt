-- The loop of `answer::lanes::least_lanes`: no lane count that was tried meets the letter.
use Rattle.std.proofs.Common.{ℕ, ◌≤◌, ◌<◌, T}
use Rattle.curve.specs.Kinds.{fewest_lanes}
use Rattle.curve.specs.Service.{letter_number}
use Rattle.answer.specs.Lanes.{lanes_meet}
use Rattle.answer.proofs.lanes.least_lanes.Given as goal

abbrev pub invariant-loop-lanes : goal.invariant-loop-lanes
invariant-loop-lanes l =
    (fewest_lanes l.fit.case.road.kind ≤ l.lanes)
    × ((k : ℕ) → k < l.lanes → T (lanes_meet l.fit.case (letter_number l.letter) k) → ⊥)
