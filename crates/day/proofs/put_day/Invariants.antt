-- The loop of `day::put_day`: each turn writes the answer with one demand behind those before it, and there
-- is room for the rest.
use Rattle.std.proofs.Common.{◌+◌, ◌-◌, ◌*◌, ◌≤◌, length, take}
use Rattle.text.specs.Buffer.{Wrote}
use Rattle.day.specs.Days.{figure_count, day_figures}
use Rattle.day.proofs.put_day.Given as goal

abbrev pub invariant-loop-demand : goal.invariant-loop-demand
invariant-loop-demand l = Wrote (day_figures l.fn.case (take l.demand-index l.demands)) l.initial.answers l.answers l.written
    × (l.written + figure_count * (length l.demands - l.demand-index) ≤ length l.initial.answers)
