-- `lines::field::Fields::in_clear_weather` meets its contract where the heavy share is malformed: what stands
-- before it was read.
use Rattle.std.proofs.Common.{Some, ◌++◌, ap, ◌∙◌, take, drop}
use Rattle.lines.specs.Fields.{layout, joined}
use Rattle.lines.specs.ReadSoFar.{road_values, before}
use Rattle.lines.proofs.field.Fields.in_clear_weather.Goals as goal

pub returns-in_err-number-3 : goal.returns-in_err-number-3
unfolding layout
returns-in_err-number-3 c behind =
    rw c.from_residual-in_err-number-3.ensures
    (c.in_ok-road.ensures (drop 8 (take 13 layout) ++ behind)
    ∙ ap (before (Some (road_values c.in_ok-road.field-0))) (c.in_ok-number.ensures _
    ∙ ap (joined (Some c.in_ok-number.field-0)) (c.in_ok-demand.ensures _
    ∙ ap (joined (Some c.in_ok-demand.field-0)) (c.in_ok-number-2.ensures _
    ∙ ap (joined (Some c.in_ok-number-2.field-0)) (c.in_err-number-3.ensures _)))))
