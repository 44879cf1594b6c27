-- `lines::field::Fields::case` meets its contract: the first 13 fields are read, and then the weather.
use Rattle.std.proofs.Common.{Some, None, [], ◌∙◌}
use Rattle.lines.specs.Fields.{layout, values_of}
use Rattle.lines.specs.ReadSoFar.{left, clear_values, weather_values}
use Rattle.lines.proofs.FieldsLaws.{completed-reads, before-before}
use Rattle.lines.proofs.field.Fields.case.Goals as goal

pub returns-in_err-case : goal.returns-in_err-case
returns-in_err-case c = rw c.from_residual.ensures (completed-reads None (left c.args.self.now) [] c.in_err-case.ensures)

pub returns-in_err-weather : goal.returns-in_err-weather
unfolding layout
returns-in_err-weather c =
    let first = Some (clear_values c.in_ok-case.case) in
    let behind = left c.in_clear_weather.new.self in
    rw c.from_residual-in_err-weather.ensures
    (completed-reads first (left c.args.self.now) behind c.in_ok-case.ensures ∙ rw (c.in_err-weather.ensures []))

pub returns : goal.returns
unfolding layout
returns c =
    let first = clear_values c.in_ok-case.case in
    let behind = left c.in_clear_weather.new.self in
    completed-reads (Some first) (left c.args.self.now) behind c.in_ok-case.ensures
    ∙ rw (c.in_ok-weather.ensures []) (before-before first (weather_values c.in_ok-weather.field-0) (values_of [] (left c.weather.new.self)))
