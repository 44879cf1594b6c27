-- `forecast::evaluate_forecast` meets its contract: a refusal is passed on, and the two ends have the best
-- and the worst outcome.
use Rattle.std.proofs.Common.{sym}
use Rattle.refusals.specs.Refusals.{first_refusal}
use Rattle.refusals.proofs.NumberLaws.{ok_unless-err}
use Rattle.forecast.specs.Forecasts.{forecast_refusals, outcomes}
use Rattle.forecast.proofs.EndsLaws.{worst-fits, checked-answer}
use Rattle.forecast.proofs.evaluate_forecast.Goals as goal

pub returns-in-Err : goal.returns-in-Err
returns-in-Err c =
    let a = c.args in
    ok_unless-err c.in-Err.refusal (first_refusal (forecast_refusals a.case a.forecast)) (outcomes a.case a.forecast) c.in-Err.ensures.refusal

pub with_load-worst-requires : goal.with_load-worst-requires
with_load-worst-requires c =
    rw (c.in-Ok.ensures.kept, c.worst_combination-demand.ensures) (worst-fits c.args.case c.args.forecast (sym c.in-Ok.ensures.refusal))

pub returns-in-Ok : goal.returns-in-Ok
returns-in-Ok c =
    rw (c.of.ensures, c.of-in-Ok.ensures, c.with_load-worst.ensures, c.in-Ok.ensures.kept, c.worst_combination-demand.ensures)
    (checked-answer c.args.case c.args.forecast (sym c.in-Ok.ensures.refusal))
