-- `daily::evaluate_daily` meets its contract: 20 and 21 come first, and then the engine's refusal.
use Rattle.std.proofs.lemmas.Result.{err_from_is_err_and}
use Rattle.daily.proofs.DailyLaws.{answer-stopped}
use Rattle.daily.proofs.evaluate_daily.Goals as goal

pub returns-in_err-check_traffic : goal.returns-in_err-check_traffic
returns-in_err-check_traffic c =
    let a = c.args in
    let p = err_from_is_err_and c.from_residual.result c.from_residual.ensures.1 in
    rw (p.1, p.2) (answer-stopped a.case a.shares a.daily_traffic c.in_err-check_traffic.field-0.0 c.in_err-check_traffic.ensures)
