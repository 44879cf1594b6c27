-- `daily::DailyGrade::put_figures` meets its contract: the eleven figures of the grade, and the daily volumes
-- behind them.
use Rattle.text.proofs.BufferLaws.{then}
use Rattle.daily.proofs.DailyGrade.put_figures.Goals as goal

pub returns : goal.returns
returns c = then (rw c.figures.ensures at c.put_numbers-count.ensures) c.put_numbers.ensures
