-- `daily::promises::figures_of_the_hour` meets its contract: the theorems are proved in proofs/PromiseLaws.
use Rattle.daily.proofs.PromiseLaws.{figures-of-the-hour, rounded-up-once, own-demand-is-not-read}
use Rattle.daily.proofs.promises.figures_of_the_hour.Goals as goal

pub returns-clause-figures_of_the_hour : goal.returns-clause-figures_of_the_hour
returns-clause-figures_of_the_hour c = figures-of-the-hour

pub returns-clause-rounded_up_once : goal.returns-clause-rounded_up_once
returns-clause-rounded_up_once c = rounded-up-once

pub returns-clause-own_demand_is_not_read : goal.returns-clause-own_demand_is_not_read
returns-clause-own_demand_is_not_read c = own-demand-is-not-read
