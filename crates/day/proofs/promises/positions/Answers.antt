-- `day::promises::positions` meets its contract: the theorems are proved in proofs/PromiseLaws.
use Rattle.day.proofs.PromiseLaws.{position-numbers, no-better-with-more-demand}
use Rattle.day.proofs.promises.positions.Goals as goal

pub returns-clause-position_numbers : goal.returns-clause-position_numbers
returns-clause-position_numbers c = position-numbers

pub returns-clause-no_better_with_more_demand : goal.returns-clause-no_better_with_more_demand
returns-clause-no_better_with_more_demand c = no-better-with-more-demand
