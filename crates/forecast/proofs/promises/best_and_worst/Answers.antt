-- `forecast::promises::best_and_worst` meets its contract: the theorems are proved in proofs/PromiseLaws.
use Rattle.forecast.proofs.PromiseLaws.{every-letter-between, shown-at-the-ends, met-throughout}
use Rattle.forecast.proofs.promises.best_and_worst.Goals as goal

pub returns-clause-every_letter_between : goal.returns-clause-every_letter_between
returns-clause-every_letter_between c = every-letter-between

pub returns-clause-shown_at_the_ends : goal.returns-clause-shown_at_the_ends
returns-clause-shown_at_the_ends c = shown-at-the-ends

pub returns-clause-met_throughout : goal.returns-clause-met_throughout
returns-clause-met_throughout c = met-throughout
