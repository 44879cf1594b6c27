-- `forecast::promises::plain_cases` meets its contract: the theorems are proved in proofs/PromiseLaws.
use Rattle.forecast.proofs.PromiseLaws.{equal-ends, own-load-is-not-read}
use Rattle.forecast.proofs.promises.plain_cases.Goals as goal

pub returns-clause-equal_ends : goal.returns-clause-equal_ends
returns-clause-equal_ends c = equal-ends

pub returns-clause-own_load_is_not_read : goal.returns-clause-own_load_is_not_read
returns-clause-own_load_is_not_read c = own-load-is-not-read
