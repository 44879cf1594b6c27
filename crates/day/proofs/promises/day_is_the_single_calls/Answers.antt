-- `day::promises::day_is_the_single_calls` meets its contract: the theorems are proved in proofs/PromiseLaws.
use Rattle.day.proofs.PromiseLaws.{day-is-the-single-calls, position-holds-the-answer, figures-tell-the-answer}
use Rattle.day.proofs.promises.day_is_the_single_calls.Goals as goal

pub returns-clause-day_is_the_single_calls : goal.returns-clause-day_is_the_single_calls
returns-clause-day_is_the_single_calls c = day-is-the-single-calls

pub returns-clause-position_holds_the_answer : goal.returns-clause-position_holds_the_answer
returns-clause-position_holds_the_answer c = position-holds-the-answer

pub returns-clause-figures_tell_the_answer : goal.returns-clause-figures_tell_the_answer
returns-clause-figures_tell_the_answer c = figures-tell-the-answer
