-- `marehour::promises::day_hands_back`, by the laws of the calls.
use Rattle.marehour.proofs.Laws.{day-hands-back, day-call-is-the-day, position-is-the-lines-answer}
use Rattle.marehour.proofs.promises.day_hands_back.Goals as goal

pub returns-clause-result : goal.returns-clause-result
returns-clause-result c = day-hands-back

pub returns-clause-day : goal.returns-clause-day
returns-clause-day c = day-call-is-the-day

pub returns-clause-position : goal.returns-clause-position
returns-clause-position c = position-is-the-lines-answer
