-- `marehour::promises::calls_hand_back`, by the laws of the calls.
use Rattle.marehour.proofs.Laws.{answer-hands-back, lanes-hand-back, letter-outside-is-refused, daily-hands-back, forecast-hands-back}
use Rattle.marehour.proofs.promises.calls_hand_back.Goals as goal

pub returns-clause-answer : goal.returns-clause-answer
returns-clause-answer c = answer-hands-back

pub returns-clause-lanes : goal.returns-clause-lanes
returns-clause-lanes c = lanes-hand-back

pub returns-clause-letter : goal.returns-clause-letter
returns-clause-letter c = letter-outside-is-refused

pub returns-clause-daily : goal.returns-clause-daily
returns-clause-daily c = daily-hands-back

pub returns-clause-forecast : goal.returns-clause-forecast
returns-clause-forecast c = forecast-hands-back
