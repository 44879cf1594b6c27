-- `curve::promises::letters`, by the laws.
use Rattle.curve.proofs.Laws.{letter-never-better-with-flow, letter-never-better}
use Rattle.curve.proofs.promises.letters.Goals as goal

pub returns-clause-with_flow : goal.returns-clause-with_flow
returns-clause-with_flow c = letter-never-better-with-flow

pub returns-clause-with_free_flow_speed : goal.returns-clause-with_free_flow_speed
returns-clause-with_free_flow_speed c = letter-never-better
