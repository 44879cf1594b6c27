-- `answer::promises::tries`, by the laws.
use Rattle.answer.proofs.SearchOrder.{no-volume-above-the-next, tries-of-a-letter, at-most-80-tried, example-volumes-rise, example-tried}
use Rattle.answer.proofs.SearchOrder.{eight-lanes-tried, refused-tried}
use Rattle.answer.proofs.promises.tries.Goals as goal

pub returns-clause-order : goal.returns-clause-order
returns-clause-order c = no-volume-above-the-next

pub returns-clause-each_letter : goal.returns-clause-each_letter
returns-clause-each_letter c = tries-of-a-letter

pub returns-clause-all : goal.returns-clause-all
returns-clause-all c = at-most-80-tried

pub returns-clause-example_order : goal.returns-clause-example_order
returns-clause-example_order c = example-volumes-rise

pub returns-clause-example : goal.returns-clause-example
returns-clause-example c = example-tried

pub returns-clause-eight_lanes : goal.returns-clause-eight_lanes
returns-clause-eight_lanes c = eight-lanes-tried

pub returns-clause-refused : goal.returns-clause-refused
returns-clause-refused c = refused-tried
