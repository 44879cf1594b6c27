-- `marehour::promises::shape_of_the_calls`, by the shape of the answers.
use Rattle.marehour.proofs.Shape.{no-better-letter-written, meets-up-to-the-written-volume, lanes-digit-is-the-least-count, printed-line-meets-up-to-2642}
use Rattle.marehour.proofs.promises.shape_of_the_calls.Goals as goal

pub returns-clause-letter : goal.returns-clause-letter
returns-clause-letter c = no-better-letter-written

pub returns-clause-volume : goal.returns-clause-volume
returns-clause-volume c = meets-up-to-the-written-volume

pub returns-clause-lanes : goal.returns-clause-lanes
returns-clause-lanes c = lanes-digit-is-the-least-count

pub returns-clause-instance : goal.returns-clause-instance
returns-clause-instance c = printed-line-meets-up-to-2642
