-- `answer::promises::shape_of_the_method`, by the laws.
use Rattle.answer.proofs.PromiseLaws.{shape-of-the-method}
use Rattle.answer.proofs.promises.shape_of_the_method.Goals as goal

pub returns : goal.returns
returns c = shape-of-the-method
