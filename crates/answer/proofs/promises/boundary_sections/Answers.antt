-- `answer::promises::boundary_sections`, by the laws.
use Rattle.answer.proofs.Boundary.{boundary-shown}
use Rattle.answer.proofs.promises.boundary_sections.Goals as goal

pub returns : goal.returns
returns c = boundary-shown
