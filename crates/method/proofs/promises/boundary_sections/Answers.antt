-- `method::promises::boundary_sections`, by the laws.
use Rattle.method.proofs.Boundary.{boundary-shown}
use Rattle.method.proofs.promises.boundary_sections.Goals as goal

pub returns : goal.returns
returns c = boundary-shown
