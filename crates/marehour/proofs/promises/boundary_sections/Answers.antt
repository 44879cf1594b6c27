-- `marehour::promises::boundary_sections`, by the boundary sections, shown.
use Rattle.marehour.proofs.Boundary.{boundary-shown}
use Rattle.marehour.proofs.promises.boundary_sections.Goals as goal

pub returns : goal.returns
returns c = boundary-shown
