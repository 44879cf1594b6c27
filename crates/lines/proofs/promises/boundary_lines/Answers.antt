-- `lines::promises::boundary_lines`, by the lines that were read.
use Rattle.lines.proofs.Boundary.{lines-shown}
use Rattle.lines.proofs.promises.boundary_lines.Goals as goal

pub returns : goal.returns
returns c = lines-shown
