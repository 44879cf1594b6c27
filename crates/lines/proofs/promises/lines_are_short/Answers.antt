-- `lines::promises::lines_are_short`, by the laws of lines.
use Rattle.lines.proofs.Laws.{well-formed-lines-are-short, length-never-decides-alone}
use Rattle.lines.proofs.DemandLaws.{longest-is-read}
use Rattle.lines.proofs.promises.lines_are_short.Goals as goal

pub returns-clause-short : goal.returns-clause-short
returns-clause-short c = well-formed-lines-are-short

pub returns-clause-longest : goal.returns-clause-longest
returns-clause-longest c = longest-is-read

pub returns-clause-length : goal.returns-clause-length
returns-clause-length c = length-never-decides-alone
