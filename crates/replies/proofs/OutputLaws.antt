-- What `los` prints (specs/Output).
use mathlib.Core.Path.{sym, ◌∙◌}
use Rattle.text.specs.Runs.{TooLongAlike}
use Rattle.text.proofs.RunLaws.{any-pieces}
use Rattle.replies.specs.Output.{line_texts, OutputOfAnyPieces}
use Rattle.replies.proofs.TextsLaws.{line_text-long}

-- lines that are too long get the same answer
pub too-long-alike : TooLongAlike line_texts
too-long-alike l m h k = line_text-long l h ∙ sym (line_text-long m k)

-- it is the answers of the input's lines
pub output-of-any-pieces : OutputOfAnyPieces
output-of-any-pieces = any-pieces line_texts too-long-alike
