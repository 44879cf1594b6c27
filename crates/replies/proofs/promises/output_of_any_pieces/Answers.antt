-- `replies::promises::output_of_any_pieces`: proofs/OutputLaws.
use Rattle.replies.proofs.OutputLaws.{output-of-any-pieces}
use Rattle.replies.proofs.promises.output_of_any_pieces.Goals as goal

pub returns : goal.returns
returns c = output-of-any-pieces
