-- `text::promises::input_in_any_pieces`: proofs/RunLaws.
use Rattle.text.proofs.RunLaws.{any-pieces, some-run}
use Rattle.text.proofs.promises.input_in_any_pieces.Goals as goal

pub returns-clause-any : goal.returns-clause-any
returns-clause-any c = any-pieces

pub returns-clause-some : goal.returns-clause-some
returns-clause-some c = some-run
