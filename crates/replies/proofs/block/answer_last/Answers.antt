-- `replies::block::answer_last` meets its contract: no newline is held, so what is held is one line, or none
-- where it is empty.
use Rattle.text.proofs.BlockLaws.{last-none}
use Rattle.replies.specs.Output.{line_texts}
use Rattle.replies.proofs.block.answer_last.Goals as goal

pub returns-then-held-eq0-clause-wrote : goal.returns-then-held-eq0-clause-wrote
returns-then-held-eq0-clause-wrote c = last-none line_texts c.args.held.now c.requires.1 c.args.out.now c.if-held-eq0.true
