-- The loop of `replies::block::answer_block`: the lines answered so far, and what is left to do, are the
-- lines that the block's turn answers.
use Prim.Native.Nat.{◌-◌}
use lib.ListN.{length}
use Rattle.text.proofs.BlockLaws.{Answering}
use Rattle.replies.specs.Output.{line_texts}
use Rattle.replies.proofs.block.answer_block.Given as goal

abbrev pub invariant-loop-written : goal.invariant-loop-written
invariant-loop-written l = Answering line_texts l.block l.initial.out l.out l.read l.written

abbrev pub decreases-loop-written : goal.decreases-loop-written
decreases-loop-written l = length l.block - l.read
