-- `replies::block::answer_turn` meets its contract: where nothing is answered, no whole line is left, and 81
-- bytes at most are carried over.
use Rattle.std.proofs.Common.{length, arith}
use Rattle.text.specs.Held.{carried}
use Rattle.text.proofs.StreamLaws.{nothing-left}
use Rattle.text.proofs.CarryLaws.{carried-short}
use Rattle.replies.specs.Output.{line_texts}
use Rattle.replies.proofs.TextsLaws.{line_text-pos}
use Rattle.replies.proofs.block.answer_turn.Goals as goal

pub returns-clause-room : goal.returns-clause-room
unfolding carried
returns-clause-room c =
    let room = length c.args.out.now in
    let held = c.args.held.now in
    let block = c.answer_block-read in
    λ h z.
    let none = nothing-left line_texts room held line_text-pos h (omega arith) in
    omega (arith, c.carry_over-carried.ensures.count, rw (← block.ensures.read) at (carried-short line_texts room held none))
