-- `replies::stream::answer_turn` meets its contract: where nothing is answered, no whole line is left, and 81
-- bytes at most are carried over.
use Rattle.std.proofs.Common.{◌≡◌, length, drop, ap, ◌∙◌, arith}
use Rattle.text.specs.Stream.{texts}
use Rattle.text.specs.Held.{answered, size, cut_off, carried}
use Rattle.text.proofs.StreamLaws.{nothing-left, carried-newline}
use Rattle.text.proofs.CarryLaws.{carried-short, answered-less}
use Rattle.replies.specs.Output.{line_texts}
use Rattle.replies.proofs.TextsLaws.{line_text-pos}
use Rattle.replies.proofs.stream.answer_turn.Goals as goal

-- what is held afterwards
after : (c : goal.After-carry_over) → c.carry_over.new.self ≡ carried line_texts (length c.args.out.now) c.args.held.now
unfolding carried
after c =
    let held = c.args.held.now in
    let read : c.answer_block-read.result.read ≡ size (answered line_texts (length c.args.out.now) c.args.held.now) =
    rw c.bytes.ensures at c.answer_block-read.ensures.read in
    c.carry_over.ensures ∙ ap (λ n. cut_off 81 (drop n held)) read

-- how much was written
count : (c : goal.After-carry_over)
    → c.answer_block-read.result.written ≡ length (texts line_texts (answered line_texts (length c.args.out.now) c.args.held.now))
count c = rw c.bytes.ensures at c.answer_block-read.ensures.text.count

pub returns-clause-less : goal.returns-clause-less
returns-clause-less c =
    let n = count c in
    λ some. rw (after c) (answered-less line_texts (length c.args.out.now) c.args.held.now c.requires (omega arith))

pub returns-clause-none_left : goal.returns-clause-none_left
returns-clause-none_left c =
    let room = length c.args.out.now in
    let held = c.args.held.now in
    let n = count c in
    λ none.
    let last = nothing-left line_texts room held line_text-pos c.requires (omega arith) in
    rw (after c) (carried-newline line_texts room held last, carried-short line_texts room held last)
