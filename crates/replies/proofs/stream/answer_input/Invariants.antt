-- The loop of `replies::stream::answer_input`: what is held stands for what was read, and no newline is in
-- it.
use Rattle.std.proofs.Common.{◌+◌, ◌≤◌, length}
use Rattle.text.specs.Held.{IsHalfLine}
use Rattle.text.proofs.AnsweringLaws.{Underway}
use Rattle.lines.specs.Reading.{longest_line}
use Rattle.replies.specs.Output.{line_texts}
use Rattle.replies.proofs.stream.answer_input.Given as goal

abbrev pub invariant-loop : goal.invariant-loop
invariant-loop g l =
    Underway line_texts (g.R.Read.remaining l.initial.input) (g.R.Read.remaining l.input)
    (g.W.Write.contents l.initial.output) (g.W.Write.contents l.output) l.held
    × IsHalfLine l.held × (length l.held ≤ longest_line + 1)
