-- The loop of `replies::stream::answer_lines`: what is held stands for what was, and what is printed for the
-- rest was appended.
use Rattle.std.proofs.Common.{ℕ, List, length}
use Rattle.std.specs.Io.KnownBytes.{Appends}
use Rattle.text.specs.Held.{StandsFor}
use Rattle.replies.specs.Output.{line_texts}
use Rattle.replies.proofs.stream.answer_lines.Given as goal

abbrev pub invariant-loop-written : goal.invariant-loop-written
invariant-loop-written g l = (texts : List ℕ) × StandsFor line_texts l.initial.held l.held texts
    × Appends (g.W.Write.contents l.initial.output) (g.W.Write.contents l.output) texts

abbrev pub decreases-loop-written : goal.decreases-loop-written
decreases-loop-written g l = length l.held
