-- The loop of `text::stream::read_piece`: reads that are interrupted leave the input as it was.
use Rattle.std.proofs.Common.{◌≡◌, length}
use Rattle.std.specs.Io.KnownBytes.{Keeps}
use Rattle.text.proofs.stream.read_piece.Given as goal

abbrev pub invariant-loop : goal.invariant-loop
invariant-loop g l = (length l.room ≡ length l.initial.room)
    × Keeps (g.R.Read.remaining l.initial.input) (g.R.Read.remaining l.input)
