-- The loop of `text::decimal::put_number`: the digits behind those of the rest are written.
use Rattle.text.proofs.RowLaws.{Filling}
use Rattle.text.proofs.decimal.put_number.Given as goal

abbrev pub invariant-loop-rest : goal.invariant-loop-rest
invariant-loop-rest l = Filling l.n l.initial.out l.out l.rest l.place

abbrev pub decreases-loop-rest : goal.decreases-loop-rest
decreases-loop-rest l = l.rest
