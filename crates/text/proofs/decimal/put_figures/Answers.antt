-- `text::decimal::put_figures` meets its contract: each turn writes a tab and a number behind what the
-- figures before it took.
use mathlib.Core.List.{flat_map}
use Rattle.std.proofs.Common.{arith}
use Rattle.text.specs.Decimal.{figures_text}
use Rattle.text.proofs.BufferLaws.{nothing}
use Rattle.text.proofs.RowLaws.{next-number}
use Rattle.text.proofs.decimal.put_figures.Goals as goal

pub loop-figure-init : goal.loop-figure-init
unfolding flat_map figures_text
loop-figure-init c = nothing

pub loop-figure-preserved : goal.loop-figure-preserved
loop-figure-preserved c = next-number _ _ (omega arith) c.requires c.loop-figure.invariant c.put_number-count.ensures
