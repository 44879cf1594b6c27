-- The loop of `text::decimal::put_figures`: each turn writes a tab and a number behind what the figures
-- before it took.
use Rattle.std.proofs.Common.{take}
use Rattle.text.specs.Decimal.{figures_text}
use Rattle.text.specs.Buffer.{Wrote}
use Rattle.text.proofs.decimal.put_figures.Given as goal

abbrev pub invariant-loop-figure : goal.invariant-loop-figure
invariant-loop-figure l = Wrote (figures_text (take l.figure-index l.figures)) l.initial.out l.out l.count
