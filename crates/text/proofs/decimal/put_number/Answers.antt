-- `text::decimal::put_number` meets its contract: the digits behind those of the rest are written, and then
-- its one digit.
use Rattle.std.proofs.Common.{arith}
use Rattle.text.proofs.RowLaws.{all-filled}
use Rattle.text.proofs.decimal.put_number.Goals as goal

pub returns : goal.returns
returns c = rw c.digit_count-count.ensures (all-filled c.loop-rest.invariant c.requires (omega arith))
