-- `day::put_position` meets its contract: the figures are written behind the number.
use Rattle.std.proofs.Common.{arith}
use Rattle.text.proofs.BufferLaws.{nothing, then, then-byte}
use Rattle.day.proofs.put_position.Goals as goal

pub returns : goal.returns
returns c = then (then-byte nothing c.args.number (omega (arith, c.requires))) c.put_numbers.ensures
