-- `text::stream::carry_over` meets its contract: what is kept is moved to the start, and nothing else is
-- changed.
use Rattle.std.proofs.Common.{◌≡◌, ◌+◌, ◌-◌, drop, zero-add, arith}
use Rattle.std.proofs.lemmas.List.{take_rest}
use Rattle.text.proofs.CarryLaws.{cut-is}
use Rattle.text.proofs.stream.carry_over.Goals as goal

pub returns-clause-held : goal.returns-clause-held
returns-clause-held c =
    let a = c.args in
    let n = c.carried_length-n.result in
    let moved : a.from + n - a.from ≡ n = omega arith in
    cc (zero-add n, take_rest a.held.now a.from, cut-is a.kept (drop a.from a.held.now))
