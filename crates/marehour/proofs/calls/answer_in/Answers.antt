-- `marehour::calls::answer_in` meets its contract: the buffer has room for any answer.
use Rattle.std.proofs.Common.{arith}
use Rattle.marehour.proofs.CallLaws.{buffer-room, grade-le}
use Rattle.marehour.proofs.calls.answer_in.Goals as goal

pub write_grade-requires : goal.write_grade-requires
write_grade-requires c = omega (arith, grade-le _ _ c.in_ok-grade.ensures, buffer-room _ _ c.in_ok-check_room.ensures)

pub returns-clause-fits : goal.returns-clause-fits
returns-clause-fits c = omega (arith, grade-le _ _ c.in_ok-grade.ensures, c.write_grade.ensures.count)
