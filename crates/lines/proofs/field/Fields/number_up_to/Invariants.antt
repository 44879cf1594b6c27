-- The loop of `lines::field::Fields::number_up_to`: the digits read so far spell the value, and it fits.
use Rattle.std.proofs.Common.{◌≡◌, ◌^◌, ◌≤◌, ◌<◌, None}
use Rattle.lines.proofs.DigitsLaws.{DigitsRead}
use Rattle.lines.proofs.field.Fields.number_up_to.Given as goal

abbrev pub invariant-loop-b : goal.invariant-loop-b
invariant-loop-b l = record {
  none : l.self.rest ≡ None;
  counted : l.length ≡ l.b-index;
  digits : DigitsRead l.line l.b-index l.value;
  few : l.b-index ≤ l.most_digits;
  fits : l.value < 10 ^ l.b-index;
}
