-- FORM-6: the table of powers as a list: src/power_table.rt has its numbers.
use Rattle.std.proofs.Common.{List, ℕ}
use Rattle.curve.specs.declared.power_table.TheConstants.{POWERS}

unfoldable pub power_table : List ℕ
power_table = POWERS
