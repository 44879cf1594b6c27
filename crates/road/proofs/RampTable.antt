-- FORM-8: the table of ramp terms as a list: src/ramp_table.rt has its numbers.
use Rattle.std.proofs.Common.{List, ℕ}
use Rattle.road.specs.declared.ramp_table.TheConstants.{RAMP_TERMS}

unfoldable pub ramp_table : List ℕ
ramp_table = RAMP_TERMS
