-- `curve::promises::powers`, by the laws.
use Rattle.curve.proofs.Laws.{power-is-least, power-never-falls, table-holds-powers}
use Rattle.curve.proofs.promises.powers.Goals as goal

pub returns-clause-least : goal.returns-clause-least
returns-clause-least c = power-is-least

pub returns-clause-never_falls : goal.returns-clause-never_falls
returns-clause-never_falls c = power-never-falls

pub returns-clause-table : goal.returns-clause-table
returns-clause-table c = table-holds-powers
