-- `curve::promises::densities`, by the laws.
use Rattle.curve.proofs.Laws.{density-never-falls-with-flow, density-at-most-450, density-meets-limit-by-exact-speed}
use Rattle.curve.proofs.promises.densities.Goals as goal

pub returns-clause-with_flow : goal.returns-clause-with_flow
returns-clause-with_flow c = density-never-falls-with-flow

pub returns-clause-most : goal.returns-clause-most
returns-clause-most c = density-at-most-450

pub returns-clause-by_exact_speed : goal.returns-clause-by_exact_speed
returns-clause-by_exact_speed c = density-meets-limit-by-exact-speed
