-- `method::promises::accepted_cases`, by the laws.
use Rattle.method.proofs.Laws.{accepted-curve-is-well-formed, multilane-is-in-clear-weather, flow-rate-never-falls-with-load}
use Rattle.method.proofs.Laws.{no-demand-gets-a}
use Rattle.method.proofs.promises.accepted_cases.Goals as goal

pub returns-clause-curve : goal.returns-clause-curve
returns-clause-curve c = accepted-curve-is-well-formed

pub returns-clause-multilane : goal.returns-clause-multilane
returns-clause-multilane c = multilane-is-in-clear-weather

pub returns-clause-flow_rate : goal.returns-clause-flow_rate
returns-clause-flow_rate c = flow-rate-never-falls-with-load

pub returns-clause-no_demand : goal.returns-clause-no_demand
returns-clause-no_demand c = no-demand-gets-a
