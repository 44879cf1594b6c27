-- `answer::promises::least_accepted_count`, by the laws.
use Rattle.answer.proofs.PromiseLaws.{least-accepted-count}
use Rattle.answer.proofs.Instances.{four-lanes-for-every-letter, no-lanes-for-the-greatest-demand, three-lanes-on-a-multilane}
use Rattle.answer.proofs.Instances.{three-lanes-in-snow}
use Rattle.answer.proofs.promises.least_accepted_count.Goals as goal

pub returns-clause-part : goal.returns-clause-part
returns-clause-part c = least-accepted-count

pub returns-clause-four_lanes : goal.returns-clause-four_lanes
returns-clause-four_lanes c = four-lanes-for-every-letter

pub returns-clause-no_lanes : goal.returns-clause-no_lanes
returns-clause-no_lanes c = no-lanes-for-the-greatest-demand

pub returns-clause-multilane : goal.returns-clause-multilane
returns-clause-multilane c = three-lanes-on-a-multilane

pub returns-clause-in_snow : goal.returns-clause-in_snow
returns-clause-in_snow c = three-lanes-in-snow
