-- `answer::promises::no_better_under_more_load`, by the laws.
use Rattle.answer.proofs.PromiseLaws.{no-better-under-more-load, no-better-in-clear-weather}
use Rattle.answer.proofs.Instances.{no-better-letter-under-more-load, no-better-letter-under-more-demand, no-better-letter-on-a-multilane}
use Rattle.answer.proofs.Instances.{no-better-letter-in-snow-with-fewer-lanes, no-better-letter-in-snow-on-an-estimate}
use Rattle.answer.proofs.promises.no_better_under_more_load.Goals as goal

pub returns-clause-part : goal.returns-clause-part
returns-clause-part c = no-better-under-more-load

pub returns-clause-in_clear_weather : goal.returns-clause-in_clear_weather
returns-clause-in_clear_weather c = no-better-in-clear-weather

pub returns-clause-more_load : goal.returns-clause-more_load
returns-clause-more_load c = no-better-letter-under-more-load

pub returns-clause-more_demand : goal.returns-clause-more_demand
returns-clause-more_demand c = no-better-letter-under-more-demand

pub returns-clause-multilane : goal.returns-clause-multilane
returns-clause-multilane c = no-better-letter-on-a-multilane

pub returns-clause-fewer_lanes_in_snow : goal.returns-clause-fewer_lanes_in_snow
returns-clause-fewer_lanes_in_snow c = no-better-letter-in-snow-with-fewer-lanes

pub returns-clause-estimate_in_snow : goal.returns-clause-estimate_in_snow
returns-clause-estimate_in_snow c = no-better-letter-in-snow-on-an-estimate
