-- `daily::promises::instances` meets its contract: the instances are shown in proofs/Computed and
-- proofs/Instances.
use Rattle.daily.proofs.Instances.{no-traffic-meets-a, instances-shown}
use Rattle.daily.proofs.Computed.{hourly-shown, refusals-shown}
use Rattle.daily.proofs.promises.instances.Goals as goal

pub returns-clause-no_traffic_meets_a : goal.returns-clause-no_traffic_meets_a
returns-clause-no_traffic_meets_a c = no-traffic-meets-a

pub returns-clause-hourly_demands : goal.returns-clause-hourly_demands
returns-clause-hourly_demands c = hourly-shown

pub returns-clause-refusals : goal.returns-clause-refusals
returns-clause-refusals c = refusals-shown

pub returns-clause-answers : goal.returns-clause-answers
returns-clause-answers c = instances-shown
