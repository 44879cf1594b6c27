-- Instances that are worked out with no law (specs/Instances), shown.
use Rattle.numbers.specs.Division.{div_up}
use Rattle.refusals.specs.Facts.{Shown}
use Rattle.refusals.specs.Numbers.{in_order, refusal_of}
use Rattle.refusals.proofs.FactLaws.{Shown-same}
use Rattle.road.specs.Refusals.{weather_unfit, road_refusals, load_refusals, field_refusals}
use Rattle.method.specs.Refusals.{refusals}
use Rattle.daily.specs.Daily.{shares_unfit, traffic_refusals, hourly_demand}
use Rattle.daily.specs.Instances.{hourly_instances, refusal_instances}

-- hourly demands
pub hourly-shown : Shown hourly_instances
unfolding div_up hourly_demand hourly_instances
hourly-shown = Shown-same hourly_instances tt

-- the order of the refusals
pub refusals-shown : Shown refusal_instances
unfolding in_order refusal_of div_up weather_unfit road_refusals load_refusals field_refusals refusals shares_unfit traffic_refusals hourly_demand refusal_instances
refusals-shown = Shown-same refusal_instances tt
