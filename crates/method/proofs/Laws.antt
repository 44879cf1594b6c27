-- The laws that specs/Laws states, proved: each by the law of the file beside its definition.
use Rattle.std.proofs.Common.{refl}
use Rattle.curve.specs.Service.{performance}
use Rattle.curve.proofs.WeatherLaws.{multilane-clear}
use Rattle.curve.proofs.ServiceLaws.{letter_at-zero}
use Rattle.road.specs.Refusals.{road_refusals, load_refusals, field_refusals}
use Rattle.road.proofs.RefusalLaws.{fields-weather}
use Rattle.method.specs.Refusals.{speed_refusals, refusals}
use Rattle.method.specs.Checked.{case_curve}
use Rattle.method.specs.Flow.{load_of}
use Rattle.method.specs.Assess.{measures}
use Rattle.method.specs.Laws.{AcceptedCurveIsWellFormed, MultilaneIsInClearWeather, FlowRateNeverFallsWithLoad, NoDemandGetsA}
use Rattle.method.specs.Laws.{RefusalsInOrder}
use Rattle.method.proofs.RefusalLaws.{accepted-fields}
use Rattle.method.proofs.CheckedLaws.{case_curve-well_formed, case_curve-sized}
use Rattle.method.proofs.FlowLaws.{case_flow_rate-mono, case_load-sized, flow_rate_of-zero}

pub accepted-curve-is-well-formed : AcceptedCurveIsWellFormed
accepted-curve-is-well-formed case a = (case_curve-well_formed case a, case_curve-sized case a)

pub multilane-is-in-clear-weather : MultilaneIsInClearWeather
multilane-is-in-clear-weather case a e =
    multilane-clear case.weather (rw e at (fields-weather case (accepted-fields case a)))

pub flow-rate-never-falls-with-load : FlowRateNeverFallsWithLoad
flow-rate-never-falls-with-load = case_flow_rate-mono

pub no-demand-gets-a : NoDemandGetsA
unfolding measures performance
no-demand-gets-a case a e =
    rw (flow_rate_of-zero (load_of case case.lanes) case.demand (case_load-sized case (accepted-fields case a)).divisor-pos e)
    (letter_at-zero (case_curve case) (case_curve-well_formed case a))

pub refusals-in-order : RefusalsInOrder
unfolding road_refusals load_refusals field_refusals speed_refusals refusals
refusals-in-order case = refl
