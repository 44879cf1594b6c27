-- Refusal 10, after 1 to 9 and 19 (specs/Refusals).
use Rattle.std.proofs.Common.{◌≡◌, sym, ◌∙◌, List, ℕ, ◌≤◌, ◌<◌, min, ltb-false, le-ltb, lt-ltb, take, drop}
use Rattle.refusals.specs.Refusals.{Condition, first_refusal, unless_refused}
use Rattle.refusals.specs.declared.Refusal.TheVariants as Refusal
use Rattle.refusals.specs.Numbers.{refusal_of}
use Rattle.refusals.proofs.RefusalLaws.{first_refusal-none, first_refusal-join, first_refusal-le, first_refusal-met}
use Rattle.refusals.proofs.RefusalLaws.{none-met}
use Rattle.refusals.proofs.NumberLaws.{refusal_of-number}
use Rattle.curve.specs.Kinds.{lowest_speed, lowest_adjusted_speed}
use Rattle.curve.specs.Weather.{adjusted_speed}
use Rattle.curve.proofs.WeatherLaws.{curve_under-worked}
use Rattle.road.specs.declared.Case.{Case}
use Rattle.road.specs.Cases.{with_demand, with_load}
use Rattle.road.specs.FreeFlowSpeed.{free_flow_speed_of}
use Rattle.road.specs.Refusals.{greatest_demand, road_refusals, load_refusals, field_refusals, LoadFits, FieldsFit}
use Rattle.road.proofs.FreeFlowSpeedLaws.{free_flow_speed_of-le}
use Rattle.road.proofs.RefusalLaws.{fields-numbered, fit-demand, fields-weather, fields-with_load}
use Rattle.method.specs.Refusals.{speed_refusals, refusals, refusal, Accepted}

abbrev own_speed : Case → List Condition
own_speed case = speed_refusals case.road case.weather case.lanes

-- a case is refused with 19 at most
pub refusal-le : (case : Case) → refusal case ≤ 19
unfolding road_refusals load_refusals field_refusals speed_refusals refusals
refusal-le case = first_refusal-le 19 (refusals case) tt

-- a case that 1 to 9 and 19 do not refuse: 10 decides
pub refusals-fields : (case : Case) → FieldsFit case → refusal case ≡ first_refusal (own_speed case)
unfolding refusals
refusals-fields case z = first_refusal-none (field_refusals case) (own_speed case) (fields-numbered case) z

parts : (case : Case) → Accepted case → FieldsFit case × (first_refusal (own_speed case) ≡ 0)
unfolding refusals
parts case a = first_refusal-join (field_refusals case) (own_speed case) (fields-numbered case) a

-- what is accepted: neither 1 to 9 nor 19 refuse it
pub accepted-fields : (case : Case) → Accepted case → FieldsFit case
accepted-fields case a = (parts case a).0

-- nor is its demand above the greatest
pub accepted-demand : (case : Case) → Accepted case → case.demand ≤ greatest_demand
accepted-demand case a = fit-demand case (accepted-fields case a)

-- accepted-speed, accepted-adjusted: F of an accepted case is at its lower end or above, before its factor
-- and after it
pub accepted-speed : (case : Case) → Accepted case → lowest_speed case.road.kind ≤ free_flow_speed_of case.road case.lanes
unfolding speed_refusals
accepted-speed case a =
    ltb-false (free_flow_speed_of case.road case.lanes) (lowest_speed case.road.kind)
    (none-met (own_speed case) tt (parts case a).1).0

pub accepted-adjusted : (case : Case) → Accepted case
    → lowest_adjusted_speed case.road.kind ≤ adjusted_speed case.weather (free_flow_speed_of case.road case.lanes)
unfolding speed_refusals
accepted-adjusted case a =
    ltb-false (adjusted_speed case.weather (free_flow_speed_of case.road case.lanes)) (lowest_adjusted_speed case.road.kind)
    (none-met (own_speed case) tt (parts case a).1).1.0

-- refusal-within, refusal-above: the refusal of a case by that of the same case with no demand: the same with
-- every demand up to the greatest; with a greater one 7, unless one of 1 to 6 comes before it
pub refusal-within : (case : Case) → case.demand ≤ greatest_demand → refusal case ≡ refusal (with_demand case 0)
unfolding road_refusals load_refusals field_refusals refusals
refusal-within case h = rw (le-ltb greatest_demand case.demand h)

pub refusal-above : (case : Case) → greatest_demand < case.demand
    → refusal case ≡ unless_refused (refusal (with_demand case 0)) 7 (λ n. min n 7)
unfolding road_refusals load_refusals field_refusals speed_refusals refusals
refusal-above case h =
    rw (lt-ltb greatest_demand case.demand h) (first_refusal-met 7 (take 6 (refusals case)) (drop 7 (refusals case)) tt tt tt)

-- an accepted case is accepted with every demand up to the greatest
pub accepted-with_demand : (case : Case) (demand : ℕ) → Accepted case → demand ≤ greatest_demand → Accepted (with_demand case demand)
accepted-with_demand case demand a h =
    refusal-within (with_demand case demand) h
    ∙ sym (refusal-within case (accepted-demand case a))
    ∙ a

-- the refusal with number 10
pub refusal_of-ten : refusal_of 10 ≡ Refusal.SpeedBelowLowerEnd
refusal_of-ten = refusal_of-number Refusal.SpeedBelowLowerEnd

-- it is so under another load that 7 to 9 let pass
pub accepted-with_load : (case : Case) (demand factor share : ℕ) → Accepted case → LoadFits (with_load case demand factor share)
    → Accepted (with_load case demand factor share)
accepted-with_load case demand factor share a l =
    let (fields, speed) = parts case a in
    refusals-fields (with_load case demand factor share) (fields-with_load case demand factor share fields l) ∙ speed

-- accepted_ends, ten_laws: for tactics: accepted-demand, and what src wants of 10
pub ruleset accepted_ends = (accepted-demand)

pub ruleset ten_laws = (free_flow_speed_of-le, curve_under-worked, refusal_of-ten, fields-weather)
