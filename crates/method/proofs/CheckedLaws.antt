-- The curve of a case, and refusal 10 in its place (specs/Checked).
use Rattle.std.proofs.Common.{◌≡◌, sym, ap, ◌∙◌, Ok, Err, le_trans, lit≤}
use Rattle.refusals.specs.declared.Refusal.{Refusal}
use Rattle.refusals.specs.Numbers.{number, refusal_number, ok_unless}
use Rattle.refusals.proofs.NumberLaws.{ok_unless-found, refusal_number-ok_unless}
use Rattle.curve.specs.declared.Curve.{Curve}
use Rattle.curve.specs.Curves.{WellFormed, Sized}
use Rattle.curve.proofs.WeatherLaws.{curve_under-fits}
use Rattle.road.specs.declared.Case.{Case}
use Rattle.road.specs.FreeFlowSpeed.{free_flow_speed_of}
use Rattle.road.specs.Refusals.{FieldsFit}
use Rattle.road.proofs.RefusalLaws.{fields-weather, fields-with_load, lanes-low, lanes-high}
use Rattle.road.proofs.FreeFlowSpeedLaws.{free_flow_speed_of-le}
use Rattle.method.specs.Refusals.{refusal, Accepted}
use Rattle.method.specs.Checked.{curve_of, case_curve, checked_curve}
use Rattle.method.proofs.RefusalLaws.{refusal-le, refusals-fields, accepted-fields, accepted-adjusted, accepted-with_load}
use Rattle.method.proofs.FlowLaws.{case_load-sized}

fits : (case : Case) → Accepted case → WellFormed (case_curve case) × Sized (case_curve case)
unfolding curve_of
fits case a =
    curve_under-fits case.road.kind case.weather (free_flow_speed_of case.road case.lanes)
    (fields-weather case (accepted-fields case a)) (accepted-adjusted case a) (free_flow_speed_of-le case.road case.lanes)

-- case_curve-well_formed, case_curve-sized: the curve of an accepted case
pub case_curve-well_formed : (case : Case) → Accepted case → WellFormed (case_curve case)
case_curve-well_formed case a = (fits case a).0

pub case_curve-sized : (case : Case) → Accepted case → Sized (case_curve case)
case_curve-sized case a = (fits case a).1

-- what is checked of a case that 1 to 9 and 19 do not refuse
module _ (case : Case) (z : FieldsFit case) where
  by-refusal : checked_curve case.road case.weather case.lanes ≡ ok_unless (refusal case) (case_curve case)
  by-refusal = ap (λ n. ok_unless n (case_curve case)) (sym (refusals-fields case z))

  -- where a curve is found, the case is accepted, and the curve is its own
  pub checked_curve-accepted : (curve : Curve) → checked_curve case.road case.weather case.lanes ≡ Ok curve
      → Accepted case × (curve ≡ case_curve case)
  checked_curve-accepted curve e = ok_unless-found (refusal case) (case_curve case) curve (sym by-refusal ∙ e)

  -- where none is, the refusal is the case's
  pub checked_curve-refused : (r : Refusal) → checked_curve case.road case.weather case.lanes ≡ Err r → number r ≡ refusal case
  checked_curve-refused r e =
      ap refusal_number (sym e ∙ by-refusal) ∙ refusal_number-ok_unless (refusal case) (case_curve case) (le_trans (refusal-le case) (lit≤ tt))

-- accepted_laws, another_load: for tactics: what is accepted, and what stays so under another load
pub ruleset accepted_laws = (checked_curve-accepted, checked_curve-refused, case_curve-well_formed, case_curve-sized, lanes-low, lanes-high, case_load-sized)

pub ruleset another_load = (accepted-fields, accepted-with_load, fields-with_load, lanes-low, lanes-high, case_load-sized)
