-- The curve of a case, and refusal 10 in its place.
use Rattle.std.specs.Prelude.{ℕ, Result}
use Rattle.refusals.specs.declared.Refusal.{Refusal}
use Rattle.refusals.specs.Refusals.{first_refusal}
use Rattle.refusals.specs.Numbers.{ok_unless}
use Rattle.curve.specs.declared.Curve.{Curve}
use Rattle.curve.specs.declared.Weather.{Weather}
use Rattle.curve.specs.Weather.{curve_under}
use Rattle.road.specs.declared.Road.{Road}
use Rattle.road.specs.declared.Case.{Case}
use Rattle.road.specs.FreeFlowSpeed.{free_flow_speed_of}
use Rattle.method.specs.Refusals.{speed_refusals}

-- FFS-1, WEATHER-2, WEATHER-3: the curve of a road with n lanes under weather
unfoldable pub curve_of : Road → Weather → ℕ → Curve
curve_of road weather n = curve_under weather road.kind (free_flow_speed_of road n)

-- FFS-1, WEATHER-2, WEATHER-3: the curve of a case
abbrev pub case_curve : Case → Curve
case_curve case = curve_of case.road case.weather case.lanes

-- REFUSAL-10: the curve of a road with n lanes under weather, or 10
abbrev pub checked_curve : Road → Weather → ℕ → Result Curve Refusal
checked_curve road weather n =
    ok_unless (first_refusal (speed_refusals road weather n)) (curve_of road weather n)
