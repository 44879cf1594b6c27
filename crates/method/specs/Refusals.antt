-- Refusal 10, after 1 to 9 and 19.
use Rattle.std.specs.Prelude.{ℕ, ◌≡◌, List, [], ◌∷◌, ◌++◌, nat_lt}
use Rattle.refusals.specs.Refusals.{Condition, refuses, first_refusal}
use Rattle.curve.specs.declared.Weather.{Weather}
use Rattle.curve.specs.Kinds.{lowest_speed, lowest_adjusted_speed}
use Rattle.curve.specs.Weather.{adjusted_speed}
use Rattle.road.specs.declared.Road.{Road}
use Rattle.road.specs.declared.Case.{Case}
use Rattle.road.specs.FreeFlowSpeed.{free_flow_speed_of}
use Rattle.road.specs.Refusals.{field_refusals}

-- REFUSAL-10: of a road with n lanes under weather: F before the weather's factor, and after it
unfoldable pub speed_refusals : Road → Weather → ℕ → List Condition
speed_refusals road weather n =
    refuses 10 (nat_lt (free_flow_speed_of road n) (lowest_speed road.kind))
    ∷ refuses 10 (nat_lt (adjusted_speed weather (free_flow_speed_of road n)) (lowest_adjusted_speed road.kind))
    ∷ []

-- ORDER-2: 1 to 9, 19 and 10, of a case
unfoldable pub refusals : Case → List Condition
refusals case = field_refusals case ++ speed_refusals case.road case.weather case.lanes

-- ORDER-1, ORDER-2: the number of the first of 1 to 9, 19 and 10 that refuses the case, 0 where none does
abbrev pub refusal : Case → ℕ
refusal case = first_refusal (refusals case)

-- CASE-4: none of 1 to 9, 19 and 10 refuses the case
abbrev pub Accepted : Case → Type 0
Accepted case = refusal case ≡ 0
