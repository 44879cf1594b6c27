-- The laws of the method, stated over the definitions that the contracts cite; proofs/Laws proves each.
use Rattle.std.specs.Prelude.{◌≡◌, [], ◌∷◌, map, ◌≤◌}
use Rattle.curve.specs.declared.kind.Kind.TheVariants as Kind
use Rattle.curve.specs.declared.service.Letter.TheVariants as Letter
use Rattle.curve.specs.Curves.{WellFormed, Sized}
use Rattle.curve.specs.Weather.{clear}
use Rattle.road.specs.declared.Case.{Case}
use Rattle.road.specs.Refusals.{FieldsFit}
use Rattle.method.specs.Refusals.{refusals, Accepted}
use Rattle.method.specs.Checked.{case_curve}
use Rattle.method.specs.Flow.{truck_equivalent, case_flow_rate}
use Rattle.method.specs.Assess.{measures}

-- CURVE-3, CASE-4, SAFE-1: the curve of an accepted case has its breakpoint below its capacity, the speed at
-- capacity is at most F, and 64 bits hold its products.
abbrev pub AcceptedCurveIsWellFormed : Type 0
AcceptedCurveIsWellFormed =
    (case : Case) → Accepted case → WellFormed (case_curve case) × Sized (case_curve case)

-- WEATHER-1, CASE-4: an accepted case of kind M is in clear weather, so that what is said of clear weather
-- holds of it.
abbrev pub MultilaneIsInClearWeather : Type 0
MultilaneIsInClearWeather =
    (case : Case) → Accepted case → case.road.kind ≡ Kind.Multilane → case.weather ≡ clear

-- FLOW-2: the flow rate never falls with more demand, a larger heavy share, a larger truck equivalent, a
-- lower peak-hour factor or fewer lanes, to a case that 1 to 9 and 19 do not refuse.
abbrev pub FlowRateNeverFallsWithLoad : Type 0
FlowRateNeverFallsWithLoad =
    (c d : Case) → FieldsFit d → c.demand ≤ d.demand → c.heavy_share ≤ d.heavy_share
    → truck_equivalent c.terrain ≤ truck_equivalent d.terrain
    → d.peak_hour_factor ≤ c.peak_hour_factor
    → d.lanes ≤ c.lanes
    → case_flow_rate c ≤ case_flow_rate d

-- LETTER-1, VOLUME-2: an accepted case without demand gets letter A.
abbrev pub NoDemandGetsA : Type 0
NoDemandGetsA =
    (case : Case) → Accepted case → case.demand ≡ 0 → (measures case).performance.letter ≡ Letter.A

-- ORDER-2: the list of refusals has these numbers, in this order, for every case; 10 is tested before the
-- weather's factor and after it.
abbrev pub RefusalsInOrder : Type 0
RefusalsInOrder =
    (case : Case) → map (λ r. r.number) (refusals case) ≡ 1 ∷ 2 ∷ 3 ∷ 4 ∷ 5 ∷ 6 ∷ 7 ∷ 8 ∷ 9 ∷ 19 ∷ 10 ∷ 10 ∷ []
