-- The boundary sections (specs/Boundary), shown, with those of the layer below.
use Rattle.std.proofs.Common.{◌≡◌, refl, ap, ◌∙◌, Bool, false, ◌&&◌, [], ◌∷◌, ◌++◌, ℕ, ◌≤◌, arith, T, leb, leb→le, drop, get_or}
use Rattle.numbers.specs.Division.{div_up}
use Rattle.numbers.specs.Search.{least_from, least, ends_at}
use Rattle.numbers.proofs.SearchLaws.{greatest-last}
use Rattle.numbers.proofs.BoolLaws.{and-left, and-right}
use Rattle.refusals.specs.Refusals.{refuses}
use Rattle.refusals.specs.Facts.{Shown}
use Rattle.refusals.specs.Numbers.{in_order, refusal_of, refusal_number}
use Rattle.refusals.proofs.FactLaws.{Shown-append}
use Rattle.curve.specs.declared.kind.Kind.TheVariants as Kind
use Rattle.curve.specs.declared.Curve.{Curve}
use Rattle.curve.specs.Curves.{capacity, breakpoint}
use Rattle.curve.specs.declared.Weather.{Weather}
use Rattle.curve.specs.Weather.{factors, clear, adjusted_speed, adjusted_capacity, adjusted_breakpoint, curve_under}
use Rattle.curve.specs.Speed.{fall_share_by, speed, shown_speed}
use Rattle.curve.specs.Service.{density, shown_density, density_letter, letter_at, meets_limit, density_limit, performance}
use Rattle.road.specs.Interpolation.{entry_before, entry_after, weighted_sum, interpolated}
use Rattle.road.specs.Adjustments.{lane_width_adjustment, per_missing_foot, right_clearance_row, right_clearance_adjustment}
use Rattle.road.specs.declared.Road.{Road}
use Rattle.road.specs.declared.Case.{Case}
use Rattle.road.specs.FreeFlowSpeed.{estimated_by, uncapped_by, free_flow_speed_of}
use Rattle.road.specs.Refusals.{greatest_demand, weather_unfit, road_refusals, load_refusals, field_refusals}
use Rattle.method.specs.Refusals.{speed_refusals, refusals, Accepted}
use Rattle.method.specs.Checked.{curve_of, case_curve}
use Rattle.method.specs.Flow.{heavy_factor_of, load_of, flow_rate_of}
use Rattle.method.specs.Assess.{measures}
use Rattle.method.specs.Boundary as specs-method
use Rattle.method.specs.Boundary.{example, refused_by_all}
use Rattle.method.proofs.Boundary as method
use Rattle.road.proofs.Boundary.{ramp-6, ramp-24}
use Rattle.answer.specs.Volumes.{meets, service_volume}
use Rattle.answer.specs.Answers as answers
use Rattle.answer.specs.Answers.{graded, answer_to}
use Rattle.answer.specs.Lanes as lanes
use Rattle.answer.specs.Lanes.{lanes_found, lanes_refusals, lanes_answer}
use Rattle.answer.specs.Search.{demand_meets}
use Rattle.answer.specs.SearchOrder.{eight_lanes}
use Rattle.answer.specs.Boundary.{example_with, example_in_snow, estimated, given_in_snow, refused_by19, greatest_flow, answered, lanes_answered}
use Rattle.answer.specs.Boundary.{added_facts, boundary_facts}
use Rattle.answer.proofs.VolumeLaws.{case_meets, case_meets-down, service_volume-eq}

-- F by the lanes, of the printed case and of the one that 10 refuses
pub example-speeds : (free_flow_speed_of example.road 2 ≡ 60782) × (free_flow_speed_of example.road 3 ≡ 61582)
    × (free_flow_speed_of example.road 4 ≡ 62382) × (free_flow_speed_of example.road 5 ≡ 62782) × (free_flow_speed_of example.road 6 ≡ 62782)
    × (free_flow_speed_of example.road 7 ≡ 62782) × (free_flow_speed_of example.road 8 ≡ 62782)
unfolding div_up entry_before entry_after weighted_sum interpolated lane_width_adjustment per_missing_foot right_clearance_row
    right_clearance_adjustment estimated_by uncapped_by free_flow_speed_of
example-speeds = (simp ramp-24, simp ramp-24, simp ramp-24, simp ramp-24, simp ramp-24, simp ramp-24, simp ramp-24)

pub estimated-speeds : (free_flow_speed_of estimated.road 2 ≡ 53180) × (free_flow_speed_of estimated.road 3 ≡ 54380)
    × (free_flow_speed_of estimated.road 4 ≡ 55580)
unfolding div_up entry_before entry_after weighted_sum interpolated lane_width_adjustment per_missing_foot right_clearance_row
    right_clearance_adjustment estimated_by uncapped_by free_flow_speed_of
estimated-speeds = (simp ramp-6, simp ramp-6, simp ramp-6)

-- the printed case is accepted
pub example-accepted : Accepted example
unfolding weather_unfit road_refusals load_refusals field_refusals adjusted_speed speed_refusals refusals
example-accepted = simp example-speeds.0

-- so are the two cases in snow
pub snow-accepted : Accepted (given_in_snow 2 3000) × Accepted (example_in_snow 2000)
unfolding uncapped_by free_flow_speed_of weather_unfit road_refusals load_refusals field_refusals adjusted_speed speed_refusals refusals
snow-accepted = (refl, simp example-speeds.0)

-- ---- curves
abbrev freeway : (f c b : ℕ) → Curve
freeway f c b = record { kind = Kind.Freeway; free_flow_speed = f; capacity = c; breakpoint = b }

-- the curve of a road with n lanes under weather, by F, c and b; 10 does not refuse it
abbrev HasCurve : Road → Weather → (n f c b : ℕ) → Type 0
HasCurve road weather n f c b =
    (curve_of road weather n ≡ freeway f c b) × (speed_refusals road weather n ≡ refuses 10 false ∷ refuses 10 false ∷ [])

example-curves : HasCurve example.road clear 2 60782 230782 156872 × HasCurve example.road clear 3 61582 231582 153672
    × HasCurve example.road clear 4 62382 232382 150472 × HasCurve example.road clear 5 62782 232782 148872
    × HasCurve example.road clear 6 62782 232782 148872 × HasCurve example.road clear 7 62782 232782 148872
    × HasCurve example.road clear 8 62782 232782 148872
unfolding capacity breakpoint adjusted_speed adjusted_capacity adjusted_breakpoint curve_under speed_refusals curve_of
example-curves =
    let speed = example-speeds in (
      (simp speed.0, simp speed.0),
      (simp speed.1, simp speed.1),
      (simp speed.2, simp speed.2),
      (simp speed.3, simp speed.3),
      (simp speed.4, simp speed.4),
      (simp speed.5, simp speed.5),
      (simp speed.6, simp speed.6),
    )

snow-curves : HasCurve (given_in_snow 2 3000).road (factors 950 900) 2 71250 216000 93150
    × HasCurve example.road (factors 860 780) 2 52272 173372 116150 × HasCurve example.road (factors 860 780) 3 52960 173908 114476
unfolding uncapped_by free_flow_speed_of capacity breakpoint adjusted_speed adjusted_capacity adjusted_breakpoint curve_under speed_refusals curve_of
snow-curves =
    let speed = example-speeds in ((refl, refl), (simp speed.0, simp speed.0), (simp speed.1, simp speed.1))

abbrev pub VolumesOf : Case → (s₁ s₂ s₃ s₄ s₅ : ℕ) → Type 0
VolumesOf case s₁ s₂ s₃ s₄ s₅ =
    (service_volume case 1 ≡ s₁) × (service_volume case 2 ≡ s₂) × (service_volume case 3 ≡ s₃) × (service_volume case 4 ≡ s₄)
    × (service_volume case 5 ≡ s₅)

-- the service volumes of an accepted case with this curve, by where the search's tests end
module _ (case : Case) (curve : Curve) (a : Accepted case) (own : case_curve case ≡ curve) where
  -- the test on a curve
  keeps : Curve → ℕ → ℕ → Bool
  keeps on l demand = meets_limit on (flow_rate_of (load_of case case.lanes) demand) (density_limit l)

  ends : ℕ → ℕ → Bool
  ends l s = leb s greatest_demand && ends_at (keeps curve l) s

  volume : (l s : ℕ) → 1 ≤ l → l ≤ 5 → T (ends l s) → service_volume case l ≡ s
  unfolding demand_meets ends keeps
  volume l s h k t =
      let last : T (ends_at (keeps (case_curve case) l) s) = rw own (and-right (leb s greatest_demand) _ t) in
      service_volume-eq case l a h k
      ∙ greatest-last (case_meets case (density_limit l)) greatest_demand s (case_meets-down case (density_limit l) a)
      (leb→le s greatest_demand (and-left (leb s greatest_demand) _ t)) last

  five : (s₁ s₂ s₃ s₄ s₅ : ℕ) → T (ends 1 s₁) → T (ends 2 s₂) → T (ends 3 s₃) → T (ends 4 s₄) → T (ends 5 s₅)
      → VolumesOf case s₁ s₂ s₃ s₄ s₅
  five s₁ s₂ s₃ s₄ s₅ t₁ t₂ t₃ t₄ t₅ = (
    volume 1 s₁ (omega arith) (omega arith) t₁,
    volume 2 s₂ (omega arith) (omega arith) t₂,
    volume 3 s₃ (omega arith) (omega arith) t₃,
    volume 4 s₄ (omega arith) (omega arith) t₄,
    volume 5 s₅ (omega arith) (omega arith) t₅,
  )

-- volumes, snow-volumes: the service volumes of the printed case, and of it in snow
pub volumes : VolumesOf example 1117 1829 2642 3360 3858
unfolding div_up ends_at heavy_factor_of flow_rate_of fall_share_by speed density meets_limit density_limit keeps ends
volumes = five example (freeway 60782 230782 156872) example-accepted example-curves.0.0 1117 1829 2642 3360 3858 tt tt tt tt tt

given-volumes : VolumesOf (given_in_snow 2 3000) 1566 2506 3294 3884 4320
unfolding div_up ends_at heavy_factor_of flow_rate_of fall_share_by speed density meets_limit density_limit keeps ends
given-volumes =
    five (given_in_snow 2 3000) (freeway 71250 216000 93150) snow-accepted.0 snow-curves.0.0 1566 2506 3294 3884 4320 tt tt tt tt
    tt

pub snow-volumes : VolumesOf (example_in_snow 2000) 960 1572 2221 2636 2898
unfolding div_up ends_at heavy_factor_of flow_rate_of fall_share_by speed density meets_limit density_limit keeps ends
snow-volumes =
    five (example_in_snow 2000) (freeway 52272 173372 116150) snow-accepted.1 snow-curves.1.0 960 1572 2221 2636 2898 tt tt tt tt
    tt

-- the case with 8 lanes of specs/SearchOrder
pub eight-lanes-accepted : Accepted eight_lanes
unfolding uncapped_by free_flow_speed_of weather_unfit road_refusals load_refusals field_refusals adjusted_speed speed_refusals refusals
eight-lanes-accepted = refl

eight-lanes-curve : case_curve eight_lanes ≡ freeway 72500 240000 110000
unfolding uncapped_by free_flow_speed_of capacity breakpoint adjusted_speed adjusted_capacity adjusted_breakpoint curve_under curve_of
eight-lanes-curve = refl

pub eight-lanes-volumes : VolumesOf eight_lanes 6178 10054 13620 16449 18604
unfolding div_up ends_at heavy_factor_of flow_rate_of fall_share_by speed density meets_limit density_limit keeps ends
eight-lanes-volumes =
    five eight_lanes (freeway 72500 240000 110000) eight-lanes-accepted eight-lanes-curve 6178 10054 13620 16449 18604 tt tt tt tt tt

-- the case with the greatest flow rate
greatest-flow-accepted : Accepted greatest_flow
unfolding uncapped_by free_flow_speed_of weather_unfit road_refusals load_refusals field_refusals adjusted_speed speed_refusals refusals
greatest-flow-accepted = refl

greatest-flow-curve : case_curve greatest_flow ≡ freeway 75000 240000 100000
unfolding uncapped_by free_flow_speed_of capacity breakpoint adjusted_speed adjusted_capacity adjusted_breakpoint curve_under curve_of
greatest-flow-curve = refl

greatest-flow-volumes : VolumesOf greatest_flow 137 221 296 355 400
unfolding div_up ends_at heavy_factor_of flow_rate_of fall_share_by speed density meets_limit density_limit keeps ends
greatest-flow-volumes =
    five greatest_flow (freeway 75000 240000 100000) greatest-flow-accepted greatest-flow-curve 137 221 296 355 400 tt tt tt tt tt

-- ---- the figures
-- the printed line's eleven, a case that 10 refuses, those of the two in snow, and those at the greatest flow
-- rate
answers-shown : (answered example ≡ 0 ∷ 3 ∷ 60782 ∷ 230782 ∷ 1196 ∷ 60782 ∷ 197 ∷ 1117 ∷ 1829 ∷ 2642 ∷ 3360 ∷ 3858 ∷ [])
    × (answered estimated ≡ 10 ∷ [])
    × (answered (given_in_snow 2 3000) ≡ 0 ∷ 3 ∷ 71250 ∷ 216000 ∷ 1500 ∷ 66271 ∷ 227 ∷ 1566 ∷ 2506 ∷ 3294 ∷ 3884 ∷ 4320 ∷ [])
    × (answered (example_in_snow 2000) ≡ 0 ∷ 3 ∷ 52272 ∷ 173372 ∷ 1196 ∷ 52222 ∷ 230 ∷ 960 ∷ 1572 ∷ 2221 ∷ 2636 ∷ 2898 ∷ [])
    × (answered greatest_flow ≡ 0 ∷ 6 ∷ 75000 ∷ 240000 ∷ 5999994 ∷ 0 ∷ 0 ∷ 137 ∷ 221 ∷ 296 ∷ 355 ∷ 400 ∷ [])
unfolding in_order refusal_of div_up uncapped_by free_flow_speed_of weather_unfit road_refusals load_refusals field_refusals adjusted_speed
    speed_refusals refusals capacity breakpoint adjusted_capacity adjusted_breakpoint curve_under curve_of heavy_factor_of flow_rate_of fall_share_by speed shown_speed density shown_density
    density_limit density_letter letter_at performance measures graded
answers-shown =
    let given = given-volumes in
    let snow = snow-volumes in
    let most = greatest-flow-volumes in (
      simp (example-speeds.0, volumes.0, volumes.1, volumes.2, volumes.3, volumes.4),
      simp estimated-speeds.0,
      simp (given.0, given.1, given.2, given.3, given.4),
      simp (example-speeds.0, snow.0, snow.1, snow.2, snow.3, snow.4),
      simp (most.0, most.1, most.2, most.3, most.4),
    )

-- example-answer, example-figures: the printed line's answer: its number and its eleven figures; the figures
pub example-answer : answered example ≡ 0 ∷ 3 ∷ 60782 ∷ 230782 ∷ 1196 ∷ 60782 ∷ 197 ∷ 1117 ∷ 1829 ∷ 2642 ∷ 3360 ∷ 3858 ∷ []
example-answer = answers-shown.0

-- the answer to the case that 10 refuses
pub estimated-answer : answered estimated ≡ 10 ∷ []
estimated-answer = answers-shown.1

-- snow-answer, example-in-snow: the answers to the two cases in snow
pub snow-answer : answered (given_in_snow 2 3000)
    ≡ 0 ∷ 3 ∷ 71250 ∷ 216000 ∷ 1500 ∷ 66271 ∷ 227 ∷ 1566 ∷ 2506 ∷ 3294 ∷ 3884 ∷ 4320 ∷ []
snow-answer = answers-shown.2

pub example-in-snow : answered (example_in_snow 2000)
    ≡ 0 ∷ 3 ∷ 52272 ∷ 173372 ∷ 1196 ∷ 52222 ∷ 230 ∷ 960 ∷ 1572 ∷ 2221 ∷ 2636 ∷ 2898 ∷ []
example-in-snow = answers-shown.3

pub example-figures : answers.grade_figures (answer_to example) ≡ 3 ∷ 60782 ∷ 230782 ∷ 1196 ∷ 60782 ∷ 197 ∷ 1117 ∷ 1829 ∷ 2642 ∷ 3360 ∷ 3858 ∷ []
example-figures = ap (drop 1) example-answer

-- the lanes of the printed case, with more demand, with a letter number past E; in snow; the order 16, 1, 19
lanes-shown : (lanes_answered example 3 ≡ 0 ∷ 2 ∷ []) × (lanes_answered (example_with 2643) 3 ≡ 0 ∷ 3 ∷ [])
    × (lanes_answered (example_with 999999) 3 ++ lanes_answered (example_with 99999) 3 ≡ 14 ∷ 14 ∷ [])
    × (lanes_answered example 6 ≡ 16 ∷ []) × (lanes_answered (example_in_snow 2222) 3 ≡ 0 ∷ 3 ∷ [])
    × (lanes_answered refused_by19 1 ++ (lanes_answered refused_by19 6 ++ (lanes_answered refused_by_all 1 ++ lanes_answered refused_by_all 0)) ≡ 19 ∷ 16 ∷ 1 ∷ 16 ∷ [])
unfolding in_order refusal_of div_up least_from least weather_unfit road_refusals load_refusals field_refusals refusals heavy_factor_of flow_rate_of fall_share_by speed
    shown_speed density shown_density density_limit density_letter letter_at performance measures meets lanes_found lanes_refusals
lanes-shown =
    let c = example-curves in
    let s = snow-curves in (
      simp (c.0.0, c.0.1, c.1.0, c.1.1),
      simp (c.0.0, c.0.1, c.1.0, c.1.1),
      simp (
        c.0.0,
        c.0.1,
        c.1.0,
        c.1.1,
        c.2.0,
        c.2.1,
        c.3.0,
        c.3.1,
        c.4.0,
        c.4.1,
        c.5.0,
        c.5.1,
        c.6.0,
        c.6.1,
      ),
      refl,
      simp (s.1.0, s.1.1, s.2.0, s.2.1),
      refl,
    )

-- the lanes of the case that 10 refuses
estimated-shown : lanes_answered estimated 1 ≡ 0 ∷ 4 ∷ []
unfolding in_order refusal_of div_up least_from least weather_unfit road_refusals load_refusals field_refusals adjusted_speed speed_refusals refusals capacity
    breakpoint adjusted_capacity adjusted_breakpoint curve_under curve_of heavy_factor_of flow_rate_of fall_share_by speed shown_speed density
    shown_density density_limit density_letter letter_at performance measures meets lanes_found lanes_refusals
estimated-shown = simp (estimated-speeds.0, estimated-speeds.1, estimated-speeds.2)

-- with V = 2,643 it is three
pub three-at-2643 : lanes.lanes_figures (lanes_answer (example_with 2643) 3) ≡ 3 ∷ []
three-at-2643 = ap (drop 1) lanes-shown.1

-- with V = 999,999 no count of the printed case meets C
pub none-at-999999 : refusal_number (lanes_answer (example_with 999999) 3) ≡ 14
none-at-999999 = ap (λ ns. get_or ns 0 0) lanes-shown.2

added-shown : Shown added_facts
unfolding added_facts
added-shown =
    let a = answers-shown in
    let l = lanes-shown in (a.0, (l.0, (l.1, (l.2, (l.3, (a.1, (estimated-shown, (a.2, (a.3, (l.4, (l.5, (a.4, tt))))))))))))

-- each fact of the list is what is to be shown
pub boundary-shown : Shown boundary_facts
boundary-shown = Shown-append specs-method.boundary_facts added_facts method.boundary-shown added-shown
