-- Instances of a day (specs/Instances), shown.
use Rattle.std.proofs.Common.{inl, inr, lit<, lit≤}
use mathlib.Core.Path.{◌≡◌, refl, ap, ◌∙◌}
use mathlib.Core.List.{flat_map}
use lib.ListN.{drop, get_or, replicate}
use Rattle.numbers.specs.Division.{div_up}
use Rattle.refusals.specs.Facts.{Shown}
use Rattle.refusals.specs.Numbers.{in_order, refusal_of}
use Rattle.refusals.proofs.FactLaws.{Shown-same}
use Rattle.text.specs.Buffer.{written}
use Rattle.curve.specs.Curves.{capacity, breakpoint}
use Rattle.curve.specs.Weather.{adjusted_speed, adjusted_capacity, adjusted_breakpoint, curve_under}
use Rattle.curve.specs.Speed.{fall_share_by, speed, shown_speed}
use Rattle.curve.specs.Service.{density, shown_density, density_limit, density_letter, letter_at, performance}
use Rattle.road.specs.FreeFlowSpeed.{uncapped_by, free_flow_speed_of}
use Rattle.road.specs.Cases.{with_demand}
use Rattle.road.specs.Refusals.{weather_unfit, road_refusals, load_refusals, field_refusals}
use Rattle.method.specs.Refusals.{speed_refusals, refusals}
use Rattle.method.specs.Checked.{curve_of}
use Rattle.method.specs.Flow.{heavy_factor_of, flow_rate_of}
use Rattle.method.specs.Assess.{measures}
use Rattle.method.specs.Boundary.{example}
use Rattle.method.proofs.RefusalLaws.{accepted-with_demand}
use Rattle.answer.specs.Answers.{graded, answer_to}
use Rattle.answer.specs.Boundary.{given_in_snow}
use Rattle.answer.proofs.VolumeLaws.{service_volumes-with_demand}
use Rattle.answer.proofs.Boundary.{example-speeds, example-accepted, example-answer, snow-answer, volumes}
use Rattle.day.specs.Days.{figures_of, answer_figures, day_figures, lent_unfit, lent_refusals, day_content}
use Rattle.day.specs.Instances.{at2000, at2643, example_demands, example_day, refused_by8, refused_by6}
use Rattle.day.specs.Instances.{snow_demands, snow_day, over_and_within, nines_after, refused_instances, day_instances}
use Rattle.day.specs.Instances.{NumbersOfPositions, NoBetterWith2643, TwoNinesKept}
use Rattle.day.specs.Promises.{letter_number_at, road_number}
use Rattle.day.proofs.PromiseLaws.{day-is-the-single-calls, position-numbers, no-better-with-more-demand, past-the-demands-kept}

shown-2000 : answer_figures (answer_to (with_demand example 2000)) ≡ at2000
shown-2000 = ap (λ l. figures_of (get_or l 0 0) (drop 1 l)) example-answer

shown-2643 : answer_figures (answer_to (with_demand example 2643)) ≡ at2643
unfolding div_up weather_unfit road_refusals load_refusals field_refusals adjusted_speed speed_refusals refusals capacity breakpoint
    adjusted_capacity adjusted_breakpoint curve_under curve_of heavy_factor_of flow_rate_of fall_share_by speed shown_speed density shown_density
    density_limit density_letter letter_at performance measures graded
shown-2643 =
    let same = service_volumes-with_demand example 2643 in
    let v = volumes in
    simp (
      example-speeds.0,
      ap (λ x. x.a) same ∙ v.0,
      ap (λ x. x.b) same ∙ v.1,
      ap (λ x. x.c) same ∙ v.2,
      ap (λ x. x.d) same ∙ v.3,
      ap (λ x. x.e) same ∙ v.4,
    )

-- the printed road's day
pub example-day : nines_after example example_demands 38 ≡ example_day
unfolding in_order refusal_of flat_map weather_unfit road_refusals load_refusals field_refusals refusals lent_unfit lent_refusals day_figures
example-day = day-is-the-single-calls example example_demands (replicate 38 9) refl ∙ rw (shown-2000, shown-2643)

-- a day in snow: its first answer is that of the boundary list
snow-day : nines_after (given_in_snow 2 0) snow_demands 24 ≡ snow_day
unfolding in_order refusal_of flat_map weather_unfit road_refusals load_refusals field_refusals refusals lent_unfit lent_refusals day_figures
snow-day =
    day-is-the-single-calls (given_in_snow 2 0) snow_demands (replicate 24 9) refl
    ∙ rw (ap (λ l. figures_of (get_or l 0 0) (drop 1 l)) snow-answer)

-- where a road or the lent numbers are refused
pub refused-shown : Shown refused_instances
unfolding in_order refusal_of flat_map uncapped_by free_flow_speed_of weather_unfit road_refusals load_refusals field_refusals adjusted_speed
    speed_refusals refusals written lent_unfit lent_refusals day_figures day_content refused_instances
refused-shown = Shown-same refused_instances tt

-- days of accepted roads
pub instances-shown : Shown day_instances
unfolding lent_unfit lent_refusals day_content day_instances
instances-shown = (example-day, (snow-day, (refl, tt)))

-- ---- by the promises
accepted-road : road_number example ≡ 0
accepted-road = accepted-with_demand example 0 example-accepted (lit≤ tt)

pub numbers-of-positions : NumbersOfPositions
unfolding uncapped_by free_flow_speed_of weather_unfit road_refusals load_refusals field_refusals adjusted_speed speed_refusals refusals
    lent_unfit lent_refusals
numbers-of-positions =
    let accepted = position-numbers example example_demands (replicate 38 9) refl in
    let eight = position-numbers refused_by8 over_and_within (replicate 24 9) refl in
    let six = position-numbers refused_by6 over_and_within (replicate 24 9) refl in (
      (accepted 0 (lit< tt)).0 (lit≤ tt) ∙ accepted-road,
      (accepted 1 (lit< tt)).1 (lit< tt) (inl accepted-road),
      (eight 0 (lit< tt)).1 (lit< tt) (inr (lit< tt)),
      (eight 1 (lit< tt)).0 (lit≤ tt),
      (six 0 (lit< tt)).2 (lit≤ tt) (lit≤ tt),
      (six 1 (lit< tt)).2 (lit≤ tt) (lit≤ tt),
    )

pub no-better-with-2643 : NoBetterWith2643
unfolding lent_unfit lent_refusals
no-better-with-2643 = (
  ap (letter_number_at 0) example-day,
  ap (letter_number_at 2) example-day,
  no-better-with-more-demand example example_demands (replicate 38 9) refl accepted-road 0 2 (lit< tt) (lit< tt) (lit≤ tt) (lit≤ tt),
)

pub two-nines-kept : TwoNinesKept
two-nines-kept = past-the-demands-kept example example_demands (replicate 38 9)
