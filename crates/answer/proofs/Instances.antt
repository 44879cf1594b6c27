-- SHAPE-1 to SHAPE-3: instances of each (specs/Instances), proved by it.
use Rattle.std.proofs.Common.{◌≡◌, refl, ap, ◌∙◌, inl, inr, [], ◌∷◌, ℕ, zero, suc, ◌≤◌, ◌<◌, arith, T, leb, le→leb, get_or}
use Rattle.numbers.specs.Division.{div_up}
use Rattle.refusals.specs.Numbers.{refusal_number}
use Rattle.curve.specs.Curves.{capacity, breakpoint}
use Rattle.curve.specs.Weather.{adjusted_speed, adjusted_capacity, adjusted_breakpoint, curve_under}
use Rattle.curve.specs.Speed.{fall_share_by, speed, shown_speed}
use Rattle.curve.specs.Service.{density, shown_density, density_limit, density_letter, letter_at, performance}
use Rattle.curve.proofs.KindLaws.{kind-ends}
use Rattle.road.specs.declared.Case.{Case}
use Rattle.road.specs.Cases.{with_demand, with_lanes}
use Rattle.road.specs.FreeFlowSpeed.{uncapped_by, free_flow_speed_of}
use Rattle.road.specs.Refusals.{weather_unfit, road_refusals, load_refusals, field_refusals, FieldsFit}
use Rattle.method.specs.Refusals.{speed_refusals, refusals, refusal, Accepted}
use Rattle.method.specs.Checked.{curve_of}
use Rattle.method.specs.Flow.{heavy_factor_of, flow_rate_of}
use Rattle.method.specs.Assess.{measures}
use Rattle.method.specs.Boundary.{example}
use Rattle.method.proofs.RefusalLaws.{accepted-with_demand}
use Rattle.method.proofs.Boundary.{power-500}
use Rattle.answer.specs.Volumes.{meets, service_volume}
use Rattle.answer.specs.Answers.{graded, answer_to}
use Rattle.answer.specs.Lanes.{lanes_answer, lanes_figures}
use Rattle.answer.specs.Promises.{letter_in, Meets, AcceptedCount, volume_in}
use Rattle.answer.specs.Boundary.{example_with, example_in_snow, estimated, given_in_snow}
use Rattle.answer.specs.Instances.{lighter, multilane_with, NoBetterLetterUnderMoreLoad, NoBetterLetterUnderMoreDemand}
use Rattle.answer.specs.Instances.{NoBetterLetterOnAMultilane, NoBetterLetterInSnowWithFewerLanes, NoBetterLetterInSnowOnAnEstimate}
use Rattle.answer.specs.Instances.{ServiceVolumeOfTheExample, ServiceVolumeInSnow, FirstAndLastServiceVolume}
use Rattle.answer.specs.Instances.{FourLanesForEveryLetter, NoLanesForTheGreatestDemand, ThreeLanesOnAMultilane}
use Rattle.answer.specs.Instances.{lighter_in_snow, narrow_in_snow, ThreeLanesInSnow}
use Rattle.answer.proofs.VolumeLaws.{meets-only-accepted}
use Rattle.answer.proofs.AnswerLaws.{answer_to-number, Meets-iff}
use Rattle.answer.proofs.PromiseLaws.{volume_in-accepted, no-better-under-more-load, meets-up-to-the-service-volume}
use Rattle.answer.proofs.PromiseLaws.{least-accepted-count}
use Rattle.answer.proofs.Boundary.{example-speeds, estimated-speeds, example-accepted, snow-accepted, volumes, snow-volumes}
use Rattle.answer.proofs.Boundary.{example-figures, none-at-999999}

lighter-accepted : Accepted lighter
unfolding weather_unfit road_refusals load_refusals field_refusals adjusted_speed speed_refusals refusals
lighter-accepted = simp example-speeds.1

letters : (letter_in (answer_to lighter) ≡ 1) × (letter_in (answer_to (example_with 2643)) ≡ 4)
unfolding div_up weather_unfit road_refusals load_refusals field_refusals adjusted_speed speed_refusals refusals capacity breakpoint
    adjusted_capacity adjusted_breakpoint curve_under curve_of heavy_factor_of flow_rate_of fall_share_by speed shown_speed density shown_density
    density_limit density_letter letter_at performance measures graded
letters = (simp example-speeds.1, simp example-speeds.0)

pub heavier-accepted : Accepted (example_with 2643)
heavier-accepted = accepted-with_demand example 2643 example-accepted (omega arith)

pub no-better-letter-under-more-load : NoBetterLetterUnderMoreLoad
no-better-letter-under-more-load = (
  letters.0,
  letters.1,
  no-better-under-more-load lighter (example_with 2643) lighter-accepted heavier-accepted refl refl (inl refl)
      (omega arith) (omega arith) (omega arith) (omega arith) (omega arith),
)

pub no-better-letter-under-more-demand : NoBetterLetterUnderMoreDemand
no-better-letter-under-more-demand = (
  ap (λ ns. get_or ns 0 0) example-figures,
  letters.1,
  no-better-under-more-load example (example_with 2643) example-accepted heavier-accepted refl refl (inl refl)
      (omega arith) (omega arith) (omega arith) (omega arith) (omega arith),
)

multilane-letters : (letter_in (answer_to (multilane_with 2800)) ≡ 3) × (letter_in (answer_to (multilane_with 3600)) ≡ 4)
unfolding div_up uncapped_by free_flow_speed_of weather_unfit road_refusals load_refusals field_refusals adjusted_speed speed_refusals refusals capacity
    breakpoint adjusted_capacity adjusted_breakpoint curve_under curve_of heavy_factor_of flow_rate_of fall_share_by speed shown_speed density
    shown_density density_limit density_letter letter_at performance measures graded
multilane-letters = (refl, simp power-500)

multilane-accepted : Accepted (multilane_with 2800) × Accepted (multilane_with 3600)
unfolding uncapped_by free_flow_speed_of weather_unfit road_refusals load_refusals field_refusals adjusted_speed speed_refusals refusals
multilane-accepted = (refl, refl)

pub no-better-letter-on-a-multilane : NoBetterLetterOnAMultilane
no-better-letter-on-a-multilane = (
  multilane-letters.0,
  multilane-letters.1,
  no-better-under-more-load (multilane_with 2800) (multilane_with 3600) multilane-accepted.0 multilane-accepted.1 refl refl (inl refl)
      (omega arith) (omega arith) (omega arith) (omega arith) (omega arith),
)

-- in snow
snow-letters : (letter_in (answer_to (given_in_snow 3 3000)) ≡ 2) × (letter_in (answer_to (given_in_snow 2 3000)) ≡ 3)
    × (letter_in (answer_to lighter_in_snow) ≡ 3) × (letter_in (answer_to (example_in_snow 2222)) ≡ 4)
unfolding div_up uncapped_by free_flow_speed_of weather_unfit road_refusals load_refusals field_refusals adjusted_speed speed_refusals refusals capacity
    breakpoint adjusted_capacity adjusted_breakpoint curve_under curve_of heavy_factor_of flow_rate_of fall_share_by speed shown_speed density shown_density
    density_limit density_letter letter_at performance measures graded
snow-letters = (refl, refl, simp example-speeds.0, simp example-speeds.0)

three-lanes-accepted : Accepted (given_in_snow 3 3000)
unfolding uncapped_by free_flow_speed_of weather_unfit road_refusals load_refusals field_refusals adjusted_speed speed_refusals refusals
three-lanes-accepted = refl

pub no-better-letter-in-snow-with-fewer-lanes : NoBetterLetterInSnowWithFewerLanes
no-better-letter-in-snow-with-fewer-lanes = (
  snow-letters.0,
  snow-letters.1,
  no-better-under-more-load (given_in_snow 3 3000) (given_in_snow 2 3000) three-lanes-accepted snow-accepted.0 refl refl (inr (inl refl))
      (omega arith) (omega arith) (omega arith) (omega arith) (omega arith),
)

lighter-in-snow-accepted : Accepted lighter_in_snow
unfolding weather_unfit road_refusals load_refusals field_refusals adjusted_speed speed_refusals refusals
lighter-in-snow-accepted = simp example-speeds.0

pub no-better-letter-in-snow-on-an-estimate : NoBetterLetterInSnowOnAnEstimate
no-better-letter-in-snow-on-an-estimate = (
  snow-letters.2,
  snow-letters.3,
  no-better-under-more-load lighter_in_snow (example_in_snow 2222) lighter-in-snow-accepted
      (accepted-with_demand (example_in_snow 2000) 2222 snow-accepted.1 (omega arith)) refl refl (inr (inr refl))
      (omega arith) (omega arith) (omega arith) (omega arith) (omega arith),
)

-- what SHAPE-2 says of an accepted case, by the service volume s of letter number n
by-volume : (case : Case) → Accepted case → (n s : ℕ) → 1 ≤ n → n ≤ 5 → s < 999999 → service_volume case n ≡ s
    → ((demand : ℕ) → demand ≤ s → Meets (with_demand case demand) n) × (Meets (with_demand case (suc s)) n → ⊥)
by-volume case ok n s h k l e =
    let volume : volume_in (answer_to case) n ≡ s = volume_in-accepted case n ok h k ∙ e in (
      λ demand d. (meets-up-to-the-service-volume case ok n h k demand (omega arith)).1 (omega arith),
      λ m. omega (arith, (meets-up-to-the-service-volume case ok n h k (suc s) (omega arith)).0 m),
    )

pub service-volume-of-the-example : ServiceVolumeOfTheExample
service-volume-of-the-example =
    let c = by-volume example example-accepted 3 2642 (omega arith) (omega arith) (omega arith) volumes.2 in
    (c.0 2642 (omega arith), c.1)

pub service-volume-in-snow : ServiceVolumeInSnow
service-volume-in-snow =
    let c = by-volume (example_in_snow 2000) snow-accepted.1 3 2221 (omega arith) (omega arith) (omega arith) snow-volumes.2 in
    (c.0 2221 (omega arith), c.1)

pub first-and-last-service-volume : FirstAndLastServiceVolume
first-and-last-service-volume =
    let a = by-volume example example-accepted 1 1117 (omega arith) (omega arith) (omega arith) volumes.0 in
    let e = by-volume example example-accepted 5 3858 (omega arith) (omega arith) (omega arith) volumes.4 in (
      (a.0 0 (omega arith), a.0 1117 (omega arith), a.1),
      (e.0 0 (omega arith), e.0 3858 (omega arith), e.1),
    )

fields-fit : FieldsFit estimated
unfolding weather_unfit road_refusals load_refusals field_refusals
fields-fit = refl

-- 10 refuses 2 lanes and 3, and nothing refuses 4
counts : (refusal (with_lanes estimated 2) ≡ 10) × (refusal (with_lanes estimated 3) ≡ 10) × (refusal (with_lanes estimated 4) ≡ 0)
unfolding weather_unfit road_refusals load_refusals field_refusals adjusted_speed speed_refusals refusals
counts = (simp estimated-speeds.0, simp estimated-speeds.1, simp estimated-speeds.2)

-- with 4 lanes the letter is A
four-meet : (n : ℕ) → meets (with_lanes estimated 4) n ≡ leb 1 n
unfolding div_up weather_unfit road_refusals load_refusals field_refusals adjusted_speed speed_refusals refusals capacity breakpoint
    adjusted_capacity adjusted_breakpoint curve_under curve_of heavy_factor_of flow_rate_of fall_share_by speed shown_speed density shown_density
    density_limit density_letter letter_at performance measures meets
four-meet n = simp estimated-speeds.2

fewer-refused : (n fewer : ℕ) → AcceptedCount estimated fewer → fewer < 4 → Meets (with_lanes estimated fewer) n → ⊥
fewer-refused n zero a f m = omega (arith, a.0)
fewer-refused n (suc zero) a f m = omega (arith, a.0)
fewer-refused n (suc (suc zero)) a f m = omega (arith, a.2, counts.0)
fewer-refused n (suc (suc (suc zero))) a f m = omega (arith, a.2, counts.1)
fewer-refused n (suc (suc (suc (suc fewer)))) a f m = omega arith

pub four-lanes-for-every-letter : FourLanesForEveryLetter
four-lanes-for-every-letter = (refused, needed)
  where
    refused : refusal_number (answer_to estimated) ≡ 10
    refused = answer_to-number estimated ∙ counts.0

    needed : (n : ℕ) → 1 ≤ n → n ≤ 5 → lanes_figures (lanes_answer estimated n) ≡ 4 ∷ []
    needed n h k =
        ((least-accepted-count estimated n h k fields-fit).0 4).1 (
          (omega arith, omega arith, counts.2),
          (Meets-iff (with_lanes estimated 4) n).1 (rw (four-meet n) (le→leb 1 n h)),
          fewer-refused n,
        )

example-fits : FieldsFit (example_with 999999)
unfolding weather_unfit road_refusals load_refusals field_refusals
example-fits = refl

pub no-lanes-for-the-greatest-demand : NoLanesForTheGreatestDemand
no-lanes-for-the-greatest-demand =
    (least-accepted-count (example_with 999999) 3 (omega arith) (omega arith) example-fits).1.0 none-at-999999

-- with 3 lanes the letter is C
three-meet : T (meets (with_lanes (multilane_with 3600) 3) 3)
unfolding div_up uncapped_by free_flow_speed_of weather_unfit road_refusals load_refusals field_refusals adjusted_speed speed_refusals refusals capacity
    breakpoint adjusted_capacity adjusted_breakpoint curve_under curve_of heavy_factor_of flow_rate_of fall_share_by speed shown_speed density
    shown_density density_limit density_letter letter_at performance measures meets
three-meet = tt

multilane-fits : FieldsFit (multilane_with 3600)
unfolding weather_unfit road_refusals load_refusals field_refusals
multilane-fits = refl

-- where 2 lanes do not serve, no fewer than 3 do
below-three : (case : Case) (n : ℕ) → (AcceptedCount case 2 → Meets (with_lanes case 2) n → ⊥)
    → (fewer : ℕ) → AcceptedCount case fewer → fewer < 3 → Meets (with_lanes case fewer) n → ⊥
below-three case n two zero a f m = omega (arith, a.0, (kind-ends case.road.kind).lanes-ge)
below-three case n two (suc zero) a f m = omega (arith, a.0, (kind-ends case.road.kind).lanes-ge)
below-three case n two (suc (suc zero)) a f m = two a m
below-three case n two (suc (suc (suc fewer))) a f m = omega arith

pub three-lanes-on-a-multilane : ThreeLanesOnAMultilane
three-lanes-on-a-multilane =
    ((least-accepted-count (multilane_with 3600) 3 (omega arith) (omega arith) multilane-fits).0 3).1 (
      (omega arith, omega arith, meets-only-accepted (with_lanes (multilane_with 3600) 3) 3 three-meet),
      (Meets-iff (with_lanes (multilane_with 3600) 3) 3).1 three-meet,
      below-three (multilane_with 3600) 3 (λ a m. omega (arith, m.1, multilane-letters.1)),
    )

-- in snow 10 refuses 2 lanes, after the factor, and nothing refuses 3
narrow-counts : (refusal (with_lanes narrow_in_snow 2) ≡ 10) × (refusal (with_lanes narrow_in_snow 3) ≡ 0)
unfolding weather_unfit road_refusals load_refusals field_refusals adjusted_speed speed_refusals refusals
narrow-counts = (simp example-speeds.0, simp example-speeds.1)

narrow-fits : FieldsFit narrow_in_snow
unfolding weather_unfit road_refusals load_refusals field_refusals
narrow-fits = refl

narrow-meet : T (meets (with_lanes narrow_in_snow 3) 3)
unfolding div_up weather_unfit road_refusals load_refusals field_refusals adjusted_speed speed_refusals refusals capacity breakpoint
    adjusted_capacity adjusted_breakpoint curve_under curve_of heavy_factor_of flow_rate_of fall_share_by speed shown_speed density shown_density
    density_limit density_letter letter_at performance measures meets
narrow-meet = rw example-speeds.1 tt

pub three-lanes-in-snow : ThreeLanesInSnow
three-lanes-in-snow = (
  answer_to-number narrow_in_snow ∙ narrow-counts.0,
  ((least-accepted-count narrow_in_snow 3 (omega arith) (omega arith) narrow-fits).0 3).1 (
    (omega arith, omega arith, narrow-counts.1),
    (Meets-iff (with_lanes narrow_in_snow 3) 3).1 narrow-meet,
    below-three narrow_in_snow 3 (λ a m. omega (arith, a.2, narrow-counts.0)),
  ),
)
