-- Instances of the promises (specs/Instances), shown by the promises.
use Rattle.std.proofs.Common.{◌≡◌, refl, ap, ◌↔◌, Bool, not, ◌&&◌, List, [], ◌∷◌, ◌++◌, map, ℕ, suc, ◌≤◌, ◌<◌, zero-le, arith, rules, lt_of_not-le, T, T_not, leb, eqb, leb→le, lit≤, lit<, drop, Result}
use Rattle.numbers.specs.Division.{div_up}
use Rattle.numbers.specs.Search.{ends_at}
use Rattle.numbers.proofs.BoolLaws.{and-left, and-right}
use Rattle.refusals.specs.declared.Refusal.{Refusal}
use Rattle.refusals.specs.Numbers.{in_order, refusal_of, refusal_number}
use Rattle.refusals.specs.Facts.{Shown}
use Rattle.curve.specs.Curves.{capacity, breakpoint}
use Rattle.curve.specs.Weather.{adjusted_speed, adjusted_capacity, adjusted_breakpoint, curve_under}
use Rattle.curve.specs.Speed.{fall_share_by, speed, shown_speed}
use Rattle.curve.specs.Service.{density, shown_density, density_limit, density_letter, letter_at, performance}
use Rattle.road.specs.declared.Case.{Case}
use Rattle.road.specs.FreeFlowSpeed.{uncapped_by, free_flow_speed_of}
use Rattle.road.specs.Refusals.{greatest_demand, weather_unfit, road_refusals, load_refusals, field_refusals}
use Rattle.method.specs.Refusals.{speed_refusals, refusals}
use Rattle.method.specs.Checked.{curve_of}
use Rattle.method.specs.Flow.{heavy_factor_of, flow_rate_of}
use Rattle.method.specs.Assess.{measures}
use Rattle.method.specs.Boundary.{example}
use Rattle.answer.specs.Answers as answers
use Rattle.answer.specs.Answers.{graded, answer_to}
use Rattle.answer.specs.Boundary.{example_in_snow}
use Rattle.answer.specs.Instances.{multilane_with}
use Rattle.answer.proofs.Boundary.{example-accepted, snow-accepted, example-figures, example-in-snow}
use Rattle.daily.specs.declared.Shares.{Shares}
use Rattle.daily.specs.declared.DailyGrade.{DailyGrade}
use Rattle.daily.specs.Daily.{shares_of, shares_unfit, traffic_refusals, hourly_demand, hourly_case, daily_answer}
use Rattle.daily.specs.Daily.{daily_figures}
use Rattle.daily.specs.Promises.{AcceptedTraffic, letter_in, daily_volume_in, MeetsByDay, by_the_day}
use Rattle.daily.specs.Instances.{urban, rural, eight_lanes, daily_answered, letters_at, volumes_in, printed_figures, rural_figures, snow_figures}
use Rattle.daily.specs.Instances.{NoTrafficMeetsA, daily_instances}
use Rattle.daily.proofs.DailyLaws.{accepted-of}
use Rattle.daily.proofs.PromiseLaws.{figures-of-the-hour, meets-up-to-the-daily-volume}

-- ---- figures and letters by the promises
-- the sixteen figures of an accepted case by the eleven of its hour
answered-by : (case : Case) (shares : Shares) (daily : ℕ) (figures : List ℕ) → AcceptedTraffic case shares daily
    → answers.grade_figures (answer_to (hourly_case case shares daily)) ≡ figures
    → daily_answered case shares daily ≡ 0 ∷ (figures ++ map (by_the_day shares) (drop 6 figures))
answered-by case shares daily figures z e = rw (z, (figures-of-the-hour case shares daily z).0, e)

-- a letter by the daily service volumes: at most its own, and above that of the next better one
letter-by : (case : Case) (shares : Shares) (asked daily n : ℕ) → AcceptedTraffic case shares asked → 1 ≤ n → suc n ≤ 5
    → daily ≤ daily_volume_in (daily_answer case shares asked) (suc n) → daily_volume_in (daily_answer case shares asked) n < daily
    → letter_in (daily_answer case shares daily) ≡ suc n
letter-by case shares asked daily n z h k within above =
    let up_to = meets-up-to-the-daily-volume case shares asked z in
    let met = (up_to (suc n) (omega arith) k daily).1 within in
    let worse = lt_of_not-le {n = letter_in (daily_answer case shares daily)} {m = n}
    (λ l. omega (arith, above, (up_to n h (omega arith) daily).0 (met.0, l))) in
    omega (arith, worse, met.1)

-- ---- the printed road
accepted : AcceptedTraffic example urban 40404 × AcceptedTraffic example rural 33057 × AcceptedTraffic (example_in_snow 0) urban 40404
unfolding div_up shares_unfit traffic_refusals hourly_demand
accepted = (
  accepted-of example urban 40404 refl example-accepted,
  accepted-of example rural 33057 refl example-accepted,
  accepted-of (example_in_snow 0) urban 40404 refl snow-accepted.1,
)

-- the printed road with 40,404 a day is accepted
pub printed-accepted : AcceptedTraffic example urban 40404
printed-accepted = accepted.0

all-answered : (daily_answered example urban 40404 ≡ 0 ∷ printed_figures)
    × (daily_answered example rural 33057 ≡ 0 ∷ rural_figures) × (daily_answered (example_in_snow 0) urban 40404 ≡ 0 ∷ snow_figures)
unfolding div_up hourly_demand
all-answered = (
  answered-by example urban 40404 _ printed-accepted example-figures,
  answered-by example rural 33057 _ accepted.1 example-figures,
  answered-by (example_in_snow 0) urban 40404 _ accepted.2 (ap (drop 1) example-in-snow),
)

-- and has these figures
pub printed-figures : daily_figures (daily_answer example urban 40404) ≡ printed_figures
printed-figures = ap (drop 1) all-answered.0

rural-figures : daily_figures (daily_answer example rural 33057) ≡ rural_figures
rural-figures = ap (drop 1) all-answered.1

letters : (letters_at example urban (53373 ∷ 53374 ∷ []) ≡ 3 ∷ 4 ∷ []) × (letters_at example rural (53373 ∷ []) ≡ 4 ∷ [])
letters =
    let by = letter-by example urban 40404 in (
      rw (
        by 53373 2 printed-accepted (omega arith) (omega arith) (rw printed-figures (lit≤ tt)) (rw printed-figures (lit< tt)),
        by 53374 3 printed-accepted (omega arith) (omega arith) (rw printed-figures (lit≤ tt)) (rw printed-figures (lit< tt)),
      ),
      rw (letter-by example rural 33057 53373 3 accepted.1 (omega arith) (omega arith)
          (rw rural-figures (lit≤ tt)) (rw rural-figures (lit< tt))),
    )

-- the printed road with no traffic
pub no-traffic-meets-a : NoTrafficMeetsA
no-traffic-meets-a = (meets-up-to-the-daily-volume example urban 40404 printed-accepted 1 (omega arith) (omega arith) 0).1 zero-le

-- ---- 8 lanes at 75,000
-- whether an answer has no number, and letter number n or a better one
met : Result DailyGrade Refusal → ℕ → Bool
met a n = eqb (refusal_number a) 0 && leb (letter_in a) n

met-iff : (a : Result DailyGrade Refusal) (n : ℕ) → T (met a n) ↔ ((refusal_number a ≡ 0) × (letter_in a ≤ n))
unfolding met
met-iff a n = (λ t. search rules, λ m. search rules)

-- a daily service volume: it meets the letter, and one more does not
volume-is : (shares : Shares) (n daily : ℕ) → AcceptedTraffic eight_lanes shares 0 → T (leb 1 n) → T (leb n 5)
    → T (ends_at (λ traffic. met (daily_answer eight_lanes shares traffic) n) daily)
    → daily_volume_in (daily_answer eight_lanes shares 0) n ≡ daily
unfolding ends_at
volume-is shares n daily z h k ends =
    let up_to : (traffic : ℕ) → MeetsByDay eight_lanes shares traffic n ↔ (traffic ≤ daily_volume_in (daily_answer eight_lanes shares 0) n) =
    meets-up-to-the-daily-volume eight_lanes shares 0 z n (leb→le 1 n h) (leb→le n 5 k) in
    let here = daily_answer eight_lanes shares daily in
    let next = daily_answer eight_lanes shares (suc daily) in
    let below = lt_of_not-le
    (λ l. T_not (met next n) (and-right (met here n) (not (met next n)) ends) ((met-iff next n).1 ((up_to (suc daily)).1 l))) in
    omega (arith, below, (up_to daily).0 ((met-iff here n).0 (and-left (met here n) (not (met next n)) ends)))

module _ (shares : Shares) (z : AcceptedTraffic eight_lanes shares 0) where
  ends : ℕ → ℕ → Bool
  ends n = ends_at (λ daily. met (daily_answer eight_lanes shares daily) n)

  five : (a b c d e : ℕ) → T (ends 1 a) → T (ends 2 b) → T (ends 3 c) → T (ends 4 d) → T (ends 5 e)
      → volumes_in (daily_answer eight_lanes shares 0) ≡ a ∷ b ∷ c ∷ d ∷ e ∷ []
  unfolding ends
  five a b c d e ends-a ends-b ends-c ends-d ends-e =
      rw (
        volume-is shares 1 a z tt tt ends-a,
        volume-is shares 2 b z tt tt ends-b,
        volume-is shares 3 c z tt tt ends-c,
        volume-is shares 4 d z tt tt ends-d,
        volume-is shares 5 e z tt tt ends-e,
      )

-- letters that are worked out, and the volumes by them
worked-out : (letters_at eight_lanes (shares_of 1000 1000) (19200 ∷ 19201 ∷ 100000 ∷ greatest_demand ∷ []) ≡ 5 ∷ 6 ∷ 6 ∷ 6 ∷ [])
    × (letters_at (multilane_with 0) (shares_of 90 1000) (24000 ∷ 24001 ∷ []) ≡ 2 ∷ 3 ∷ [])
    × (volumes_in (daily_answer eight_lanes (shares_of 2 2) 0) ≡ 1650000000 ∷ 2656000000 ∷ 3552000000 ∷ 4000000000 ∷ 4000000000 ∷ [])
    × (volumes_in (daily_answer eight_lanes (shares_of 1 1) 0) ≡ 4000000000 ∷ 4000000000 ∷ 4000000000 ∷ 4000000000 ∷ 4000000000 ∷ [])
    × (volumes_in (daily_answer eight_lanes (shares_of 1000 1000) 0) ≡ 6600 ∷ 10624 ∷ 14208 ∷ 17040 ∷ 19200 ∷ [])
unfolding div_up uncapped_by free_flow_speed_of weather_unfit road_refusals load_refusals field_refusals adjusted_speed speed_refusals refusals capacity
    breakpoint adjusted_capacity adjusted_breakpoint curve_under curve_of heavy_factor_of flow_rate_of fall_share_by speed shown_speed density
    shown_density density_limit density_letter letter_at performance measures graded shares_unfit traffic_refusals hourly_demand ends_at met ends
    in_order refusal_of
worked-out = (
  refl,
  refl,
  five (shares_of 2 2) refl 1650000000 2656000000 3552000000 4000000000 4000000000 tt tt tt tt tt,
  five (shares_of 1 1) refl 4000000000 4000000000 4000000000 4000000000 4000000000 tt tt tt tt tt,
  five (shares_of 1000 1000) refl 6600 10624 14208 17040 19200 tt tt tt tt tt,
)

-- each is what is to be shown
pub instances-shown : Shown daily_instances
unfolding daily_instances
instances-shown =
    let t = all-answered in
    let l = letters in
    let w = worked-out in
    (t.0, (t.1, (t.2, (l.0, (l.1, (w.0, (w.1, (w.2, (w.3, (w.4, tt))))))))))
