-- The promises of specs/Promises, proved. MeetsUpToTheServiceVolume (SHAPE-2) and NoBetterUnderMoreLoad
-- (SHAPE-1) carry the two about letters.
use Rattle.std.proofs.Common.{◌≡◌, refl, sym, ap, ◌∙◌, ◌↔◌, inr, ◌++◌, map, ℕ, ◌+◌, ◌≤◌, arith, rules, le_refl, drop, get_or, Ok}
use Rattle.curve.proofs.ServiceLaws.{by-letter}
use Rattle.road.specs.declared.Case.{Case}
use Rattle.method.proofs.RefusalLaws.{refusal-le}
use Rattle.answer.specs.Answers as answers
use Rattle.answer.specs.Answers.{graded, answer_to}
use Rattle.answer.specs.Promises.{volume_in}
use Rattle.answer.proofs.AnswerLaws.{answer_to-accepted, answer_to-number}
use Rattle.answer.proofs.PromiseLaws.{no-better-under-more-load}
use Rattle.daily.specs.declared.Shares.{Shares}
use Rattle.daily.specs.Daily.{SharesInRange, shares_unfit, traffic_refusals, TrafficFits, hourly_demand, hourly_case}
use Rattle.daily.specs.Daily.{daily_volume, daily_answer}
use Rattle.daily.specs.Within.{traffic_within}
use Rattle.daily.specs.Promises.{AcceptedTraffic, daily_volume_in, MeetsByDay, MeetsUpToTheDailyVolume}
use Rattle.daily.specs.Promises.{NoBetterWithMoreTraffic, by_the_day, FiguresOfTheHour, RoundedUpOnce, OwnDemandIsNotRead}
use Rattle.daily.specs.Promises.{RefusedInOrder, RefusedExactly}
use Rattle.daily.proofs.WithinLaws.{fits-ends, fits-of, hourly-le-iff, hourly-mono, within-iff, traffic_within-eq, product-pos}
use Rattle.daily.proofs.DailyLaws.{in-order, accepted-parts, letter-accepted, meets-hour, meets-iff}
use Rattle.daily.proofs.DailyLaws.{answer-graded}

pub rounded-up-once : RoundedUpOnce
rounded-up-once = hourly-le-iff

pub refused-in-order : RefusedInOrder
refused-in-order = in-order

pub own-demand-is-not-read : OwnDemandIsNotRead
unfolding daily_volume
own-demand-is-not-read case demand shares daily = refl

pub figures-of-the-hour : FiguresOfTheHour
figures-of-the-hour case shares daily z =
    let (fits, a) = accepted-parts case shares daily z in
    let grade = graded (hourly_case case shares daily) in
    let engine = answer_to-accepted (hourly_case case shares daily) a in
    let day : (volume : ℕ) → traffic_within shares volume ≡ by_the_day shares volume =
    λ volume. traffic_within-eq shares volume (product-pos shares (fits-ends shares daily fits).0) in
    rw (sym (answer-graded case shares daily fits grade (sym engine)), engine) (simp day, refl)

module _ (case : Case) (shares : Shares) (asked : ℕ) (z : AcceptedTraffic case shares asked) where
  abbrev volume : ℕ → ℕ
  volume n = volume_in (answer_to (hourly_case case shares asked)) n

  fit-shares : SharesInRange shares
  fit-shares = (fits-ends shares asked (accepted-parts case shares asked z).0).0

  -- a daily service volume by the service volume in the engine's answer
  divided : (n : ℕ) → 1 ≤ n → n ≤ 5 → daily_volume_in (daily_answer case shares asked) n ≡ by_the_day shares (volume n)
  divided n h k =
      ap (λ ns. get_or ns (10 + n) 0) (figures-of-the-hour case shares asked z).0
      ∙ rw (answer_to-accepted (hourly_case case shares asked) (accepted-parts case shares asked z).1)
      (by-letter (λ i.
      let figures = answers.grade_figures (Ok (graded (hourly_case case shares asked))) in
      get_or (figures ++ map (by_the_day shares) (drop 6 figures)) (10 + i) 0 ≡ by_the_day shares (get_or figures (5 + i) 0))
      refl refl refl refl refl n h k)

  -- where 20 and 21 do not refuse: by the engine's answers
  met-iff : (n : ℕ) → 1 ≤ n → n ≤ 5 → (daily : ℕ) → TrafficFits shares daily
      → MeetsByDay case shares daily n ↔ (daily ≤ daily_volume_in (daily_answer case shares asked) n)
  met-iff n h k daily fits =
      let here = meets-iff (hourly_case case shares asked) (accepted-parts case shares asked z).1 n h k (hourly_demand shares daily) in
      let divides = within-iff shares (volume n) (product-pos shares fit-shares) daily in
      let hour = meets-hour case shares daily fits n in
      let most = (fits-ends shares daily fits).1 in (
        λ m. let l = divides.0 (here.0 (hour.0 m)) in rw (divided n h k) (omega arith),
        λ l. hour.1 (here.1 (divides.1 (omega (arith, divided n h k)))),
      )

-- above the end nothing is met
pub meets-up-to-the-daily-volume : MeetsUpToTheDailyVolume
meets-up-to-the-daily-volume case shares asked z n h k daily =
    let within = met-iff case shares asked z n h k daily in
    let end = divided case shares asked z n h k in (
      λ m. let l = (within (accepted-parts case shares daily m.0).0).0 m in omega arith,
      λ l. (within (fits-of shares daily (fit-shares case shares asked z) (omega (arith, end)))).1 (omega arith),
    )

pub no-better-with-more-traffic : NoBetterWithMoreTraffic
no-better-with-more-traffic case less more daily greater z w h k l =
    let (_, a) = accepted-parts case less daily z in
    let (_, b) = accepted-parts case more greater w in
    rw (letter-accepted case less daily z, letter-accepted case more greater w)
    (no-better-under-more-load (hourly_case case less daily) (hourly_case case more greater) a b refl refl (inr (inr refl))
    (hourly-mono less more daily greater h k l) (le_refl _) (le_refl _) (le_refl _) (le_refl _))

pub refused-exactly : RefusedExactly
unfolding shares_unfit traffic_refusals
refused-exactly case shares daily =
    let hourly = hourly_case case shares daily in
    let listed = in-order case shares daily in
    let own = answer_to-number hourly in
    let most = refusal-le hourly in
    search rules
