-- What a reader of an answer is promised, over the definitions that the contract of `evaluate_daily` cites;
-- the functions of src/promises.rt ensure each.
use Rattle.std.specs.Prelude.{◌≡◌, ◌↔◌, ◌++◌, map, ℕ, ◌+◌, ◌*◌, ◌/◌, ◌≤◌, ◌<◌, min, length, drop, get_or, Result}
use Rattle.refusals.specs.declared.Refusal.{Refusal}
use Rattle.refusals.specs.Refusals.{first_refusal}
use Rattle.refusals.specs.Numbers.{refusal_number}
use Rattle.road.specs.declared.Case.{Case}
use Rattle.road.specs.Cases.{with_demand}
use Rattle.method.specs.Refusals.{refusals}
use Rattle.answer.specs.Answers as answers
use Rattle.answer.specs.Answers.{answer_to}
use Rattle.daily.specs.declared.Shares.{Shares}
use Rattle.daily.specs.declared.DailyGrade.{DailyGrade}
use Rattle.daily.specs.Daily.{greatest_daily_traffic, SharesInRange, traffic_refusals, hourly_demand, daily_answer}
use Rattle.daily.specs.Daily.{figure_count, daily_figures}

-- DAILY-6: nothing refuses the case with the daily traffic
abbrev pub AcceptedTraffic : Case → Shares → ℕ → Type 0
AcceptedTraffic case shares daily = refusal_number (daily_answer case shares daily) ≡ 0

-- DAILY-3, FORM-10: the letter's number in an answer, the first of its sixteen figures
abbrev pub letter_in : Result DailyGrade Refusal → ℕ
letter_in answer = get_or (daily_figures answer) 0 0

-- DAILY-3, FORM-10: the daily service volume of letter number n, from 1 to 5, in an answer: they are the last
-- five of its figures
abbrev pub daily_volume_in : Result DailyGrade Refusal → ℕ → ℕ
daily_volume_in answer n = get_or (daily_figures answer) (10 + n) 0

-- DAILY-4: the answer has letter number n or a better one; what is refused meets nothing
abbrev pub MeetsByDay : Case → Shares → ℕ → ℕ → Type 0
MeetsByDay case shares daily n =
    AcceptedTraffic case shares daily × (letter_in (daily_answer case shares daily) ≤ n)

-- DAILY-4, SHAPE-2: a daily traffic meets a letter exactly when it is at most the daily service volume in the
-- answer
-- One answer on a road tells this of every daily traffic and every letter, A to E. Above 4,000,000,000 none
-- is met, and no daily service volume is greater.
abbrev pub MeetsUpToTheDailyVolume : Type 0
MeetsUpToTheDailyVolume =
    (case : Case) (shares : Shares) (asked : ℕ) → AcceptedTraffic case shares asked
    → (n : ℕ) → 1 ≤ n → n ≤ 5
    → (daily : ℕ)
    → MeetsByDay case shares daily n ↔ (daily ≤ daily_volume_in (daily_answer case shares asked) n)

-- DAILY-5, SHAPE-1: more daily traffic, or a larger share, never gets a better letter
abbrev pub NoBetterWithMoreTraffic : Type 0
NoBetterWithMoreTraffic =
    (case : Case) (less more : Shares) (daily greater : ℕ)
    → AcceptedTraffic case less daily
    → AcceptedTraffic case more greater
    → daily ≤ greater → less.peak ≤ more.peak → less.direction ≤ more.direction
    → letter_in (daily_answer case less daily) ≤ letter_in (daily_answer case more greater)

-- DAILY-3: a service volume × 1,000,000 / (K × D), rounded down, and at most 4,000,000,000
abbrev pub by_the_day : Shares → ℕ → ℕ
by_the_day shares volume =
    min (volume * 1000000 / (shares.peak * shares.direction)) greatest_daily_traffic

-- DAILY-3, DAILY-2: the sixteen figures are the eleven of the answer with the hourly demand, and the last
-- five of them once more, by the day
abbrev pub FiguresOfTheHour : Type 0
FiguresOfTheHour =
    (case : Case) (shares : Shares) (daily : ℕ) → AcceptedTraffic case shares daily
    → let figures = answers.grade_figures (answer_to (with_demand case (hourly_demand shares daily))) in
    (daily_figures (daily_answer case shares daily) ≡ figures ++ map (by_the_day shares) (drop 6 figures))
    × (length (daily_figures (daily_answer case shares daily)) ≡ figure_count)

-- DAILY-1: the hourly demand is at most a number exactly when daily traffic × K × D is at most as many
-- millions
abbrev pub RoundedUpOnce : Type 0
RoundedUpOnce =
    (shares : Shares) (daily hourly : ℕ)
    → (hourly_demand shares daily ≤ hourly) ↔ (daily * shares.peak * shares.direction ≤ hourly * 1000000)

-- DAILY-1: whatever demand the case carries, the answer is the same
abbrev pub OwnDemandIsNotRead : Type 0
OwnDemandIsNotRead =
    (case : Case) (demand : ℕ) (shares : Shares) (daily : ℕ)
    → daily_answer (with_demand case demand) shares daily ≡ daily_answer case shares daily

-- DAILY-6, ORDER-1: the refusals as one list: 20, 21, and those of the case with the hourly demand
abbrev pub RefusedInOrder : Type 0
RefusedInOrder =
    (case : Case) (shares : Shares) (daily : ℕ)
    → refusal_number (daily_answer case shares daily)
    ≡ first_refusal
    (traffic_refusals shares daily ++ refusals (with_demand case (hourly_demand shares daily)))

-- DAILY-6, REFUSAL-20, REFUSAL-21: 20 exactly by a share out of range, 21 exactly by the traffic, else as the
-- case with the hourly demand is refused
abbrev pub RefusedExactly : Type 0
RefusedExactly =
    (case : Case) (shares : Shares) (daily : ℕ)
    → let number = refusal_number (daily_answer case shares daily) in
    ((number ≡ 20) ↔ (SharesInRange shares → ⊥))
    × ((number ≡ 21) ↔ (SharesInRange shares × (greatest_daily_traffic < daily)))
    × (SharesInRange shares → daily ≤ greatest_daily_traffic
    → number ≡ refusal_number (answer_to (with_demand case (hourly_demand shares daily))))
