-- The answer to a case for a daily traffic, whose own demand is not read, and its daily service volumes. The
-- shares K and D are in thousandths. Letter numbers: A is 1.
use Rattle.std.specs.Prelude.{ℕ, ◌*◌, ◌≤◌, ◌≡◌, Bool, ◌||◌, List, [], ◌∷◌, ◌++◌, nat_lt, Result, Ok, Err}
use Rattle.numbers.specs.Division.{div_up}
use Rattle.numbers.specs.Search.{greatest}
use Rattle.refusals.specs.declared.Refusal.{Refusal}
use Rattle.refusals.specs.Refusals.{Condition, refuses, first_refusal, unless_refused, outside}
use Rattle.refusals.specs.Numbers.{refusal_of}
use Rattle.road.specs.declared.Case.{Case}
use Rattle.road.specs.Cases.{with_demand}
use Rattle.answer.specs.declared.evaluate.Volumes.{Volumes}
use Rattle.answer.specs.declared.evaluate.Grade.{Grade}
use Rattle.answer.specs.Volumes.{meets}
use Rattle.answer.specs.Answers as answers
use Rattle.answer.specs.Answers.{answer_to}
use Rattle.daily.specs.declared.Shares.{Shares}
use Rattle.daily.specs.declared.DailyGrade.{DailyGrade}

-- REFUSAL-21, DAILY-2: the greatest daily traffic that 21 lets pass, and the end of a daily service volume
abbrev pub greatest_daily_traffic : ℕ
greatest_daily_traffic = 4000000000

-- DAILY-1: the shares K and D
abbrev pub shares_of : (k d : ℕ) → Shares
shares_of k d = record { peak = k; direction = d }

-- REFUSAL-20: K and D are both from 1 to 1,000
abbrev pub SharesInRange : Shares → Type 0
SharesInRange shares =
    (1 ≤ shares.peak) × (shares.peak ≤ 1000)
    × (1 ≤ shares.direction) × (shares.direction ≤ 1000)

-- REFUSAL-20: K or D is not from 1 to 1,000
unfoldable pub shares_unfit : Shares → Bool
shares_unfit shares = outside 1 1000 shares.peak || outside 1 1000 shares.direction

-- DAILY-6, REFUSAL-20, REFUSAL-21: 20 of the shares, and then 21 of the daily traffic
unfoldable pub traffic_refusals : Shares → ℕ → List Condition
traffic_refusals shares daily =
    refuses 20 (shares_unfit shares)
    ∷ refuses 21 (nat_lt greatest_daily_traffic daily)
    ∷ []

-- DAILY-6: neither 20 nor 21 refuses the shares and the daily traffic
abbrev pub TrafficFits : Shares → ℕ → Type 0
TrafficFits shares daily = first_refusal (traffic_refusals shares daily) ≡ 0

-- DAILY-1: daily traffic × K × D / 1,000,000, rounded up once
unfoldable pub hourly_demand : Shares → ℕ → ℕ
hourly_demand shares daily = div_up (daily * shares.peak * shares.direction) 1000000

-- DAILY-1, CASE-3: the case with the hourly demand in the place of its own
abbrev pub hourly_case : Case → Shares → ℕ → Case
hourly_case case shares daily = with_demand case (hourly_demand shares daily)

-- DAILY-2: the last daily traffic up to 4,000,000,000 whose hourly demand meets letter number n; an hourly
-- demand that 7 refuses meets none
unfoldable pub daily_volume : Case → Shares → ℕ → ℕ
daily_volume case shares n =
    greatest (λ daily. meets (hourly_case case shares daily) n) greatest_daily_traffic

-- DAILY-2: volumes of A to E, by their letters' numbers
abbrev pub volumes_by : (ℕ → ℕ) → Volumes
volumes_by volume = record { a = volume 1; b = volume 2; c = volume 3; d = volume 4; e = volume 5 }

-- DAILY-2: the daily service volumes of A to E
abbrev pub daily_volumes : Case → Shares → Volumes
daily_volumes case shares = volumes_by (daily_volume case shares)

-- DAILY-3: a case's answer with daily service volumes behind it
abbrev pub with_volumes : Result Grade Refusal → Volumes → Result DailyGrade Refusal
with_volumes (Ok grade) volumes = Ok (record { grade = grade; volumes = volumes })
with_volumes (Err r) volumes = Err r

-- DAILY-3, DAILY-6: the answer to the case with the hourly demand, with the daily service volumes behind it;
-- or 20, 21 or what refuses that case
abbrev pub daily_answer : Case → Shares → ℕ → Result DailyGrade Refusal
daily_answer case shares daily =
    unless_refused (first_refusal (traffic_refusals shares daily))
    (with_volumes (answer_to (hourly_case case shares daily)) (daily_volumes case shares))
    (λ n. Err (refusal_of n))

-- DAILY-3: how many numbers an answer is: the eleven figures of a graded answer and five daily service
-- volumes
abbrev pub figure_count : ℕ
figure_count = 16

-- DAILY-3, FORM-10: the eleven figures, then the daily service volumes A to E; of a refusal no value
abbrev pub daily_figures : Result DailyGrade Refusal → List ℕ
daily_figures (Ok daily) =
    let volumes = daily.volumes in
    answers.grade_figures (Ok daily.grade)
    ++ (volumes.a ∷ volumes.b ∷ volumes.c ∷ volumes.d ∷ volumes.e ∷ [])
daily_figures (Err r) = []
