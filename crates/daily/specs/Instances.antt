-- Instances of the promises, with every hypothesis met; the functions of src/promises.rt ensure each.
use Rattle.std.specs.Prelude.{List, [], ◌∷◌, ◌++◌, map, ℕ, suc, Result}
use Rattle.refusals.specs.declared.Refusal.{Refusal}
use Rattle.refusals.specs.Numbers.{refusal_number}
use Rattle.refusals.specs.Facts.{Fact, fact}
use Rattle.curve.specs.declared.kind.Kind.TheVariants as Kind
use Rattle.curve.specs.Weather.{clear}
use Rattle.road.specs.declared.Terrain.TheVariants as Terrain
use Rattle.road.specs.declared.Case.{Case}
use Rattle.road.specs.Cases.{loaded, with_lanes}
use Rattle.road.specs.Refusals.{greatest_demand}
use Rattle.method.specs.Boundary.{example, given, two_lanes, refused_by_all}
use Rattle.answer.specs.Boundary.{example_in_snow, refused_by19}
use Rattle.answer.specs.Instances.{multilane_with}
use Rattle.daily.specs.declared.Shares.{Shares}
use Rattle.daily.specs.declared.DailyGrade.{DailyGrade}
use Rattle.daily.specs.Daily.{shares_of, hourly_demand, daily_answer, daily_figures}
use Rattle.daily.specs.Promises.{letter_in, daily_volume_in, MeetsByDay}

-- DAILY-1: K 0.09 and D 0.55, of an urban road
abbrev pub urban : Shares
urban = shares_of 90 550

-- DAILY-1: K 0.11 and D 0.55, of a rural road
abbrev pub rural : Shares
rural = shares_of 110 550

-- DAILY-2: F G 75000 120 60 60 D 0 8 V 1000 0 L
abbrev pub eight_lanes : Case
eight_lanes = with_lanes (two_lanes (given Kind.Freeway 75000 120) 0) 8

-- DAILY-6, REFUSAL-2: F G 75000 99 60 60 D 0 2 V 1000 0 L, which 2 refuses
abbrev pub narrow : Case
narrow = two_lanes (given Kind.Freeway 75000 99) 0

-- DAILY-6, REFUSAL-8: F G 75000 120 60 60 D 0 2 1000000 1 0 L, which 8 refuses; its own demand, which 7 would
-- refuse, is not read
abbrev pub peaked : Case
peaked = loaded (given Kind.Freeway 75000 120) 2 1000000 1 0 Terrain.Level clear

-- DAILY-3: the number of the answer's refusal, 0 for none, and its figures
abbrev pub daily_answered : Case → Shares → ℕ → List ℕ
daily_answered case shares daily =
    refusal_number (daily_answer case shares daily) ∷ daily_figures (daily_answer case shares daily)

-- DAILY-6: the numbers of the refusals of a case with some daily traffics, 0 for none
abbrev pub numbers_at : Case → Shares → List ℕ → List ℕ
numbers_at case shares dailies = map (λ daily. refusal_number (daily_answer case shares daily)) dailies

-- DAILY-4: the numbers of the letters of a case with some daily traffics
abbrev pub letters_at : Case → Shares → List ℕ → List ℕ
letters_at case shares dailies = map (λ daily. letter_in (daily_answer case shares daily)) dailies

-- DAILY-2: the daily service volumes A to E in an answer
abbrev pub volumes_in : Result DailyGrade Refusal → List ℕ
volumes_in a = map (daily_volume_in a) (1 ∷ 2 ∷ 3 ∷ 4 ∷ 5 ∷ [])

-- DAILY-3: the eleven figures of the printed road with an hourly demand of 2,000
abbrev pub hour_figures : List ℕ
hour_figures = 3 ∷ 60782 ∷ 230782 ∷ 1196 ∷ 60782 ∷ 197 ∷ 1117 ∷ 1829 ∷ 2642 ∷ 3360 ∷ 3858 ∷ []

-- DAILY-3: the sixteen figures of the printed road with an hourly demand of 2,000 and the shares of an urban
-- road
abbrev pub printed_figures : List ℕ
printed_figures = hour_figures ++ (22565 ∷ 36949 ∷ 53373 ∷ 67878 ∷ 77939 ∷ [])

-- DAILY-3: the sixteen figures of the printed road with an hourly demand of 2,000 and the shares of a rural
-- road
abbrev pub rural_figures : List ℕ
rural_figures = hour_figures ++ (18462 ∷ 30231 ∷ 43669 ∷ 55537 ∷ 63768 ∷ [])

-- DAILY-3: the sixteen figures of the printed road in snow with an hourly demand of 2,000 and the shares of
-- an urban road
abbrev pub snow_figures : List ℕ
snow_figures =
    3 ∷ 52272 ∷ 173372 ∷ 1196 ∷ 52222 ∷ 230 ∷ 960 ∷ 1572 ∷ 2221 ∷ 2636 ∷ 2898
    ∷ 19393 ∷ 31757 ∷ 44868 ∷ 53252 ∷ 58545 ∷ []

-- DAILY-4: the printed road meets A with no traffic
abbrev pub NoTrafficMeetsA : Type 0
NoTrafficMeetsA = MeetsByDay example urban 0 1

-- ---- what is worked out, and what is to be shown
-- DAILY-1, FIGURE-1: hourly demands, rounded up once
-- 12 × 0.0495 = 0.594, 20 × 0.0495 = 0.99, 21 × 0.0495 = 1.0395; exactly 1 at 1,000,000 with K = D = 1.
unfoldable pub hourly_instances : List Fact
hourly_instances =
    fact (map (hourly_demand urban) (0 ∷ 12 ∷ 20 ∷ 21 ∷ 40404 ∷ 53373 ∷ 53374 ∷ []))
    (0 ∷ 1 ∷ 1 ∷ 2 ∷ 2000 ∷ 2642 ∷ 2643 ∷ [])
    ∷ fact (map (hourly_demand (shares_of 1 1)) (1 ∷ 1000000 ∷ 1000001 ∷ 4000000000 ∷ []))
    (1 ∷ 1 ∷ 2 ∷ 4000 ∷ [])
    ∷ fact (map (hourly_demand (shares_of 1000 1000)) (1 ∷ 4000000000 ∷ [])) (1 ∷ 4000000000 ∷ [])
    ∷ []

-- DAILY-6, REFUSAL-20, REFUSAL-21, REFUSAL-1, REFUSAL-2, REFUSAL-7, REFUSAL-8, REFUSAL-19, FIGURE-1: the
-- order of the refusals
-- 20 before 21 before 1: a share of 0 and one of 1,001 with a daily traffic and a case that are refused too,
-- and the others by themselves; 4,000,000,001 and 2^64 - 1; then a case that breaks 1 to 10 and 19. 7 in its
-- own place: an hourly demand of 4,000,000,000 on a road that 2 refuses, and with a peak-hour factor of 1,
-- which 8 refuses where 7 does not, up to 999,999; one more than the greatest demand on an accepted road. 19.
unfoldable pub refusal_instances : List Fact
refusal_instances =
    fact (daily_answered refused_by_all (shares_of 0 550) 5000000000) (20 ∷ [])
    ∷ fact (daily_answered refused_by_all (shares_of 90 1001) 5000000000) (20 ∷ [])
    ∷ fact (daily_answered example (shares_of 1001 550) 0) (20 ∷ [])
    ∷ fact (daily_answered example (shares_of 90 0) 0) (20 ∷ [])
    ∷ fact (daily_answered refused_by_all urban 4000000001) (21 ∷ [])
    ∷ fact (daily_answered example urban 18446744073709551615) (21 ∷ [])
    ∷ fact (daily_answered refused_by_all urban 4000000000) (1 ∷ [])
    ∷ fact (daily_answered narrow (shares_of 1000 1000) 4000000000) (2 ∷ [])
    ∷ fact (daily_answered peaked (shares_of 1000 1000) 4000000000) (7 ∷ [])
    ∷ fact (numbers_at peaked (shares_of 1000 1000) (5 ∷ 100000 ∷ 999999 ∷ 1000000 ∷ []))
    (8 ∷ 8 ∷ 8 ∷ 7 ∷ [])
    ∷ fact (daily_answered example (shares_of 1000 1000) (suc greatest_demand)) (7 ∷ [])
    ∷ fact (daily_answered refused_by19 urban 0) (19 ∷ [])
    ∷ []

-- DAILY-2, DAILY-3, DAILY-4, FIGURE-1: answers, letters and daily service volumes
-- The printed road with 40,404 a day, urban, in clear weather and in snow, and with 33,057, rural; its
-- letters with 53,373 and 53,374 a day, urban, and with 53,373, rural; 8 lanes at 75,000 with hourly demands
-- at the end of E, past it, of six digits, and with the greatest; a multilane highway with 2,160 an hour,
-- which is B, and 2,161; the daily service volumes of the 8 lanes with K = D = 2, 1 and 1,000.
unfoldable pub daily_instances : List Fact
daily_instances =
    fact (daily_answered example urban 40404) (0 ∷ printed_figures)
    ∷ fact (daily_answered example rural 33057) (0 ∷ rural_figures)
    ∷ fact (daily_answered (example_in_snow 0) urban 40404) (0 ∷ snow_figures)
    ∷ fact (letters_at example urban (53373 ∷ 53374 ∷ [])) (3 ∷ 4 ∷ [])
    ∷ fact (letters_at example rural (53373 ∷ [])) (4 ∷ [])
    ∷ fact (letters_at eight_lanes (shares_of 1000 1000) (19200 ∷ 19201 ∷ 100000 ∷ greatest_demand ∷ []))
    (5 ∷ 6 ∷ 6 ∷ 6 ∷ [])
    ∷ fact (letters_at (multilane_with 0) (shares_of 90 1000) (24000 ∷ 24001 ∷ [])) (2 ∷ 3 ∷ [])
    ∷ fact (volumes_in (daily_answer eight_lanes (shares_of 2 2) 0))
    (1650000000 ∷ 2656000000 ∷ 3552000000 ∷ 4000000000 ∷ 4000000000 ∷ [])
    ∷ fact (volumes_in (daily_answer eight_lanes (shares_of 1 1) 0))
    (4000000000 ∷ 4000000000 ∷ 4000000000 ∷ 4000000000 ∷ 4000000000 ∷ [])
    ∷ fact (volumes_in (daily_answer eight_lanes (shares_of 1000 1000) 0))
    (6600 ∷ 10624 ∷ 14208 ∷ 17040 ∷ 19200 ∷ [])
    ∷ []
