-- Instances of the promises, with every hypothesis met; the functions of src/promises.rt ensure each.
use Rattle.std.specs.Prelude.{◌≡◌, List, [], ◌∷◌, map, ℕ, ◌≤◌}
use Rattle.refusals.specs.Numbers.{refusal_number}
use Rattle.refusals.specs.Facts.{Fact, fact}
use Rattle.curve.specs.declared.kind.Kind.TheVariants as Kind
use Rattle.road.specs.declared.Case.{Case}
use Rattle.road.specs.Cases.{with_lanes}
use Rattle.method.specs.Boundary.{example, given, two_lanes, refused_by_all}
use Rattle.answer.specs.Answers.{answer_to}
use Rattle.answer.specs.Promises.{letter_in, Meets}
use Rattle.answer.specs.Boundary.{example_in_snow, refused_by19}
use Rattle.answer.specs.Instances.{multilane_with}
use Rattle.forecast.specs.declared.Forecast.{Forecast}
use Rattle.forecast.specs.Forecasts.{forecast_of, best_letter, worst_letter, forecast_answer, outcome_figures}
use Rattle.forecast.specs.Promises.{best_letter_in, worst_letter_in, case_with, EveryInside}

-- FORECAST-3, FORECAST-4: the number of the answer's refusal, 0 for none, and its figures
abbrev pub forecast_answered : Case → Forecast → List ℕ
forecast_answered case forecast =
    refusal_number (forecast_answer case forecast) ∷ outcome_figures (forecast_answer case forecast)

-- FORECAST-2: the numbers of the best and the worst letter
abbrev pub letters_of : Case → Forecast → List ℕ
letters_of case forecast = best_letter case forecast ∷ worst_letter case forecast ∷ []

-- FORECAST-4: the numbers of the refusals of a case with some forecasts, 0 for none
abbrev pub numbers_of : Case → List Forecast → List ℕ
numbers_of case forecasts = map (λ forecast. refusal_number (forecast_answer case forecast)) forecasts

-- FORECAST-4: the numbers of the refusals of some cases with a forecast, 0 for none
abbrev pub numbers_with : Forecast → List Case → List ℕ
numbers_with forecast cases = map (λ case. refusal_number (forecast_answer case forecast)) cases

-- FORECAST-2, FORECAST-4: F G 75000 120 60 60 D 0 2 V H P L
abbrev pub level_freeway : Case
level_freeway = two_lanes (given Kind.Freeway 75000 120) 0

-- FORECAST-4: F G 75000 99 60 60 D 0 2 V H P L, which 2 refuses
abbrev pub narrow : Case
narrow = two_lanes (given Kind.Freeway 75000 99) 0

-- FORECAST-4: F G 75000 120 60 60 D 0 10 V H P L, which 6 refuses
abbrev pub ten_lanes : Case
ten_lanes = with_lanes level_freeway 10

-- FORECAST-4: F G 54999 120 60 60 D 0 2 V H P L, which 10 refuses
abbrev pub slow : Case
slow = two_lanes (given Kind.Freeway 54999 120) 0

-- FORECAST-4: a forecast that 22 and 7 to 9 let pass, at the ends that they leave
abbrev pub fit : Forecast
fit = forecast_of 0 999999 0 1000 250 1000

-- FORECAST-4, REFUSAL-22: a forecast that reverses all three ranges
abbrev pub reversed_thrice : Forecast
reversed_thrice = forecast_of 2 1 2 1 2 1

-- FORECAST-4, SAFE-1: a forecast with all six ends at 2^64 - 1
abbrev pub farthest : Forecast
farthest = let n : ℕ = 18446744073709551615 in forecast_of n n n n n n

-- FORECAST-2, FORECAST-5: demand 1,000 to 4,000, share 0 to 100, peak-hour factor 850 to 950
abbrev pub wide : Forecast
wide = forecast_of 1000 4000 0 100 850 950

-- FORECAST-5: the printed line's road gets A at best and F at worst with the forecast `wide`, and C, which
-- is between, with a demand of 2,000, a share of 50 and a factor of 920, which are within it
abbrev pub LetterBetween : Type 0
LetterBetween =
    let answer = forecast_answer example wide in
    let inside = letter_in (answer_to (case_with example 2000 50 920)) in
    (best_letter_in answer ≡ 1) × (inside ≡ 3) × (worst_letter_in answer ≡ 6)
    × (best_letter_in answer ≤ inside) × (inside ≤ worst_letter_in answer)

-- FORECAST-5: the printed line's own share and factor, and a demand between these ends
abbrev pub demands : (low high : ℕ) → Forecast
demands low high = forecast_of low high 50 50 920 920

-- FORECAST-5: the printed line's road meets C with every demand from 0 to 2,642
abbrev pub TargetKept : Type 0
TargetKept =
    EveryInside (demands 0 2642) (λ demand share factor. Meets (case_with example demand share factor) 3)

-- FORECAST-5: the printed line's road meets C with no demand from 2,643 to 4,000
abbrev pub TargetMissed : Type 0
TargetMissed =
    EveryInside (demands 2643 4000)
    (λ demand share factor. Meets (case_with example demand share factor) 3 → ⊥)

-- ---- what is worked out, and what is to be shown
-- FORECAST-2, FIGURE-1: the definitions themselves, with no law: a demand of 1,650 to 1,652, a share of 0 to
-- 1 and a factor of 999 to 1,000 get A at best and B at worst; 1,650 with 0 and 1,000, a flow rate of 825,
-- the last of A, gets A, and so does 825 with heavy vehicles only, as the terrain is level; 1,652 with 1 and
-- 999 gets B
unfoldable pub computed_instances : List Fact
computed_instances =
    fact (letters_of level_freeway (forecast_of 1650 1652 0 1 999 1000)) (1 ∷ 2 ∷ [])
    ∷ fact (letters_of level_freeway (forecast_of 1650 1650 0 0 1000 1000)) (1 ∷ 1 ∷ [])
    ∷ fact (letters_of level_freeway (forecast_of 825 825 1000 1000 1000 1000)) (1 ∷ 1 ∷ [])
    ∷ fact (letters_of level_freeway (forecast_of 1652 1652 1 1 999 999)) (2 ∷ 2 ∷ [])
    ∷ []

-- FORECAST-4, REFUSAL-1, REFUSAL-2, REFUSAL-6 to REFUSAL-10, REFUSAL-19, REFUSAL-22, SAFE-1, FIGURE-1: the
-- refusals in their order
-- 1 to 6 before 22: a case that breaks all, one of width 99 and one of ten lanes, with every range reversed.
-- 22 before 7 to 9, by each range alone, with ends that these refuse. 7 before 8 and 9: demand to 1,000,000
-- with factor to 1,001, and more. 8 before 9: share to 1,001 with factor to 1,001, and from 249. Each end
-- alone, one past its limit. The limits themselves; 19 and 10, behind 7 to 9. All six numbers at 2^64 - 1,
-- which 7 refuses.
unfoldable pub refusal_instances : List Fact
refusal_instances =
    fact (numbers_with reversed_thrice (refused_by_all ∷ narrow ∷ ten_lanes ∷ [])) (1 ∷ 2 ∷ 6 ∷ [])
    ∷ fact
    (numbers_of level_freeway
    (forecast_of 2000001 2000000 0 0 1001 1001
    ∷ forecast_of 0 1000000 1002 1001 249 249
    ∷ forecast_of 0 0 0 1001 1002 1001 ∷ []))
    (22 ∷ 22 ∷ 22 ∷ [])
    ∷ fact
    (numbers_of level_freeway
    (forecast_of 0 1000000 0 0 900 1001 ∷ forecast_of 1000000 1000000 1001 1001 249 249 ∷ []))
    (7 ∷ 7 ∷ [])
    ∷ fact
    (numbers_of level_freeway (forecast_of 0 0 0 1001 900 1001 ∷ forecast_of 0 0 0 1001 249 1000 ∷ []))
    (8 ∷ 8 ∷ [])
    ∷ fact
    (numbers_of level_freeway
    (forecast_of 0 1000000 0 0 900 900 ∷ forecast_of 0 0 0 0 249 1000
    ∷ forecast_of 0 0 0 0 250 1001 ∷ forecast_of 0 0 0 1001 900 900 ∷ []))
    (7 ∷ 8 ∷ 8 ∷ 9 ∷ [])
    ∷ fact (numbers_with fit (level_freeway ∷ refused_by19 ∷ slow ∷ [])) (0 ∷ 19 ∷ 10 ∷ [])
    ∷ fact
    (numbers_of refused_by19
    (forecast_of 0 1000000 0 0 900 900 ∷ forecast_of 0 0 0 0 249 900 ∷ forecast_of 0 0 0 1001 900 900 ∷ []))
    (7 ∷ 8 ∷ 9 ∷ [])
    ∷ fact (numbers_of slow (forecast_of 0 0 0 1001 900 900 ∷ [])) (9 ∷ [])
    ∷ fact (forecast_answered level_freeway farthest) (7 ∷ [])
    ∷ []

-- FORECAST-2, FORECAST-3, FORECAST-5, FIGURE-1: the printed line's road: demand 2,642 to 2,643, share and
-- factor as they are; demand 2,642 with factor 919 to 920, and with share 50 to 51; three ranges; equal ends;
-- demand up to the service volume of C, and past it. In snow, on a multilane highway, and on level terrain
-- with heavy vehicles only, at the end of a service volume and one past it.
unfoldable pub forecast_instances : List Fact
forecast_instances =
    fact (forecast_answered example (demands 2642 2643))
    (0 ∷ 3 ∷ 2642 ∷ 50 ∷ 920 ∷ 4 ∷ 2643 ∷ 50 ∷ 920 ∷ [])
    ∷ fact (forecast_answered example (forecast_of 2642 2642 50 50 919 920))
    (0 ∷ 3 ∷ 2642 ∷ 50 ∷ 920 ∷ 4 ∷ 2642 ∷ 50 ∷ 919 ∷ [])
    ∷ fact (forecast_answered example (forecast_of 2642 2642 50 51 920 920))
    (0 ∷ 3 ∷ 2642 ∷ 50 ∷ 920 ∷ 4 ∷ 2642 ∷ 51 ∷ 920 ∷ [])
    ∷ fact (forecast_answered example wide)
    (0 ∷ 1 ∷ 1000 ∷ 0 ∷ 950 ∷ 6 ∷ 4000 ∷ 100 ∷ 850 ∷ [])
    ∷ fact (forecast_answered example (demands 2000 2000))
    (0 ∷ 3 ∷ 2000 ∷ 50 ∷ 920 ∷ 3 ∷ 2000 ∷ 50 ∷ 920 ∷ [])
    ∷ fact (forecast_answered example (demands 0 2642))
    (0 ∷ 1 ∷ 0 ∷ 50 ∷ 920 ∷ 3 ∷ 2642 ∷ 50 ∷ 920 ∷ [])
    ∷ fact (forecast_answered example (demands 2643 4000))
    (0 ∷ 4 ∷ 2643 ∷ 50 ∷ 920 ∷ 6 ∷ 4000 ∷ 50 ∷ 920 ∷ [])
    ∷ fact (forecast_answered (example_in_snow 0) (demands 2221 2222))
    (0 ∷ 3 ∷ 2221 ∷ 50 ∷ 920 ∷ 4 ∷ 2222 ∷ 50 ∷ 920 ∷ [])
    ∷ fact (forecast_answered (multilane_with 0) (forecast_of 2160 2161 0 0 1000 1000))
    (0 ∷ 2 ∷ 2160 ∷ 0 ∷ 1000 ∷ 3 ∷ 2161 ∷ 0 ∷ 1000 ∷ [])
    ∷ fact (forecast_answered level_freeway (forecast_of 825 826 1000 1000 1000 1000))
    (0 ∷ 1 ∷ 825 ∷ 1000 ∷ 1000 ∷ 2 ∷ 826 ∷ 1000 ∷ 1000 ∷ [])
    ∷ []
