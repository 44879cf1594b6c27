-- Instances of a day, with every hypothesis of its promises met; the functions of src/promises.rt ensure
-- each.
use Rattle.std.specs.Prelude.{◌≡◌, List, [], ◌∷◌, ◌++◌, ℕ, ◌≤◌, length, drop, replicate}
use Rattle.refusals.specs.Facts.{Fact, fact}
use Rattle.refusals.specs.Numbers.{refusal_number}
use Rattle.curve.specs.declared.kind.Kind.TheVariants as Kind
use Rattle.curve.specs.Weather.{clear}
use Rattle.road.specs.declared.Terrain.TheVariants as Terrain
use Rattle.road.specs.declared.Case.{Case}
use Rattle.road.specs.Cases.{loaded, with_lanes}
use Rattle.method.specs.Boundary.{example, given, two_lanes}
use Rattle.answer.specs.Boundary.{given_in_snow, refused_by19}
use Rattle.day.specs.Days.{day_answer, day_content, count_figures}
use Rattle.day.specs.Promises.{number_at, letter_number_at}

-- DAY-2: the numbers of the printed road with demand 2,000
abbrev pub at2000 : List ℕ
at2000 =
    0 ∷ 3 ∷ 60782 ∷ 230782 ∷ 1196 ∷ 60782 ∷ 197
    ∷ 1117 ∷ 1829 ∷ 2642 ∷ 3360 ∷ 3858 ∷ []

-- DAY-2: the numbers of the printed road with demand 2,643
abbrev pub at2643 : List ℕ
at2643 =
    0 ∷ 4 ∷ 60782 ∷ 230782 ∷ 1581 ∷ 60779 ∷ 261
    ∷ 1117 ∷ 1829 ∷ 2642 ∷ 3360 ∷ 3858 ∷ []

-- DAY-2, DAY-3: the numbers of a position that n refuses
abbrev pub refused_with : ℕ → List ℕ
refused_with n = n ∷ 0 ∷ 0 ∷ 0 ∷ 0 ∷ 0 ∷ 0 ∷ 0 ∷ 0 ∷ 0 ∷ 0 ∷ 0 ∷ []

-- DAY-1: 2,000 and 2,643, and between them a demand that 7 refuses
abbrev pub example_demands : List ℕ
example_demands = 2000 ∷ 1000000 ∷ 2643 ∷ []

-- DAY-1, CALL-5: what 38 nines are after the day of the printed road with example_demands: three positions,
-- and two numbers kept
abbrev pub example_day : List ℕ
example_day = at2000 ++ (refused_with 7 ++ (at2643 ++ (9 ∷ 9 ∷ [])))

-- DAY-3: a demand that 7 refuses, and one that it lets pass
abbrev pub over_and_within : List ℕ
over_and_within = 1000000 ∷ 5 ∷ []

-- DAY-3, REFUSAL-8: F G 75000 120 60 60 D 0 2 V 249 0 L
abbrev pub refused_by8 : Case
refused_by8 = loaded (given Kind.Freeway 75000 120) 2 0 249 0 Terrain.Level clear

-- DAY-3, REFUSAL-10: F G 54999 120 60 60 D 0 2 V 1000 0 L
abbrev pub refused_by10 : Case
refused_by10 = two_lanes (given Kind.Freeway 54999 120) 0

-- DAY-3, REFUSAL-6: F G 75000 120 60 60 D 0 1 V 1000 0 L
abbrev pub refused_by6 : Case
refused_by6 = with_lanes (two_lanes (given Kind.Freeway 75000 120) 0) 1

-- DAY-1: demands on F G 75000 120 60 60 D 0 2 V 1000 0 L 950 900
abbrev pub snow_demands : List ℕ
snow_demands = 3000 ∷ 1000000 ∷ []

-- DAY-1: the day of F G 75000 120 60 60 D 0 2 V 1000 0 L 950 900 with snow_demands
abbrev pub snow_day : List ℕ
snow_day =
    (0 ∷ 3 ∷ 71250 ∷ 216000 ∷ 1500 ∷ 66271 ∷ 227 ∷ 1566 ∷ 2506 ∷ 3294 ∷ 3884 ∷ 4320 ∷ []) ++ refused_with 7

-- CALL-5: what so many nines are after the day of a case with these demands
abbrev pub nines_after : Case → List ℕ → ℕ → List ℕ
nines_after case demands room = day_content case demands (replicate room 9)

-- CALL-7: the number of the call's refusal, 0 for none, and the count of answers, of so many demands and so
-- many lent numbers
abbrev called : ℕ → ℕ → List ℕ
called n room = refusal_number (day_answer n room) ∷ count_figures (day_answer n room)

-- ---- what is worked out, and what is to be shown
-- DAY-3, REFUSAL-6 to REFUSAL-8, REFUSAL-10, REFUSAL-18, REFUSAL-19, CALL-7, FIGURE-1: where a position or
-- the call is refused
-- A road that 8 refuses, one that 10 does, one that 6 does and one that 19 does, each with demands that 7
-- refuses and one that it lets pass, and the first with 100,000 too; no demand, 1, 24 and 25 with room for
-- all, 3 with room for two and eleven numbers more, and for three.
unfoldable pub refused_instances : List Fact
refused_instances =
    fact (nines_after refused_by8 over_and_within 24) (refused_with 7 ++ refused_with 8)
    ∷ fact (nines_after refused_by8 (100000 ∷ 5 ∷ []) 24) (refused_with 8 ++ refused_with 8)
    ∷ fact (nines_after refused_by10 (1000000 ∷ 5 ∷ 1000000 ∷ []) 36)
    (refused_with 7 ++ (refused_with 10 ++ refused_with 7))
    ∷ fact (nines_after refused_by6 over_and_within 24) (refused_with 6 ++ refused_with 6)
    ∷ fact (nines_after refused_by19 over_and_within 24) (refused_with 7 ++ refused_with 19)
    ∷ fact (called 0 300) (18 ∷ [])
    ∷ fact (called 1 300) (0 ∷ 1 ∷ [])
    ∷ fact (called 24 300) (0 ∷ 24 ∷ [])
    ∷ fact (called 25 300) (18 ∷ [])
    ∷ fact (called 3 35) (18 ∷ [])
    ∷ fact (called 3 36) (0 ∷ 3 ∷ [])
    ∷ []

-- DAY-1, DAY-2, DAY-3, CALL-5, REFUSAL-18, FIGURE-1: days of accepted roads
-- Three demands on the printed road, of which 7 refuses the second; a day in snow; the first with one number
-- too few.
unfoldable pub day_instances : List Fact
day_instances =
    fact (nines_after example example_demands 38) example_day
    ∷ fact (nines_after (given_in_snow 2 0) snow_demands 24) snow_day
    ∷ fact (nines_after example example_demands 35) (replicate 35 9)
    ∷ []

-- DAY-3: on the printed road a position has 0 or, with a demand that 7 refuses, 7; on one that 8 refuses 8 or
-- 7; on one that 6 refuses 6, whatever the demand
abbrev pub NumbersOfPositions : Type 0
NumbersOfPositions =
    (number_at 0 (nines_after example example_demands 38) ≡ 0)
    × (number_at 1 (nines_after example example_demands 38) ≡ 7)
    × (number_at 0 (nines_after refused_by8 over_and_within 24) ≡ 7)
    × (number_at 1 (nines_after refused_by8 over_and_within 24) ≡ 8)
    × (number_at 0 (nines_after refused_by6 over_and_within 24) ≡ 6)
    × (number_at 1 (nines_after refused_by6 over_and_within 24) ≡ 6)

-- DAY-4: on the printed road C with demand 2,000, and D with 2,643
abbrev pub NoBetterWith2643 : Type 0
NoBetterWith2643 =
    let day = nines_after example example_demands 38 in
    (letter_number_at 0 day ≡ 3) × (letter_number_at 2 day ≡ 4)
    × (letter_number_at 0 day ≤ letter_number_at 2 day)

-- CALL-5: of 38 nines two are left behind three positions
abbrev pub TwoNinesKept : Type 0
TwoNinesKept =
    let day = nines_after example example_demands 38 in
    (drop 36 day ≡ 9 ∷ 9 ∷ []) × (length day ≡ 38)
