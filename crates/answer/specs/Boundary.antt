-- The boundary sections that this layer adds to those of method/specs/Boundary. The printed line is
--     F E 75400 110 20 0 D 24 2 2000 920 50 R
use Rattle.std.specs.Prelude.{List, [], ◌∷◌, ◌++◌, ℕ}
use Rattle.curve.specs.declared.kind.Kind.TheVariants as Kind
use Rattle.curve.specs.Weather.{factors, clear}
use Rattle.road.specs.declared.Way.TheVariants as Way
use Rattle.road.specs.declared.Median.TheVariants as Median
use Rattle.road.specs.declared.Terrain.TheVariants as Terrain
use Rattle.road.specs.declared.Case.{Case}
use Rattle.method.specs.Boundary as method
use Rattle.refusals.specs.Facts.{Fact, fact}
use Rattle.refusals.specs.Numbers.{refusal_number}
use Rattle.method.specs.Boundary.{example, given, two_lanes_under, refused_by_all}
use Rattle.road.specs.Cases.{road, loaded, with_demand, with_lanes, with_weather}
use Rattle.answer.specs.Answers as answers
use Rattle.answer.specs.Answers.{answer_to}
use Rattle.answer.specs.Lanes as lanes
use Rattle.answer.specs.Lanes.{lanes_answer}

-- CASE-3: the printed line's case with another demand
abbrev pub example_with : ℕ → Case
example_with demand = with_demand example demand

-- LANES-2, REFUSAL-10: F E 60000 120 0 0 D 6 2 2000 1000 0 L: refused with 10, and 4 lanes are the least for
-- every letter
abbrev pub estimated : Case
estimated =
    loaded (road Kind.Freeway Way.Estimated 60000 120 0 0 Median.Divided 6) 2 2000 1000 0 Terrain.Level clear

-- WEATHER-2, WEATHER-3: the printed line's case with another demand, speed factor 860, capacity factor 780
abbrev pub example_in_snow : ℕ → Case
example_in_snow demand = with_weather (example_with demand) (factors 860 780)

-- WEATHER-2, WEATHER-3: F G 75000 120 60 60 D 0 N V 1000 0 L 950 900
abbrev pub given_in_snow : ℕ → ℕ → Case
given_in_snow n demand =
    with_lanes (two_lanes_under (factors 950 900) (given Kind.Freeway 75000 120) demand) n

-- REFUSAL-19: F G 75000 120 60 60 D 0 2 0 1000 0 L 499 1000
abbrev pub refused_by19 : Case
refused_by19 = two_lanes_under (factors 499 1000) (given Kind.Freeway 75000 120) 0

-- ANSWER-2, FLOW-2: F G 75000 120 60 60 D 0 2 999999 250 1000 R: the greatest flow rate
abbrev pub greatest_flow : Case
greatest_flow = loaded (given Kind.Freeway 75000 120) 2 999999 250 1000 Terrain.Rolling clear

-- ANSWER-1, FORM-10: the number of the refusal of a case's answer, 0 for none, and the answer's values
abbrev pub answered : Case → List ℕ
answered case = refusal_number (answer_to case) ∷ answers.grade_figures (answer_to case)

-- LANES-1, FORM-10: the number of the refusal of the lanes question with letter number n, 0 for none, and its
-- values
abbrev pub lanes_answered : Case → ℕ → List ℕ
lanes_answered case n = refusal_number (lanes_answer case n) ∷ lanes.lanes_figures (lanes_answer case n)

-- ANSWER-1, ANSWER-2, VOLUME-2, LANES-1 to LANES-3, REFUSAL-14, REFUSAL-16, WEATHER-2, WEATHER-3, LETTER-2:
-- the printed line; its lanes question with letter C, with V = 2,643, with 999,999 and with 99,999, which 14
-- refuses, and with a letter number past E, which 16 refuses; a case that 10 refuses, and its lanes; answers
-- in snow, at a given and at an estimated speed; the lanes of the latter; the order 16, 1, 19 in the lanes
-- question; the greatest flow rate.
unfoldable pub added_facts : List Fact
added_facts =
    fact (answered example)
    (0 ∷ 3 ∷ 60782 ∷ 230782 ∷ 1196 ∷ 60782 ∷ 197 ∷ 1117 ∷ 1829 ∷ 2642 ∷ 3360 ∷ 3858 ∷ [])
    ∷ fact (lanes_answered example 3) (0 ∷ 2 ∷ [])
    ∷ fact (lanes_answered (example_with 2643) 3) (0 ∷ 3 ∷ [])
    ∷ fact (lanes_answered (example_with 999999) 3 ++ lanes_answered (example_with 99999) 3) (14 ∷ 14 ∷ [])
    ∷ fact (lanes_answered example 6) (16 ∷ [])
    ∷ fact (answered estimated) (10 ∷ [])
    ∷ fact (lanes_answered estimated 1) (0 ∷ 4 ∷ [])
    ∷ fact (answered (given_in_snow 2 3000))
    (0 ∷ 3 ∷ 71250 ∷ 216000 ∷ 1500 ∷ 66271 ∷ 227 ∷ 1566 ∷ 2506 ∷ 3294 ∷ 3884 ∷ 4320 ∷ [])
    ∷ fact (answered (example_in_snow 2000))
    (0 ∷ 3 ∷ 52272 ∷ 173372 ∷ 1196 ∷ 52222 ∷ 230 ∷ 960 ∷ 1572 ∷ 2221 ∷ 2636 ∷ 2898 ∷ [])
    ∷ fact (lanes_answered (example_in_snow 2222) 3) (0 ∷ 3 ∷ [])
    ∷ fact (lanes_answered refused_by19 1 ++ (lanes_answered refused_by19 6 ++ (lanes_answered refused_by_all 1 ++ lanes_answered refused_by_all 0)))
    (19 ∷ 16 ∷ 1 ∷ 16 ∷ [])
    ∷ fact (answered greatest_flow)
    (0 ∷ 6 ∷ 75000 ∷ 240000 ∷ 5999994 ∷ 0 ∷ 0 ∷ 137 ∷ 221 ∷ 296 ∷ 355 ∷ 400 ∷ [])
    ∷ []

-- FIGURE-1: the figures of the layers below, and then these
abbrev pub boundary_facts : List Fact
boundary_facts = method.boundary_facts ++ added_facts
