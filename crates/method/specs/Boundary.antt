-- Figures that a case alone decides, with those of the layer below: one list, which the layers above make
-- longer.
use Rattle.std.specs.Prelude.{List, [], ◌∷◌, ◌++◌, map, ℕ, Result, Ok, Err}
use Rattle.refusals.specs.Facts.{Fact, fact}
use Rattle.refusals.specs.declared.Refusal.{Refusal}
use Rattle.refusals.specs.Numbers.{refusal_number, ok_unless}
use Rattle.curve.specs.declared.Curve.{Curve}
use Rattle.curve.specs.Power.{power}
use Rattle.curve.specs.declared.kind.Kind.{Kind}
use Rattle.curve.specs.declared.Weather.{Weather}
use Rattle.curve.specs.Curves.{curve_at}
use Rattle.curve.specs.Weather.{factors, clear}
use Rattle.curve.specs.Service.{shown_density, letter_at, letter_number}
use Rattle.road.specs.declared.Way.TheVariants as Way
use Rattle.road.specs.declared.Median.{Median}
use Rattle.road.specs.declared.Terrain.TheVariants as Terrain
use Rattle.road.specs.declared.Road.{Road}
use Rattle.road.specs.declared.Case.{Case}
use Rattle.road.specs.Cases.{road, loaded}
use Rattle.road.specs.RampTerm.{ramp_term}
use Rattle.road.specs.FreeFlowSpeed.{free_flow_speed_of}
use Rattle.road.specs.Boundary.{right_off, with_24_ramps, road_facts}
use Rattle.method.specs.Refusals.{refusal}
use Rattle.method.specs.Checked.{case_curve}
use Rattle.method.specs.declared.accepted.Measures.{Measures}
use Rattle.method.specs.Assess.{measures, measure_figures}

-- CURVE-7, LETTER-1: density and letter at v, in clear weather
abbrev density_and_letter : Kind → ℕ → ℕ → List ℕ
density_and_letter kind f v =
    shown_density (curve_at kind f) v ∷ letter_number (letter_at (curve_at kind f) v) ∷ []

-- CASE-1: a road of given speed f and lane width w
abbrev pub given : Kind → ℕ → ℕ → Road
given kind f w = road kind Way.Given f w 60 60 Median.Divided 0

-- CASE-2: the case of a road with two lanes and a demand, peak-hour factor 1,000, no heavy vehicles, level,
-- under weather
abbrev pub two_lanes_under : Weather → Road → ℕ → Case
two_lanes_under weather road demand = loaded road 2 demand 1000 0 Terrain.Level weather

-- CASE-2: the case of a road with two lanes and a demand, factor 1,000, no heavy vehicles, level, in clear
-- weather
abbrev pub two_lanes : Road → ℕ → Case
two_lanes = two_lanes_under clear

-- CASE-2: the case of the line F E 75400 110 20 0 D 24 2 2000 920 50 R
abbrev pub example : Case
example =
    loaded (road Kind.Freeway Way.Estimated 75400 110 20 0 Median.Divided 24) 2 2000 920 50 Terrain.Rolling clear

-- CASE-1: M, E, 60,000, width 110, right 40, left 20, 10 access points
abbrev multilane : Median → Road
multilane m = road Kind.Multilane Way.Estimated 60000 110 40 20 m 10

-- FORM-10: the number of the refusal of a case, 0 for none, and its measures
abbrev assessed : Case → List ℕ
assessed case =
    let got : Result Measures Refusal = ok_unless (refusal case) (measures case) in
    refusal_number got ∷ measure_figures got

-- FORM-10: F, c and b of a curve; of a refusal no value
abbrev curve_figures : Result Curve Refusal → List ℕ
curve_figures (Ok curve) = curve.free_flow_speed ∷ curve.capacity ∷ curve.breakpoint ∷ []
curve_figures (Err r) = []

-- FORM-10: the number of the refusal of a case, 0 for none, and its curve
abbrev checked_as : Case → List ℕ
checked_as case =
    let curve : Result Curve Refusal = ok_unless (refusal case) (case_curve case) in
    refusal_number curve ∷ curve_figures curve

-- ORDER-2: a case of kind F with these fields, level, with a speed factor
abbrev faulty : (speed width right : ℕ) → Median → (access lanes demand factor share speed_factor : ℕ) → Case
faulty speed width right median access lanes demand factor share speed_factor =
    loaded (road Kind.Freeway Way.Given speed width right 0 median access) lanes demand factor share Terrain.Level
    (factors speed_factor 1000)

-- ORDER-2: a case that breaks 1 to 9, 19 and 10
abbrev pub refused_by_all : Case
refused_by_all = faulty 0 99 401 Median.Undivided 49 1 1000000 249 1001 499

-- REFUSAL-1 to REFUSAL-10: the numbers at the ends of each range, and those past them: speed, width,
-- clearance on either side, medians of kind F and of kind M, ramps and access, lanes of kind F and of kind M,
-- demand, peak-hour factor, heavy share. 10 refuses a given speed of 30,000.
unfoldable pub limit_facts : List Fact
limit_facts =
    fact (map (λ f. refusal (two_lanes (given Kind.Freeway f 120) 0)) (29999 ∷ 30000 ∷ 90000 ∷ 90001 ∷ []))
    (1 ∷ 10 ∷ 0 ∷ 1 ∷ [])
    ∷ fact (map (λ w. refusal (two_lanes (given Kind.Freeway 60000 w) 0)) (99 ∷ 100 ∷ 200 ∷ 201 ∷ []))
    (2 ∷ 0 ∷ 0 ∷ 2 ∷ [])
    ∷ fact (freeway 400 400 Median.Divided 0 ∷ freeway 401 0 Median.Divided 0 ∷ freeway 0 401 Median.Divided 0 ∷ [])
    (0 ∷ 3 ∷ 3 ∷ [])
    ∷ fact (map (λ m. freeway 60 60 m 0) medians) (4 ∷ 0 ∷ 4 ∷ [])
    ∷ fact (map (λ m. multilane_with m 0) medians) (0 ∷ 0 ∷ 0 ∷ [])
    ∷ fact (map (freeway 60 60 Median.Divided) (48 ∷ 49 ∷ [])) (0 ∷ 5 ∷ [])
    ∷ fact (map (multilane_with Median.Divided) (200 ∷ 201 ∷ [])) (0 ∷ 5 ∷ [])
    ∷ fact (map (λ n. loaded_by Kind.Freeway n 0 1000 0) (1 ∷ 2 ∷ 8 ∷ 9 ∷ [])) (6 ∷ 0 ∷ 0 ∷ 6 ∷ [])
    ∷ fact (map (λ n. loaded_by Kind.Multilane n 0 1000 0) (1 ∷ 2 ∷ 3 ∷ 4 ∷ [])) (6 ∷ 0 ∷ 0 ∷ 6 ∷ [])
    ∷ fact (map (λ v. loaded_by Kind.Freeway 2 v 1000 0) (99999 ∷ 100000 ∷ 999999 ∷ 1000000 ∷ []))
    (0 ∷ 0 ∷ 0 ∷ 7 ∷ [])
    ∷ fact (map (λ h. loaded_by Kind.Freeway 2 0 h 0) (249 ∷ 250 ∷ 1000 ∷ 1001 ∷ [])) (8 ∷ 0 ∷ 0 ∷ 8 ∷ [])
    ∷ fact (map (λ p. loaded_by Kind.Freeway 2 0 1000 p) (1000 ∷ 1001 ∷ [])) (0 ∷ 9 ∷ [])
    ∷ []
  where
    medians : List Median
    medians = Median.Undivided ∷ Median.Divided ∷ Median.TwoWayLeftTurnLane ∷ []

    -- kind F: right and left clearance, median, ramps
    freeway : ℕ → ℕ → Median → ℕ → ℕ
    freeway r l m access = refusal (two_lanes (road Kind.Freeway Way.Given 60000 120 r l m access) 0)

    multilane_with : Median → ℕ → ℕ
    multilane_with m access = refusal (two_lanes (road Kind.Multilane Way.Given 60000 120 60 60 m access) 0)

    loaded_by : Kind → (lanes demand factor share : ℕ) → ℕ
    loaded_by kind lanes demand factor share =
        refusal (loaded (given kind 60000 120) lanes demand factor share Terrain.Level clear)

-- ORDER-2: a case that breaks all of 1 to 9, 19 and 10, and then without its first fault, again and again.
unfoldable pub order_facts : List Fact
order_facts =
    fact (
    refusal refused_by_all
    ∷ refusal (faulty 54999 99 401 Median.Undivided 49 1 1000000 249 1001 499)
    ∷ refusal (faulty 54999 120 401 Median.Undivided 49 1 1000000 249 1001 499)
    ∷ refusal (faulty 54999 120 60 Median.Undivided 49 1 1000000 249 1001 499)
    ∷ refusal (faulty 54999 120 60 Median.Divided 49 1 1000000 249 1001 499)
    ∷ refusal (faulty 54999 120 60 Median.Divided 0 1 1000000 249 1001 499)
    ∷ refusal (faulty 54999 120 60 Median.Divided 0 2 1000000 249 1001 499)
    ∷ refusal (faulty 54999 120 60 Median.Divided 0 2 0 249 1001 499)
    ∷ refusal (faulty 54999 120 60 Median.Divided 0 2 0 1000 1001 499)
    ∷ refusal (faulty 54999 120 60 Median.Divided 0 2 0 1000 0 499)
    ∷ refusal (faulty 54999 120 60 Median.Divided 0 2 0 1000 0 1000)
    ∷ refusal (faulty 55000 120 60 Median.Divided 0 2 0 1000 0 1000)
    ∷ []
    )
    (1 ∷ 2 ∷ 3 ∷ 4 ∷ 5 ∷ 6 ∷ 7 ∷ 8 ∷ 9 ∷ 19 ∷ 10 ∷ 0 ∷ [])
    ∷ []

-- WEATHER-1 to WEATHER-3, FFS-10, REFUSAL-10, REFUSAL-19, ORDER-2: under snow or rain: b rounded down once; b
-- and c from F after its factor, below the breakpoint and past it; F, c and b each with a fraction above a
-- half; the upper end before the factor; F, c and both factors at once; 50,000 after the factor, and 55,000
-- before it; the ends of the factors, on kind M too; 19 before 10 on kind M.
unfoldable pub weather_facts : List Fact
weather_facts =
    fact (checked_as (snow 67855 1000 942 3534)) (0 ∷ 67855 ∷ 224059 ∷ 114097 ∷ [])
    ∷ fact (assessed (snow 67855 1000 942 3534)) (0 ∷ 4 ∷ 67855 ∷ 224059 ∷ 1767 ∷ 62000 ∷ 285 ∷ [])
    ∷ fact (assessed (snow 60000 950 1000 3000)) (0 ∷ 4 ∷ 57000 ∷ 227000 ∷ 1500 ∷ 57000 ∷ 264 ∷ [])
    ∷ fact (assessed (snow 60000 950 1000 3800)) (0 ∷ 4 ∷ 57000 ∷ 227000 ∷ 1900 ∷ 56297 ∷ 338 ∷ [])
    ∷ fact (checked_as (snow 60001 955 946 0)) (0 ∷ 57300 ∷ 215025 ∷ 152851 ∷ [])
    ∷ fact (checked_as (snow 90000 900 1000 0)) (0 ∷ 67500 ∷ 237500 ∷ 130000 ∷ [])
    ∷ fact (assessed (snow 75000 950 900 3000)) (0 ∷ 3 ∷ 71250 ∷ 216000 ∷ 1500 ∷ 66271 ∷ 227 ∷ [])
    ∷ fact (assessed (snow 75000 667 1000 3000)) (0 ∷ 4 ∷ 50025 ∷ 220025 ∷ 1500 ∷ 50025 ∷ 300 ∷ [])
    ∷ fact (assessed (snow 75000 666 1000 3000)) (10 ∷ [])
    ∷ fact (assessed (snow 75000 1000 500 3000)) (0 ∷ 6 ∷ 75000 ∷ 120000 ∷ 1500 ∷ 0 ∷ 0 ∷ [])
    ∷ fact (checked_as (snow 62500 800 1000 0)) (0 ∷ 50000 ∷ 220000 ∷ 200000 ∷ [])
    ∷ fact (checked_as (snow 55066 908 1000 0)) (10 ∷ [])
    ∷ fact (checked_as (snow 55000 910 1000 0)) (0 ∷ 50050 ∷ 220050 ∷ 199800 ∷ [])
    ∷ fact (checked_as (snow 55000 909 1000 0)) (10 ∷ [])
    ∷ fact (checked_as (snow 54999 910 1000 0)) (10 ∷ [])
    ∷ fact (map (λ s. refusal (snow 75000 s 1000 0)) (0 ∷ 499 ∷ 500 ∷ 1000 ∷ 1001 ∷ 99999 ∷ []))
    (19 ∷ 19 ∷ 10 ∷ 0 ∷ 19 ∷ 19 ∷ [])
    ∷ fact (map (λ k. refusal (snow 75000 1000 k 0)) (0 ∷ 499 ∷ 500 ∷ 1000 ∷ 1001 ∷ 99999 ∷ []))
    (19 ∷ 19 ∷ 0 ∷ 0 ∷ 19 ∷ 19 ∷ [])
    ∷ fact (map (λ s. refusal (on_multilane 60000 s 1000)) (999 ∷ 1000 ∷ 1001 ∷ [])) (19 ∷ 0 ∷ 19 ∷ [])
    ∷ fact (map (λ k. refusal (on_multilane 60000 1000 k)) (999 ∷ 1000 ∷ 1001 ∷ [])) (19 ∷ 0 ∷ 19 ∷ [])
    ∷ fact (refusal (on_multilane 30000 1000 999) ∷ refusal (on_multilane 30000 1000 1000) ∷ [])
    (19 ∷ 10 ∷ [])
    ∷ []
  where
    -- F, given: speed, speed factor, capacity factor, demand
    snow : ℕ → ℕ → ℕ → ℕ → Case
    snow f s k demand = two_lanes_under (factors s k) (given Kind.Freeway f 120) demand

    on_multilane : ℕ → ℕ → ℕ → Case
    on_multilane f s k = two_lanes_under (factors s k) (given Kind.Multilane f 120) 0

-- FFS-10, REFUSAL-10, KIND-1: the ends of F: with 24 ramps on kind F, and given on kind M.
unfoldable pub end_facts : List Fact
end_facts =
    fact (map (λ base. refusal (two_lanes (with_24_ramps base) 1000)) (65318 ∷ 65317 ∷ [])) (0 ∷ 10 ∷ [])
    ∷ fact (assessed (two_lanes (given Kind.Multilane 44999 120) 0)) (10 ∷ [])
    ∷ fact (checked_as (two_lanes (given Kind.Multilane 45000 120) 0)) (0 ∷ 45000 ∷ 190000 ∷ 140000 ∷ [])
    ∷ fact (checked_as (two_lanes (given Kind.Multilane 70000 120) 0)) (0 ∷ 70000 ∷ 230000 ∷ 140000 ∷ [])
    ∷ fact (checked_as (two_lanes (given Kind.Multilane 70001 120) 0)) (0 ∷ 70000 ∷ 230000 ∷ 140000 ∷ [])
    ∷ []

-- FFS-1 to FFS-9, FLOW-1, FLOW-2, CURVE-1 to CURVE-7, LETTER-1, LETTER-2, REFUSAL-10, ORDER-2: of an accepted
-- case 0, and then letter (A is 1 and F is 6), F, c, v, speed and density, of one that is refused its number.
-- The last six: no demand; two letters that the shown speed would miss; a case that breaks 1 and 2; the curve
-- of a case, and its refusal.
unfoldable pub section_facts : List Fact
section_facts =
    fact (assessed example) (0 ∷ 3 ∷ 60782 ∷ 230782 ∷ 1196 ∷ 60782 ∷ 197 ∷ [])
    ∷ fact (ramp_term 6 ∷ ramp_term 24 ∷ ramp_term 0 ∷ []) (3220 ∷ 10318 ∷ 0 ∷ [])
    ∷ fact (density_and_letter Kind.Freeway 75000 825) (110 ∷ 1 ∷ [])
    ∷ fact (density_and_letter Kind.Freeway 75000 826) (111 ∷ 2 ∷ [])
    ∷ fact (assessed (two_lanes (given Kind.Freeway 55000 120) 4500))
    (0 ∷ 5 ∷ 55000 ∷ 225000 ∷ 2250 ∷ 50000 ∷ 450 ∷ [])
    ∷ fact (assessed (two_lanes (given Kind.Freeway 55000 120) 4501))
    (0 ∷ 6 ∷ 55000 ∷ 225000 ∷ 2251 ∷ 0 ∷ 0 ∷ [])
    ∷ fact (assessed (two_lanes (given Kind.Freeway 54999 120) 4500)) (10 ∷ [])
    ∷ fact (assessed (two_lanes (given Kind.Multilane 60000 120) 2800))
    (0 ∷ 3 ∷ 60000 ∷ 220000 ∷ 1400 ∷ 60000 ∷ 234 ∷ [])
    ∷ fact (assessed (two_lanes (given Kind.Multilane 60000 120) 3600))
    (0 ∷ 4 ∷ 60000 ∷ 220000 ∷ 1800 ∷ 55518 ∷ 325 ∷ [])
    ∷ fact (power 500 ∷ []) (403321 ∷ [])
    ∷ fact (free_flow_speed_of (multilane Median.Divided) 2 ∷ free_flow_speed_of (multilane Median.Undivided) 2 ∷ [])
    (54300 ∷ 53600 ∷ [])
    ∷ fact (right_off 59) (60 ∷ 40 ∷ 20 ∷ 10 ∷ 10 ∷ 10 ∷ 10 ∷ [])
    ∷ fact (assessed (two_lanes (given Kind.Freeway 55000 120) 0))
    (0 ∷ 1 ∷ 55000 ∷ 225000 ∷ 0 ∷ 55000 ∷ 0 ∷ [])
    ∷ fact (assessed (two_lanes (given Kind.Freeway 55052 120) 3830))
    (0 ∷ 4 ∷ 55052 ∷ 225052 ∷ 1915 ∷ 54714 ∷ 350 ∷ [])
    ∷ fact (assessed (two_lanes (given Kind.Multilane 45000 120) 3800))
    (0 ∷ 5 ∷ 45000 ∷ 190000 ∷ 1900 ∷ 42222 ∷ 450 ∷ [])
    ∷ fact (assessed (two_lanes (given Kind.Freeway 0 0) 0)) (1 ∷ [])
    ∷ fact (checked_as (two_lanes (given Kind.Freeway 55000 120) 0)) (0 ∷ 55000 ∷ 225000 ∷ 180000 ∷ [])
    ∷ fact (checked_as (two_lanes (given Kind.Freeway 54999 120) 0)) (10 ∷ [])
    ∷ []

-- FIGURE-1: all figures that a case decides
abbrev pub case_facts : List Fact
case_facts = section_facts ++ (end_facts ++ (weather_facts ++ (order_facts ++ limit_facts)))

-- FIGURE-1: all figures of a road and of a case
abbrev pub boundary_facts : List Fact
boundary_facts = road_facts ++ case_facts
