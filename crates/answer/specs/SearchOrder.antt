-- The order of the searches for the service volumes: the law that it rests on, and how many demands they try,
-- stated; proofs/SearchOrder proves it.
use Rattle.std.specs.Prelude.{◌≡◌, List, [], ◌∷◌, ℕ, suc, ◌≤◌, length}
use Rattle.curve.specs.declared.kind.Kind.TheVariants as Kind
use Rattle.curve.specs.Weather.{clear}
use Rattle.road.specs.declared.Terrain.TheVariants as Terrain
use Rattle.road.specs.declared.Case.{Case}
use Rattle.road.specs.Cases.{loaded}
use Rattle.method.specs.Boundary.{example, given}
use Rattle.method.specs.Refusals.{Accepted}
use Rattle.answer.specs.Answers.{answer_to}
use Rattle.answer.specs.Promises.{volume_in}
use Rattle.answer.specs.Boundary.{estimated}
use Rattle.answer.specs.Tries.{meets_with, tried_for, demands_tried, counted_answer}

-- TRIES-2, VOLUME-2: no service volume is above that of the next worse letter
abbrev pub NoVolumeAboveTheNext : Type 0
NoVolumeAboveTheNext =
    (case : Case) → Accepted case → (n : ℕ) → 1 ≤ n → n ≤ 4
    → volume_in (answer_to case) n ≤ volume_in (answer_to case) (suc n)

-- TRIES-2: of the printed line, the volume of A is not above that of B, nor that of D above that of E
abbrev pub ExampleVolumesRise : Type 0
ExampleVolumesRise =
    (volume_in (answer_to example) 1 ≤ volume_in (answer_to example) 2)
    × (volume_in (answer_to example) 4 ≤ volume_in (answer_to example) 5)

-- TRIES-3: at most 20 demands are tried for E, and at most 15 for each other letter
-- 2 to the power 20 is above the greatest demand, and 2 to the power 15 above any service volume.
abbrev pub TriesOfALetter : Type 0
TriesOfALetter =
    (case : Case) → Accepted case
    → (length (tried_for (meets_with case) 5) ≤ 20)
    × ((n : ℕ) → 1 ≤ n → n ≤ 4 → length (tried_for (meets_with case) n) ≤ 15)

-- TRIES-3: at most 80 demands are tried for the five letters together, and at least one
abbrev pub AtMost80Tried : Type 0
AtMost80Tried =
    (case : Case) → Accepted case → (1 ≤ length (demands_tried case)) × (length (demands_tried case) ≤ 80)

-- TRIES-1, TRIES-2: the 67 that are tried for the printed line, those for E, then D, C, B and A
abbrev pub example_tried : List ℕ
example_tried =
    500000 ∷ 250000 ∷ 125000 ∷ 62500 ∷ 31250 ∷ 15625 ∷ 7812 ∷ 3906 ∷ 1953 ∷ 2929 ∷ 3417 ∷ 3661 ∷ 3783 ∷ 3844
    ∷ 3875 ∷ 3859 ∷ 3851
    ∷ 3855 ∷ 3857 ∷ 3858
    ∷ 1929 ∷ 2894 ∷ 3376 ∷ 3135 ∷ 3255 ∷ 3315 ∷ 3345 ∷ 3360 ∷ 3368 ∷ 3364 ∷ 3362 ∷ 3361
    ∷ 1680 ∷ 2520 ∷ 2940 ∷ 2730 ∷ 2625 ∷ 2677 ∷ 2651 ∷ 2638 ∷ 2644 ∷ 2641 ∷ 2642 ∷ 2643
    ∷ 1321 ∷ 1982 ∷ 1651 ∷ 1816 ∷ 1899 ∷ 1857 ∷ 1836 ∷ 1826 ∷ 1831 ∷ 1828 ∷ 1829 ∷ 1830
    ∷ 915 ∷ 1372 ∷ 1143 ∷ 1029 ∷ 1086 ∷ 1114 ∷ 1128 ∷ 1121 ∷ 1117 ∷ 1119 ∷ 1118 ∷ []

-- TRIES-1 to TRIES-3: the demands tried for the printed line are those listed, and 67 are counted
abbrev pub ExampleTried : Type 0
ExampleTried = (demands_tried example ≡ example_tried) × ((counted_answer example).tries ≡ 67)

-- TRIES-3: F G 72500 120 60 60 D 0 8 0 969 0 L
abbrev pub eight_lanes : Case
eight_lanes = loaded (given Kind.Freeway 72500 120) 8 0 969 0 Terrain.Level clear

-- TRIES-3: 78 demands are counted for a case with 8 lanes
abbrev pub EightLanesTried : Type 0
EightLanesTried = (counted_answer eight_lanes).tries ≡ 78

-- TRIES-3: none is counted for a case that 10 refuses
abbrev pub RefusedTried : Type 0
RefusedTried = (counted_answer estimated).tries ≡ 0
