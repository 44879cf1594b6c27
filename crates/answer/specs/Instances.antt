-- Instances of each part of the shape with all its hypotheses met, so that none is true for an empty reason;
-- proofs/Instances proves them by the parts themselves.
use Rattle.std.specs.Prelude.{◌≡◌, [], ◌∷◌, ℕ, ◌≤◌}
use Rattle.refusals.specs.Numbers.{refusal_number}
use Rattle.curve.specs.declared.kind.Kind.TheVariants as Kind
use Rattle.curve.specs.Weather.{factors, clear}
use Rattle.road.specs.declared.Terrain.TheVariants as Terrain
use Rattle.road.specs.declared.Case.{Case}
use Rattle.method.specs.Boundary.{example, given, two_lanes}
use Rattle.road.specs.Cases.{loaded, with_lanes, with_weather}
use Rattle.answer.specs.Answers.{answer_to}
use Rattle.answer.specs.Lanes.{lanes_answer, lanes_figures}
use Rattle.answer.specs.Promises.{letter_in, Meets, AcceptedCount}
use Rattle.answer.specs.Boundary.{example_with, example_in_snow, estimated, given_in_snow}

-- SHAPE-1: F E 75400 110 20 0 D 24 3 2000 1000 0 L: less of every load than the printed case with V = 2,643
abbrev pub lighter : Case
lighter = loaded example.road 3 2000 1000 0 Terrain.Level clear

-- SHAPE-1: the lighter case gets A, and the printed case with V = 2,643 gets D
abbrev pub NoBetterLetterUnderMoreLoad : Type 0
NoBetterLetterUnderMoreLoad =
    (letter_in (answer_to lighter) ≡ 1) × (letter_in (answer_to (example_with 2643)) ≡ 4)
    × (letter_in (answer_to lighter) ≤ letter_in (answer_to (example_with 2643)))

-- SHAPE-1: all but the demand equal: the printed case gets C with V = 2,000 and D with 2,643
abbrev pub NoBetterLetterUnderMoreDemand : Type 0
NoBetterLetterUnderMoreDemand =
    (letter_in (answer_to example) ≡ 3) × (letter_in (answer_to (example_with 2643)) ≡ 4)
    × (letter_in (answer_to example) ≤ letter_in (answer_to (example_with 2643)))

-- SHAPE-1, SHAPE-3: M G 60000 120 60 60 D 0 2 V 1000 0 L
abbrev pub multilane_with : ℕ → Case
multilane_with demand = two_lanes (given Kind.Multilane 60000 120) demand

-- SHAPE-1: on kind M with F given: C with V = 2,800, D with 3,600
abbrev pub NoBetterLetterOnAMultilane : Type 0
NoBetterLetterOnAMultilane =
    (letter_in (answer_to (multilane_with 2800)) ≡ 3) × (letter_in (answer_to (multilane_with 3600)) ≡ 4)
    × (letter_in (answer_to (multilane_with 2800)) ≤ letter_in (answer_to (multilane_with 3600)))

-- SHAPE-1: in snow, F given: B with 3 lanes, C with 2
abbrev pub NoBetterLetterInSnowWithFewerLanes : Type 0
NoBetterLetterInSnowWithFewerLanes =
    (letter_in (answer_to (given_in_snow 3 3000)) ≡ 2) × (letter_in (answer_to (given_in_snow 2 3000)) ≡ 3)
    × (letter_in (answer_to (given_in_snow 3 3000)) ≤ letter_in (answer_to (given_in_snow 2 3000)))

-- SHAPE-1: F E 75400 110 20 0 D 24 2 2000 1000 0 L 860 780
abbrev pub lighter_in_snow : Case
lighter_in_snow = loaded example.road 2 2000 1000 0 Terrain.Level (factors 860 780)

-- SHAPE-1: in snow, F estimated, equal lanes: the lighter case gets C, and D with V = 2,222 and more of every
-- other load
abbrev pub NoBetterLetterInSnowOnAnEstimate : Type 0
NoBetterLetterInSnowOnAnEstimate =
    (letter_in (answer_to lighter_in_snow) ≡ 3) × (letter_in (answer_to (example_in_snow 2222)) ≡ 4)
    × (letter_in (answer_to lighter_in_snow) ≤ letter_in (answer_to (example_in_snow 2222)))

-- SHAPE-2: in snow the printed case meets C with V = 2,221, and with 2,222 it does not
abbrev pub ServiceVolumeInSnow : Type 0
ServiceVolumeInSnow = Meets (example_in_snow 2221) 3 × (Meets (example_in_snow 2222) 3 → ⊥)

-- SHAPE-2: with V = 2,642 the printed case meets C, with 2,643 it does not
abbrev pub ServiceVolumeOfTheExample : Type 0
ServiceVolumeOfTheExample = Meets (example_with 2642) 3 × (Meets (example_with 2643) 3 → ⊥)

-- SHAPE-2: the printed case meets A up to V = 1,117 and E up to 3,858, each with V = 0 too
abbrev pub FirstAndLastServiceVolume : Type 0
FirstAndLastServiceVolume =
    (Meets (example_with 0) 1 × Meets (example_with 1117) 1 × (Meets (example_with 1118) 1 → ⊥))
    × (Meets (example_with 0) 5 × Meets (example_with 3858) 5 × (Meets (example_with 3859) 5 → ⊥))

-- SHAPE-3, LANES-2: a case that 10 refuses needs 4 lanes, for every letter
abbrev pub FourLanesForEveryLetter : Type 0
FourLanesForEveryLetter =
    (refusal_number (answer_to estimated) ≡ 10)
    × ((n : ℕ) → 1 ≤ n → n ≤ 5 → lanes_figures (lanes_answer estimated n) ≡ 4 ∷ [])

-- SHAPE-3: with V = 999,999 no accepted count of the printed case meets C
abbrev pub NoLanesForTheGreatestDemand : Type 0
NoLanesForTheGreatestDemand =
    (count : ℕ) → AcceptedCount (example_with 999999) count
    → Meets (with_lanes (example_with 999999) count) 3 → ⊥

-- SHAPE-3: on kind M with V = 3,600 C needs 3 lanes
abbrev pub ThreeLanesOnAMultilane : Type 0
ThreeLanesOnAMultilane = lanes_figures (lanes_answer (multilane_with 3600) 3) ≡ 3 ∷ []

-- SHAPE-3, REFUSAL-10: F E 75400 110 20 0 D 24 2 2000 920 50 R 815 1000: 10 refuses 2 lanes after the factor
abbrev pub narrow_in_snow : Case
narrow_in_snow = with_weather example (factors 815 1000)

-- SHAPE-3, LANES-2: a case in snow that 10 refuses needs 3 lanes for C
abbrev pub ThreeLanesInSnow : Type 0
ThreeLanesInSnow =
    (refusal_number (answer_to narrow_in_snow) ≡ 10)
    × (lanes_figures (lanes_answer narrow_in_snow 3) ≡ 3 ∷ [])
