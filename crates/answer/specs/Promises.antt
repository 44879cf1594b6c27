-- The shape of the method, stated over whole cases and over the definitions that the contracts of `evaluate`
-- and `lanes_needed` cite. Letter numbers: A is 1.
use Rattle.std.specs.Prelude.{◌≡◌, ◌↔◌, ◌⊎◌, [], ◌∷◌, ℕ, ◌+◌, ◌≤◌, ◌<◌, get_or, Result}
use Rattle.refusals.specs.declared.Refusal.{Refusal}
use Rattle.refusals.specs.Numbers.{refusal_number}
use Rattle.road.specs.declared.Way.TheVariants as Way
use Rattle.road.specs.declared.Terrain.{Terrain}
use Rattle.road.specs.declared.Case.{Case}
use Rattle.curve.specs.Kinds.{fewest_lanes, most_lanes}
use Rattle.curve.specs.Weather.{clear}
use Rattle.road.specs.Refusals.{greatest_demand, FieldsFit}
use Rattle.method.specs.Refusals.{Accepted}
use Rattle.answer.specs.declared.evaluate.Grade.{Grade}
use Rattle.road.specs.Cases.{with_demand, with_lanes, SameRoad}
use Rattle.answer.specs.Answers as answers
use Rattle.answer.specs.Answers.{answer_to}
use Rattle.answer.specs.Lanes as lanes
use Rattle.answer.specs.Lanes.{lanes_answer}

-- ANSWER-1, LETTER-3, FORM-10: the letter's number in a graded answer, the first of its eleven figures
abbrev pub letter_in : Result Grade Refusal → ℕ
letter_in answer = get_or (answers.grade_figures answer) 0 0

-- ANSWER-1, VOLUME-2, FORM-10: the service volume of letter number n, 1 to 5, in a graded answer: one of its
-- last five figures
abbrev pub volume_in : Result Grade Refusal → ℕ → ℕ
volume_in answer n = get_or (answers.grade_figures answer) (5 + n) 0

-- VOLUME-1: the case's answer is graded, with letter number n or a better one; a refused case meets nothing
abbrev pub Meets : Case → ℕ → Type 0
Meets case n = (refusal_number (answer_to case) ≡ 0) × (letter_in (answer_to case) ≤ n)

-- LANES-2: n is a lane count of the kind, and the case with n lanes, all other fields kept, is accepted
abbrev pub AcceptedCount : Case → ℕ → Type 0
AcceptedCount case n =
    (fewest_lanes case.road.kind ≤ n) × (n ≤ most_lanes case.road.kind) × Accepted (with_lanes case n)

-- SHAPE-1: how hard a terrain is: level is easier than rolling
abbrev pub hardness : Terrain → ℕ
hardness Terrain.Level = 0
hardness Terrain.Rolling = 1

-- SHAPE-1: if d has no less load than c, it does not get the better letter: no less demand, no smaller share,
-- no easier terrain, no higher peak-hour factor and no more lanes
abbrev pub HeavierIsNoBetter : Case → Case → Type 0
HeavierIsNoBetter c d =
    c.demand ≤ d.demand
    → c.heavy_share ≤ d.heavy_share
    → hardness c.terrain ≤ hardness d.terrain
    → d.peak_hour_factor ≤ c.peak_hour_factor
    → d.lanes ≤ c.lanes
    → letter_in (answer_to c) ≤ letter_in (answer_to d)

-- SHAPE-1: c and d may have different lanes: clear weather, or a given speed; or they have equal lanes
abbrev pub LanesComparable : Case → Case → Type 0
LanesComparable c d = (c.weather ≡ clear) ⊎ (c.road.way ≡ Way.Given) ⊎ (c.lanes ≡ d.lanes)

-- SHAPE-1: of two accepted cases of the same road under one weather, where lanes are comparable, the one with
-- no less load never gets the better letter
abbrev pub NoBetterUnderMoreLoad : Type 0
NoBetterUnderMoreLoad =
    (c d : Case) → Accepted c → Accepted d → SameRoad c d → c.weather ≡ d.weather → LanesComparable c d
    → HeavierIsNoBetter c d

-- SHAPE-1: of two accepted cases of the same road in clear weather, whatever their lanes, the one with no
-- less load never gets the better letter
abbrev pub NoBetterInClearWeather : Type 0
NoBetterInClearWeather =
    (c d : Case) → Accepted c → Accepted d → SameRoad c d → c.weather ≡ clear → d.weather ≡ clear
    → HeavierIsNoBetter c d

-- SHAPE-2, VOLUME-2: a demand to 999,999 meets a letter, A to E, exactly when it is at most the service
-- volume in the answer
abbrev pub MeetsUpToTheServiceVolume : Type 0
MeetsUpToTheServiceVolume =
    (c : Case) → Accepted c → (n : ℕ) → 1 ≤ n → n ≤ 5 → (demand : ℕ) → demand ≤ greatest_demand
    → Meets (with_demand c demand) n ↔ (demand ≤ volume_in (answer_to c) n)

-- SHAPE-3, LANES-1, LANES-2, REFUSAL-14: for a letter number from 1 to 5 and a case that none of 1 to 9 nor
-- 19 refuses, the lanes question answers a count exactly when the count is accepted, meets the letter, and no
-- smaller accepted count does; and it is refused with 14 exactly when no accepted count meets the letter
abbrev pub LeastAcceptedCount : Type 0
LeastAcceptedCount =
    (case : Case) (n : ℕ) → 1 ≤ n → n ≤ 5 → FieldsFit case
    → ((count : ℕ)
    → (lanes.lanes_figures (lanes_answer case n) ≡ count ∷ [])
    ↔ (AcceptedCount case count
    × Meets (with_lanes case count) n
    × ((fewer : ℕ) → AcceptedCount case fewer → fewer < count → Meets (with_lanes case fewer) n → ⊥)))
    × ((refusal_number (lanes_answer case n) ≡ 14)
    ↔ ((count : ℕ) → AcceptedCount case count → Meets (with_lanes case count) n → ⊥))

-- SHAPE-1 to SHAPE-3: the shape of the method: its three parts together
abbrev pub ShapeOfTheMethod : Type 0
ShapeOfTheMethod = NoBetterUnderMoreLoad × MeetsUpToTheServiceVolume × LeastAcceptedCount
