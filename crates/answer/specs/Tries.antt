-- Which demands the searches for the five service volumes try, and how many. Letter numbers: A is 1.
use Rattle.std.specs.Prelude.{ℕ, zero, suc, Bool, if◌then◌else◌, List, [], ◌++◌, nat_lt, length, Result}
use Rattle.numbers.specs.Search.{greatest}
use Rattle.numbers.specs.Halving.{tried_up_to}
use Rattle.refusals.specs.declared.Refusal.{Refusal}
use Rattle.refusals.specs.Refusals.{unless_refused}
use Rattle.curve.specs.declared.Curve.{Curve}
use Rattle.curve.specs.Service.{density_limit}
use Rattle.road.specs.declared.Case.{Case}
use Rattle.road.specs.Cases.{with_demand}
use Rattle.road.specs.Refusals.{greatest_demand}
use Rattle.method.specs.declared.flow.Load.{Load}
use Rattle.method.specs.Refusals.{refusal}
use Rattle.answer.specs.declared.evaluate.Volumes.{Volumes}
use Rattle.answer.specs.declared.evaluate.Grade.{Grade}
use Rattle.answer.specs.declared.evaluate.Counted.{Counted}
use Rattle.answer.specs.Volumes.{meets}
use Rattle.answer.specs.Answers.{answer_to}
use Rattle.answer.specs.Search.{demand_meets, searched_volumes}

-- VOLUME-1, CASE-3: the case with that demand in the place of its own meets letter number n
abbrev pub meets_with : Case → ℕ → ℕ → Bool
meets_with case n demand = meets (with_demand case demand) n

-- TRIES-1, VOLUME-1: the search's test for letter number n: on the curve a demand keeps to its density
abbrev pub tests_of : Curve → Load → ℕ → ℕ → Bool
tests_of curve load n = demand_meets curve load (density_limit n)

-- TRIES-2: up to where letter number n is searched for, if test n tells whether a demand meets it: E up to
-- the greatest demand, each better letter up to the volume of the next worse one
-- By proofs/TriesLaws what is found there is the greatest demand of all that meets the letter.
unfoldable pub search_end : (ℕ → ℕ → Bool) → ℕ → ℕ
search_end test n = if nat_lt n 5 then greatest (test (suc n)) greatest_demand else greatest_demand

-- TRIES-1, TRIES-2: the demands that are tried for letter number n
abbrev pub tried_for : (ℕ → ℕ → Bool) → ℕ → List ℕ
tried_for test n = tried_up_to (test n) (search_end test n)

-- TRIES-2: the demands that are tried for letter number n and then for each better one
unfoldable pub tried_from : (ℕ → ℕ → Bool) → ℕ → List ℕ
tried_from test zero = []
tried_from test (suc n) = tried_for test (suc n) ++ tried_from test n

-- TRIES-2, TRIES-3: the demands that are tried for E, D, C, B and A, of a case
abbrev pub demands_tried : Case → List ℕ
demands_tried case = tried_from (meets_with case) 5

-- TRIES-1, TRIES-3: what a search up to an end hands back: the greatest demand, and how many were tried
abbrev pub found : (ℕ → Bool) → ℕ → Counted ℕ
found p end = record { value = greatest p end; tries = length (tried_up_to p end) }

-- TRIES-3, VOLUME-2: what the five searches hand back together: the volumes, and how many demands were tried
abbrev pub found_volumes : Curve → Load → Counted Volumes
found_volumes curve load =
    record { value = searched_volumes curve load; tries = length (tried_from (tests_of curve load) 5) }

-- TRIES-3, ANSWER-1: the answer to a case, and how many demands were tried for it: none for a refused one
abbrev pub counted_answer : Case → Counted (Result Grade Refusal)
counted_answer case =
    record {
      value = answer_to case;
      tries = unless_refused (refusal case) (length (demands_tried case)) (λ number. 0);
    }
