-- The lanes question. Letter numbers: A is 1.
use Rattle.std.specs.Prelude.{ℕ, suc, Bool, List, [], ◌∷◌, ◌++◌, nat_lt, Result, Ok, Err}
use Rattle.numbers.specs.Search.{least}
use Rattle.road.specs.declared.Case.{Case}
use Rattle.curve.specs.Kinds.{most_lanes}
use Rattle.refusals.specs.declared.Refusal.{Refusal}
use Rattle.refusals.specs.Refusals.{Condition, refuses, first_refusal, outside}
use Rattle.refusals.specs.Numbers.{ok_unless}
use Rattle.road.specs.Refusals.{field_refusals}
use Rattle.road.specs.Cases.{with_lanes}
use Rattle.answer.specs.Volumes.{meets}

-- LANES-1, CASE-3: the case with this lane count, all other fields kept, meets letter number n
abbrev pub lanes_meet : Case → ℕ → ℕ → Bool
lanes_meet case n lanes = meets (with_lanes case lanes) n

-- LANES-1, LANES-2: the least lane count with which the case meets letter number n; one more than the kind's
-- most where none does
-- A count that 6 or 10 refuses meets no letter.
unfoldable pub lanes_found : Case → ℕ → ℕ
lanes_found case n = least (lanes_meet case n) (suc (most_lanes case.road.kind))

-- REFUSAL-16: a letter's number not 1 to 5
abbrev pub letter_refusals : ℕ → List Condition
letter_refusals n = refuses 16 (outside 1 5 n) ∷ []

-- REFUSAL-14: no lane count of the kind meets letter number n
abbrev pub count_refusals : Case → ℕ → List Condition
count_refusals case n = refuses 14 (nat_lt (most_lanes case.road.kind) (lanes_found case n)) ∷ []

-- LANES-3: what refuses the question, in its order: 16, 1 to 9, 19, 14; 10 is not asked
unfoldable pub lanes_refusals : Case → ℕ → List Condition
lanes_refusals case n = letter_refusals n ++ (field_refusals case ++ count_refusals case n)

-- LANES-1, ORDER-1: the least lane count, or the first refusal of the question
abbrev pub lanes_answer : Case → ℕ → Result ℕ Refusal
lanes_answer case n = ok_unless (first_refusal (lanes_refusals case n)) (lanes_found case n)

-- LANES-1, FORM-10: the count of an answer; of a refusal no value
abbrev pub lanes_figures : Result ℕ Refusal → List ℕ
lanes_figures (Ok n) = n ∷ []
lanes_figures (Err r) = []
