-- A day: a case whose own demand is not read, demands, and lent answers, twelve numbers each.
use Rattle.std.specs.Prelude.{ℕ, ◌/◌, ◌≡◌, Bool, ◌||◌, nat_lt, length, replicate, Result, Ok, Err}
use mathlib.Core.List.{List, [], ◌∷◌, flat_map}
use Rattle.refusals.specs.declared.Refusal.{Refusal}
use Rattle.refusals.specs.Refusals.{Condition, refuses, first_refusal, unless_refused, outside}
use Rattle.refusals.specs.Numbers.{refusal_number, ok_unless}
use Rattle.text.specs.Buffer.{written}
use Rattle.road.specs.declared.Case.{Case}
use Rattle.road.specs.Cases.{with_demand}
use Rattle.answer.specs.declared.evaluate.Grade.{Grade}
use Rattle.answer.specs.Answers as answers
use Rattle.answer.specs.Answers.{answer_to}

-- DAY-1: the most demands of a day
abbrev pub most_demands : ℕ
most_demands = 24

-- DAY-2: how many numbers an answer is: the refusal's number and the eleven figures of a graded answer
abbrev pub figure_count : ℕ
figure_count = 12

-- DAY-2: a number and the figures behind it; where there are none, eleven zeros, so that nothing of what
-- stood there shows
abbrev pub figures_of : ℕ → List ℕ → List ℕ
figures_of number [] = number ∷ replicate 11 0
figures_of number (v ∷ vs) = number ∷ v ∷ vs

-- DAY-2: the numbers of an answer: its refusal's number, 0 for none, and the figures, the letter by its
-- number
abbrev pub answer_figures : Result Grade Refusal → List ℕ
answer_figures a = figures_of (refusal_number a) (answers.grade_figures a)

-- DAY-1: the numbers of the single answers to the case with each demand, in order
unfoldable pub day_figures : Case → List ℕ → List ℕ
day_figures case demands = flat_map (λ demand. answer_figures (answer_to (with_demand case demand))) demands

-- DAY-1, TEXT-5: what lent numbers that held old are afterwards, where 18 does not refuse: the numbers of
-- the day from the start on, and then what stood there
abbrev pub day_written : Case → List ℕ → List ℕ → List ℕ
day_written case demands old = written (day_figures case demands) old

-- REFUSAL-18: whether 18 refuses n demands with room for so many numbers: n is not 1 to 24, or the room is
-- less than n answers
unfoldable pub lent_unfit : ℕ → ℕ → Bool
lent_unfit n room = outside 1 most_demands n || nat_lt (room / figure_count) n

-- REFUSAL-18: what is asked of n demands with room for so many numbers: 18 alone
unfoldable pub lent_refusals : ℕ → ℕ → List Condition
lent_refusals n room = refuses 18 (lent_unfit n room) ∷ []

-- REFUSAL-18: 18 does not refuse n demands with room for so many numbers
abbrev pub LentFits : ℕ → ℕ → Type 0
LentFits n room = first_refusal (lent_refusals n room) ≡ 0

-- CALL-7, REFUSAL-18: the answer to n demands with room for so many numbers: the count of answers, n, or 18
abbrev pub day_answer : ℕ → ℕ → Result ℕ Refusal
day_answer n room = ok_unless (first_refusal (lent_refusals n room)) n

-- CALL-5, CALL-7, REFUSAL-18: what lent numbers that held old are afterwards: the day from the start on;
-- where 18 refuses, as they were
unfoldable pub day_content : Case → List ℕ → List ℕ → List ℕ
day_content case demands old =
    unless_refused (first_refusal (lent_refusals (length demands) (length old)))
    (day_written case demands old) (λ number. old)

-- CALL-7, FORM-10: the count of answers; of a refusal no value
abbrev pub count_figures : Result ℕ Refusal → List ℕ
count_figures (Ok n) = n ∷ []
count_figures (Err r) = []
