-- The numbers of a day (specs/Days).
use Rattle.std.proofs.Common.{Result, Ok, Err}
use mathlib.Core.Path.{◌≡◌, refl, sym}
use mathlib.Core.List.{List, ◌++◌}
use Prim.Native.Nat.{ℕ, ◌+◌, ◌*◌, ◌/◌, ◌≤◌, ◌<◌}
use native.Mathlib.Omega.{arith}
use borrow.Author.Tests.{ltb-false}
use lib.Dec.{ltb}
use lib.ListN.{length, take, drop, get_or}
use Rattle.std.proofs.lemmas.Bool.{or_parts}
use Rattle.numbers.proofs.RowsLaws.{rows-next, rows-length, rows-at}
use Rattle.refusals.specs.Refusals.{first_refusal, outside}
use Rattle.refusals.proofs.RefusalLaws.{none-met, unless_refused-none, unless_refused-some}
use Rattle.text.specs.Buffer.{Wrote}
use Rattle.text.proofs.BufferLaws.{rest_of, put_rest, then}
use Rattle.road.specs.declared.Case.{Case}
use Rattle.road.specs.Cases.{with_demand}
use Rattle.refusals.specs.declared.Refusal.{Refusal}
use Rattle.refusals.specs.Numbers.{refusal_number}
use Rattle.answer.specs.declared.evaluate.Grade.{Grade}
use Rattle.answer.specs.Answers.{answer_to}
use Rattle.answer.specs.Promises.{letter_in}
use Rattle.day.specs.Days.{most_demands, figure_count, answer_figures, day_figures, day_written, lent_unfit, lent_refusals, LentFits}
use Rattle.day.specs.Days.{day_content}

-- an answer has twelve numbers
pub answer_figures-length : (a : Result Grade Refusal) → length (answer_figures a) ≡ figure_count
answer_figures-length (Ok g) = refl
answer_figures-length (Err r) = refl

-- the first is its refusal's number
pub number-first : (a : Result Grade Refusal) → get_or (answer_figures a) 0 0 ≡ refusal_number a
number-first (Ok g) = refl
number-first (Err r) = refl

-- the second is its letter's
pub letter-second : (a : Result Grade Refusal) → get_or (answer_figures a) 1 0 ≡ letter_in a
letter-second (Ok g) = refl
letter-second (Err r) = refl

-- where 18 does not refuse there is room for every answer
pub lent-room : (n room : ℕ) → LentFits n room → figure_count * n ≤ room
unfolding lent_unfit lent_refusals
lent-room n room z =
    let none = or_parts (outside 1 most_demands n) (ltb (room / figure_count) n) (none-met (lent_refusals n room) tt z).0 in
    let enough : n ≤ room / figure_count = ltb-false (room / figure_count) n none.1 in
    omega arith

-- ---- the lent numbers
module _ (case : Case) (demands old : List ℕ) where
  -- the lent numbers where 18 refuses
  pub day-refused : 0 < first_refusal (lent_refusals (length demands) (length old)) → old ≡ day_content case demands old
  unfolding day_content
  day-refused p = sym (unless_refused-some _ (day_written case demands old) (λ number. old) p)

  -- where it does not
  pub day-answered : LentFits (length demands) (length old) → day_written case demands old ≡ day_content case demands old
  unfolding day_content
  day-answered z = sym (unless_refused-none _ (day_written case demands old) (λ number. old) z)

-- ---- the answers one after the other
-- a day has twelve for each demand
pub day_figures-length : (case : Case) (demands : List ℕ) → length (day_figures case demands) ≡ figure_count * length demands
unfolding day_figures
day_figures-length case demands = rows-length _ figure_count (λ d. answer_figures-length (answer_to (with_demand case d))) demands

-- as many answers as demands
pub day_figures-count : (case : Case) (demands : List ℕ) → length (day_figures case demands) / figure_count ≡ length demands
day_figures-count case demands = omega (arith, day_figures-length case demands)

module _ (case : Case) (demands : List ℕ) where
  -- those of one of the demands
  pub day_figures-at : (rest : List ℕ) (i : ℕ) → i < length demands
      → take figure_count (drop (figure_count * i) (day_figures case demands ++ rest))
      ≡ answer_figures (answer_to (with_demand case (get_or demands i 0)))
  unfolding day_figures
  day_figures-at rest i h = rows-at _ figure_count (λ d. answer_figures-length (answer_to (with_demand case d))) demands rest i 0 h

  -- those of one demand more
  pub day_figures-next : (i : ℕ) → i < length demands
      → day_figures case (take (i + 1) demands)
      ≡ day_figures case (take i demands) ++ answer_figures (answer_to (with_demand case (get_or demands i 0)))
  unfolding day_figures
  day_figures-next i h = rows-next _ demands i 0 h

  -- a turn of put_day: an answer more is written
  pub next-answer : {old out new : List ℕ} {at n : ℕ} (i : ℕ) → i < length demands → Wrote (day_figures case (take i demands)) old out at
      → Wrote (answer_figures (answer_to (with_demand case (get_or demands i 0)))) (rest_of at out) new n
      → Wrote (day_figures case (take (i + 1) demands)) old (put_rest at out new) (at + n)
  next-answer i h w v = rw (day_figures-next i h) (then w v)
