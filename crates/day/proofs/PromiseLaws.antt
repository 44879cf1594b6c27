-- What a reader of the lent answers is promised (specs/Promises), proved.
use Rattle.std.proofs.Common.{Result, Ok, Err}
use mathlib.Core.Path.{◌≡◌, refl, sym, ap, ◌∙◌}
use mathlib.Core.Logic.{◌⊎◌, ⊎_elim, inr}
use mathlib.Core.Bool.{cond}
use mathlib.Core.List.{List, ◌++◌}
use Prim.Native.Nat.{ℕ, ◌*◌, ◌/◌, ◌≤◌, ◌<◌, min}
use native.Mathlib.Nat.{eq-zero-or-pos}
use native.Mathlib.Omega.{arith}
use native.Mathlib.Decide.{dec_le}
use borrow.Author.Tests.{le-ltb, ne_eqb}
use lib.Dec.{ltb, eqb}
use lib.ListN.{length, drop, get_or, length-append, length-drop}
use lib.Seq.{drop_at}
use Rattle.std.proofs.lemmas.Bool.{or_parts}
use Rattle.refusals.specs.declared.Refusal.{Refusal}
use Rattle.refusals.specs.Numbers.{refusal_of}
use Rattle.refusals.proofs.NumberLaws.{refusal_of-number}
use Rattle.refusals.specs.Refusals.{first_refusal, unless_refused, outside}
use Rattle.refusals.proofs.RefusalLaws.{none-met, none-of, within, inside, unless_refused-some}
use Rattle.text.specs.Buffer.{written}
use Rattle.curve.specs.declared.service.Letter.{Letter}
use Rattle.curve.specs.Service.{letter_number}
use Rattle.road.specs.declared.Case.{Case}
use Rattle.road.specs.Cases.{with_demand}
use Rattle.road.specs.Refusals.{greatest_demand}
use Rattle.method.specs.Refusals.{refusal}
use Rattle.method.proofs.RefusalLaws.{refusal-within, refusal-above, accepted-with_demand}
use Rattle.answer.specs.declared.evaluate.Grade.{Grade}
use Rattle.answer.specs.Answers.{answer_to}
use Rattle.answer.specs.Promises.{letter_in}
use Rattle.answer.proofs.AnswerLaws.{answer_to-number}
use Rattle.answer.proofs.PromiseLaws.{no-better-under-more-load}
use Rattle.day.specs.Days.{most_demands, figure_count, answer_figures, day_figures, lent_unfit, lent_refusals, LentFits, day_content}
use Rattle.day.specs.Promises.{position, DayIsTheSingleCalls, PositionHoldsTheAnswer, FiguresTellTheAnswer, PastTheDemandsKept}
use Rattle.day.specs.Promises.{number_at, letter_number_at, road_number, PositionNumbers, NoBetterWithMoreDemand}
use Rattle.day.specs.Promises.{RefusedDayChangesNothing, LentFitsExactly}
use Rattle.day.proofs.DayLaws.{number-first, letter-second, day_figures-length, day_figures-at, lent-room, day-refused, day-answered}

pub day-is-the-single-calls : DayIsTheSingleCalls
unfolding written
day-is-the-single-calls case demands old z =
    sym (day-answered case demands old z)
    ∙ ap (λ n. day_figures case demands ++ drop n old) (day_figures-length case demands)

pub position-holds-the-answer : PositionHoldsTheAnswer
position-holds-the-answer case demands old z i h =
    ap (position i) (day-is-the-single-calls case demands old z) ∙ day_figures-at case demands _ i h

-- ---- an answer from its numbers
letter_of : ℕ → Letter
letter_of n =
    cond (eqb n 1) Letter.A
    (cond (eqb n 2) Letter.B (cond (eqb n 3) Letter.C (cond (eqb n 4) Letter.D (cond (eqb n 5) Letter.E Letter.F))))

-- a letter has its number, which is above 0
letter_of-number : (l : Letter) → (letter_of (letter_number l) ≡ l) × (0 < letter_number l)
unfolding letter_of
letter_of-number Letter.A = (refl, omega arith)
letter_of-number Letter.B = (refl, omega arith)
letter_of-number Letter.C = (refl, omega arith)
letter_of-number Letter.D = (refl, omega arith)
letter_of-number Letter.E = (refl, omega arith)
letter_of-number Letter.F = (refl, omega arith)

answer_of : List ℕ → Result Grade Refusal
answer_of ns =
    cond (eqb (get_or ns 1 0) 0) (Err (refusal_of (get_or ns 0 0)))
    (Ok record {
      letter = letter_of (get_or ns 1 0);
      free_flow_speed = get_or ns 2 0;
      capacity = get_or ns 3 0;
      flow_rate = get_or ns 4 0;
      speed = get_or ns 5 0;
      density = get_or ns 6 0;
      volumes = record { a = get_or ns 7 0; b = get_or ns 8 0; c = get_or ns 9 0; d = get_or ns 10 0; e = get_or ns 11 0 };
    })

answer_of-figures : (a : Result Grade Refusal) → answer_of (answer_figures a) ≡ a
unfolding answer_of
answer_of-figures (Ok g) =
    let letter = letter_of-number g.letter in simp (ne_eqb (letter_number g.letter) 0 (λ e. omega (arith, letter.1)), letter.0)
answer_of-figures (Err r) = ap Err (refusal_of-number r)

pub figures-tell-the-answer : FiguresTellTheAnswer
figures-tell-the-answer a b e = sym (answer_of-figures a) ∙ ap answer_of e ∙ answer_of-figures b

-- ---- the number and the letter in a position
module _ (case : Case) (demands old : List ℕ) (z : LentFits (length demands) (length old)) (i : ℕ) (h : i < length demands) where
  asked : Case
  asked = with_demand case (get_or demands i 0)

  number-at : number_at i (day_content case demands old) ≡ refusal asked
  unfolding asked
  number-at =
      ap (λ ns. get_or ns 0 0) (position-holds-the-answer case demands old z i h) ∙ number-first (answer_to asked) ∙ answer_to-number asked

  letter-at : letter_number_at i (day_content case demands old) ≡ letter_in (answer_to asked)
  unfolding asked
  letter-at = ap (λ ns. get_or ns 1 0) (position-holds-the-answer case demands old z i h) ∙ letter-second (answer_to asked)

-- by the refusal of the case with the demand
numbers : (case : Case) (demand : ℕ)
    → (demand ≤ greatest_demand → refusal (with_demand case demand) ≡ road_number case)
    × (greatest_demand < demand → (road_number case ≡ 0) ⊎ (7 < road_number case) → refusal (with_demand case demand) ≡ 7)
    × (1 ≤ road_number case → road_number case ≤ 6 → refusal (with_demand case demand) ≡ road_number case)
numbers case demand = (
  refusal-within (with_demand case demand),
  λ h k. refusal-above (with_demand case demand) h ∙ ⊎_elim (λ e. rw e) later k,
  either (dec_le demand greatest_demand),
)
  where
    later : 7 < road_number case → unless_refused (road_number case) 7 (λ n. min n 7) ≡ 7
    later p = unless_refused-some (road_number case) 7 (λ n. min n 7) (omega arith) ∙ omega arith

    earlier : 1 ≤ road_number case → road_number case ≤ 6 → unless_refused (road_number case) 7 (λ n. min n 7) ≡ road_number case
    earlier p k = unless_refused-some (road_number case) 7 (λ n. min n 7) (omega arith) ∙ omega arith

    either : Dec (demand ≤ greatest_demand) → 1 ≤ road_number case → road_number case ≤ 6 → refusal (with_demand case demand) ≡ road_number case
    either (yes h) p k = refusal-within (with_demand case demand) h
    either (no h) p k = refusal-above (with_demand case demand) (omega arith) ∙ earlier p k

pub position-numbers : PositionNumbers
unfolding asked
position-numbers case demands old z i h =
    let at = number-at case demands old z i h in
    let by = numbers case (get_or demands i 0) in (
      λ k. at ∙ by.0 k,
      λ k r. at ∙ by.1 k r,
      λ p k. at ∙ by.2 p k,
    )

pub no-better-with-more-demand : NoBetterWithMoreDemand
unfolding asked
no-better-with-more-demand case demands old z a i j h k less fits =
    rw (letter-at case demands old z i h, letter-at case demands old z j k)
    (no-better-under-more-load (with_demand case (get_or demands i 0)) (with_demand case (get_or demands j 0))
    (accepted-with_demand (with_demand case 0) (get_or demands i 0) a (omega arith))
    (accepted-with_demand (with_demand case 0) (get_or demands j 0) a fits) refl refl (inr (inr refl)) less (omega arith) (omega arith)
    (omega arith) (omega arith))

-- ---- what is not written
-- 18 refuses or does not
by-lent : (P : Type 0) (n room : ℕ) → (LentFits n room → P) → (0 < first_refusal (lent_refusals n room) → P) → P
by-lent P n room fits refused = ⊎_elim fits refused (eq-zero-or-pos (first_refusal (lent_refusals n room)))

pub past-the-demands-kept : PastTheDemandsKept
past-the-demands-kept case demands old =
    by-lent _ (length demands) (length old)
    (λ z. let whole = day-is-the-single-calls case demands old z in (
      ap (drop (figure_count * length demands)) whole
          ∙ drop_at (day_figures case demands) _ (figure_count * length demands) (day_figures-length case demands),
      ap length whole ∙ length-append (day_figures case demands) _
          ∙ omega (arith, day_figures-length case demands, length-drop (figure_count * length demands) old, lent-room _ _ z),
    ))
    (λ p. let same = day-refused case demands old p in rw (sym same) (refl, refl))

pub refused-day-changes-nothing : RefusedDayChangesNothing
refused-day-changes-nothing case demands old unfit =
    by-lent _ (length demands) (length old) (λ z. absurd (unfit z)) (λ p. sym (day-refused case demands old p))

pub lent-fits-exactly : LentFitsExactly
unfolding lent_unfit lent_refusals
lent-fits-exactly n room = (
  λ z. let ends = within 1 most_demands n (or_parts (outside 1 most_demands n) (ltb (room / figure_count) n)
      (none-met (lent_refusals n room) tt z).0).0 in
      (ends.0, ends.1, lent-room n room z),
  λ e. none-of (lent_refusals n room) (simp (inside 1 most_demands n e.0 e.1, le-ltb (room / figure_count) n (omega (arith, e.2))), tt),
)
