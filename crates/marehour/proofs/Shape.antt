-- The shape of the method as a host meets it (specs/Shape), by the promises of the answers and what the calls
-- hand back.
use Rattle.std.proofs.Common.{◌≡◌, ◌↔◌, ℕ, zero, suc, ◌+◌, ◌≤◌, ◌<◌, Result, Ok, Err, List, [], ◌∷◌, ◌++◌, length, drop, get_or, pos, neg_ℤ}
use Rattle.std.proofs.Common.{refl, sym, ap, ◌∙◌, arith, ⊎_elim, eq-zero-or-pos, lit≤, lit<}
use Rattle.std.proofs.lemmas.Grind.{common_steps}
use Rattle.refusals.specs.declared.Refusal.{Refusal}
use Rattle.refusals.specs.Numbers.{number, refusal_number}
use Rattle.refusals.proofs.NumberLaws.{number-above}
use Rattle.text.specs.Bytes.{bytes_of, newline}
use Rattle.text.specs.Parts.{on_first, parts}
use Rattle.text.specs.Buffer.{written}
use Rattle.text.specs.Decimal.{decimal_up_to, decimal, row_text}
use Rattle.text.proofs.DigitLaws.{decimal-small}
use Rattle.road.specs.declared.Case.{Case}
use Rattle.road.specs.Cases.{with_demand}
use Rattle.answer.specs.declared.evaluate.Grade.{Grade}
use Rattle.answer.specs.Answers.{answer_to, grade_figures}
use Rattle.answer.specs.Lanes.{lanes_answer, lanes_figures}
use Rattle.answer.specs.Promises.{letter_in, volume_in, Meets}
use Rattle.answer.specs.Boundary.{example_with}
use Rattle.method.specs.Boundary.{example}
use Rattle.road.specs.Refusals.{greatest_demand}
use Rattle.answer.proofs.Boundary.{example-accepted, example-figures, three-at-2643, none-at-999999}
use Rattle.answer.proofs.Instances.{heavier-accepted, no-better-letter-under-more-demand}
use Rattle.answer.proofs.Laws.{found-digit}
use Rattle.answer.proofs.AnswerLaws.{answer_to-number}
use Rattle.answer.proofs.PromiseLaws.{no-better-under-more-load, meets-up-to-the-service-volume, least-accepted-count}
use Rattle.lines.specs.Reading.{read_line}
use Rattle.lines.specs.Boundary.{printed_line, printed_line_with}
use Rattle.lines.proofs.Laws.{demand-on-a-line}
use Rattle.lines.proofs.DemandLaws.{tenth-field-is-the-demand}
use Rattle.replies.specs.Texts.{letter_byte, text_of, answer_text, longest_answer}
use Rattle.marehour.specs.Calls.{answer_call, lanes_call, count_text, count_reply, lanes_reply, call_result, content}
use Rattle.marehour.specs.Shape.{answered, letter_written, NoBetterLetterWritten, LineMeets, MeetsUpToTheWrittenVolume}
use Rattle.marehour.specs.Shape.{LanesDigitIsTheLeastCount, PrintedLineMeetsUpTo2642}
use Rattle.marehour.proofs.Laws.{answer-hands-back, lanes-hand-back, lanes-read}
use Rattle.marehour.proofs.Boundary.{line-read}

-- ---- what is written for a line
-- no refusal's number is handed back as a count
not-refused : (n count : ℕ) → 0 < n → neg_ℤ (pos n) ≡ pos count → ⊥
not-refused zero count p e = absurd (omega arith)
not-refused (suc n) count p e = cc

-- an answer with a grade is its letter's byte and a row of ten numbers
row-of : (a : Result Grade Refusal) → refusal_number a ≡ 0
    → (answer_text a ≡ row_text (letter_byte (letter_in a)) (drop 1 (grade_figures a))) × (length (drop 1 (grade_figures a)) ≡ 10)
unfolding text_of
row-of (Ok grade) z = (refl, refl)
row-of (Err r) z = absurd (omega (arith, number-above r))

first-of-row : (b : ℕ) (numbers rest : List ℕ) → get_or (row_text b numbers ++ rest) 0 0 ≡ b
unfolding row_text
first-of-row b numbers rest = refl

-- two numbers that are handed back as minus themselves
neg-injective : (m n : ℕ) → neg_ℤ (pos m) ≡ neg_ℤ (pos n) → m ≡ n
neg-injective zero zero e = refl
neg-injective zero (suc n) e = cc
neg-injective (suc m) zero e = cc
neg-injective (suc m) (suc n) e = cc

get_or-behind : (vs : List ℕ) (n : ℕ) → get_or (drop 1 vs) (4 + n) 0 ≡ get_or vs (5 + n) 0
get_or-behind [] n = grind (arith, common_steps)
get_or-behind (v ∷ vs) n = grind (arith, common_steps)

module _ (line old : List ℕ) (case : Case) (room : longest_answer ≤ length old) (read : read_line line ≡ Ok case) where
  -- the row of an answer with a grade, and its letter
  module _ (z : refusal_number (answer_to case) ≡ 0) where
    abbrev numbers : List ℕ
    numbers = drop 1 (grade_figures (answer_to case))

    abbrev text : List ℕ
    text = row_text (letter_byte (letter_in (answer_to case))) numbers

    wrote : (call_result (answer_call line (length old)) ≡ pos (length text)) × (answered line old ≡ text ++ drop (length text) old)
    wrote =
        let back = ((answer-hands-back line old).2 room case read).1 z in
        let same : answer_text (answer_to case) ≡ text = (row-of (answer_to case) z).0 in
        (rw same at back.0, rw same at back.1)

    letter-is : letter_written line old ≡ letter_byte (letter_in (answer_to case))
    letter-is = ap (λ bs. get_or bs 0 0) wrote.1 ∙ first-of-row _ numbers (drop (length text) old)

    whole : answered line old ≡ (let row = row_text (letter_written line old) numbers in row ++ drop (length row) old)
    whole = wrote.1 ∙ ap (λ b. let row = row_text b numbers in row ++ drop (length row) old) (sym letter-is)

  -- a line meets a letter exactly where its case does
  line-meets : (n : ℕ) → LineMeets line old n ↔ Meets case n
  line-meets n = (
    λ m. ⊎_elim
        (λ z. (z, omega (arith, letter-is z, m.1.1)))
        (λ p. absurd (not-refused _ m.0 p (sym (((answer-hands-back line old).2 room case read).0 _ refl p).0 ∙ m.1.0)))
        (eq-zero-or-pos (refusal_number (answer_to case))),
    λ m. (length (text m.0), ((wrote m.0).0, omega (arith, letter-is m.0, m.1))),
  )

pub no-better-letter-written : NoBetterLetterWritten
no-better-letter-written line other old kept c d room more e f ac ad same weather comparable load =
    let mine = letter-is line old c room e (answer_to-number c ∙ ac) in
    let others = letter-is other kept d more f (answer_to-number d ∙ ad) in
    let shape : letter_in (answer_to c) ≤ letter_in (answer_to d) =
    no-better-under-more-load c d ac ad same weather comparable load.0 load.1 load.2 load.3 load.4 in
    omega (arith, mine, others)

pub meets-up-to-the-written-volume : MeetsUpToTheWrittenVolume
meets-up-to-the-written-volume line old c room e a =
    let z : refusal_number (answer_to c) ≡ 0 = answer_to-number c ∙ a in (
      numbers line old c room e z,
      (
        (row-of (answer_to c) z).1,
        whole line old c room e z,
        λ other kept demand n more f h k.
            let met = line-meets other kept (with_demand c demand) more f n in
            let volume = meets-up-to-the-service-volume c a n h k demand (demand-on-a-line other (with_demand c demand) f) in
            let same : get_or (drop 1 (grade_figures (answer_to c))) (4 + n) 0 ≡ get_or (grade_figures (answer_to c)) (5 + n) 0 =
            get_or-behind (grade_figures (answer_to c)) n in
            (λ m. rw same (volume.0 (met.0 m)), λ l. met.1 (volume.1 (rw same at l))),
      ),
    )

-- ---- the lanes question
-- an answer to it, by its two bytes
by-digit : (a : Result ℕ Refusal) (old : List ℕ) (count : ℕ)
    → ((found : ℕ) → a ≡ Ok found → found ≤ 9)
    → ((call_result (count_reply a) ≡ pos 2) × (content (count_reply a) old ≡ (48 + count) ∷ newline ∷ drop 2 old))
    ↔ (lanes_figures a ≡ count ∷ [])
unfolding count_text written
by-digit (Ok found) old count digit =
    let text : count_text (found ∷ []) ≡ (48 + found) ∷ newline ∷ [] = rw (decimal-small found (omega (arith, digit found refl))) refl in (
      λ m. ap (λ n. n ∷ []) (let first = ap (λ bs. get_or bs 0 0) (sym (rw text at m.1)) in omega (arith, first)),
      λ e. let same : found ≡ count = cc in rw (text, same) (refl, refl),
    )
by-digit (Err r) old count digit = (λ m. absurd (not-refused _ 2 (number-above r) m.0), λ e. cc)

by-14 : (a : Result ℕ Refusal) → (call_result (count_reply a) ≡ neg_ℤ (pos 14)) ↔ (refusal_number a ≡ 14)
by-14 (Ok found) = (λ e. absurd (not-refused 14 _ (omega arith) (sym e)), λ e. absurd (omega arith))
by-14 (Err r) = (λ e. neg-injective (number r) 14 e, λ e. ap (λ n. neg_ℤ (pos n)) e)

pub lanes-digit-is-the-least-count : LanesDigitIsTheLeastCount
lanes-digit-is-the-least-count line old case n room e h k fit =
    let least = least-accepted-count case n h k fit in
    let reply : lanes_call line n (length old) ≡ lanes_reply n case = lanes-read line old case n room e in (
      λ count.
          let bytes = by-digit (lanes_answer case n) old count (λ found e. found-digit case n found e) in
          (λ m. (least.0 count).0 (bytes.0 (rw reply at m)), λ l. rw reply (bytes.1 ((least.0 count).1 l))),
      let refused = by-14 (lanes_answer case n) in
          (λ m. least.1.0 (refused.0 (rw reply at m)), λ none. rw reply (refused.1 (least.1.1 none))),
    )

-- ---- the printed line with another demand
with-2642 : read_line (bytes_of (printed_line_with "2642" "R")) ≡ Ok (example_with 2642)
unfolding on_first parts decimal_up_to decimal
with-2642 = tenth-field-is-the-demand (bytes_of printed_line) _ example 2642 line-read (lit≤ tt) refl

with-2643 : read_line (bytes_of (printed_line_with "2643" "R")) ≡ Ok (example_with 2643)
unfolding on_first parts decimal_up_to decimal
with-2643 = tenth-field-is-the-demand (bytes_of printed_line) _ example 2643 line-read (lit≤ tt) refl

with-999999 : read_line (bytes_of (printed_line_with "999999" "R")) ≡ Ok (example_with 999999)
unfolding on_first parts decimal_up_to decimal
with-999999 = tenth-field-is-the-demand (bytes_of printed_line) _ example 999999 line-read (lit≤ tt) refl

pub printed-line-meets-up-to-2642 : PrintedLineMeetsUpTo2642
printed-line-meets-up-to-2642 old room =
    let volume : volume_in (answer_to example) 3 ≡ 2642 = ap (λ vs. get_or vs 8 0) example-figures in
    let up-to : (demand : ℕ) → demand ≤ greatest_demand → Meets (with_demand example demand) 3 ↔ (demand ≤ volume_in (answer_to example) 3) =
    meets-up-to-the-service-volume example example-accepted 3 (lit≤ tt) (lit≤ tt) in
    let letters = no-better-letter-under-more-demand in
    let more = bytes_of (printed_line_with "2643" "R") in (
      letter-is (bytes_of printed_line) old example room line-read (answer_to-number example ∙ example-accepted)
          ∙ ap letter_byte letters.0,
      letter-is more old (example_with 2643) room with-2643 (answer_to-number (example_with 2643) ∙ heavier-accepted)
          ∙ ap letter_byte letters.1,
      (line-meets _ old (example_with 2642) room with-2642 3).1 ((up-to 2642 (lit≤ tt)).1 (omega (arith, volume))),
      λ m. let less = (up-to 2643 (lit≤ tt)).0 ((line-meets _ old (example_with 2643) room with-2643 3).0 m) in
          absurd (omega (arith, volume, less)),
      rw (lanes-read more old (example_with 2643) 3 room with-2643)
          ((by-digit (lanes_answer (example_with 2643) 3) old 3 (λ found e. found-digit (example_with 2643) 3 found e)).1 three-at-2643).1,
      (((lanes-hand-back 3 _ old).2 room (example_with 999999) with-999999).0 14 none-at-999999 (lit< tt)).0,
    )
