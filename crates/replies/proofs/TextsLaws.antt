-- Answers as text (specs/Texts).
use Rattle.std.proofs.Common.{◌≡◌, ℕ, ◌≤◌, ◌<◌, Result, Ok, Err, List, [], ◌∷◌, length, ap, arith}
use mathlib.Core.List.{flat_map}
use Prim.Native.Char.{code}
use Rattle.numbers.specs.Bounds.{AllAtMost}
use Rattle.refusals.specs.declared.Refusal.{Refusal}
use Rattle.refusals.specs.Numbers.{number, refusal_of}
use Rattle.refusals.proofs.NumberLaws.{ok_unless-by}
use Rattle.text.specs.Decimal.{decimal_up_to, decimal, figures_text}
use Rattle.text.proofs.RowLaws.{row_text-length, row_text-one, figures_text-mono}
use Rattle.road.specs.declared.Case.{Case}
use Rattle.method.specs.Refusals.{refusal}
use Rattle.answer.specs.declared.evaluate.Grade.{Grade}
use Rattle.answer.specs.Answers.{graded, answer_to, grade_figures}
use Rattle.answer.specs.Laws.{figure_ends}
use Rattle.answer.proofs.Laws.{figures-within-ends}
use Rattle.answer.proofs.AnswerLaws.{answer_to-accepted}
use Rattle.text.proofs.BlockLaws.{last-one}
use Rattle.lines.specs.Reading.{longest_line, read_line}
use Rattle.lines.proofs.ReadingLaws.{read_line-by, read_line-long}
use Rattle.replies.specs.Texts.{letter_byte, refusal_text, text_of, answer_text, longest_answer, answer_of, line_text}

-- ---- by what was read
-- what is printed for a line that is refused
pub line_text-refused : (bs : List ℕ) (r : Refusal) → read_line bs ≡ Err r → line_text bs ≡ refusal_text (number r)
unfolding text_of line_text
line_text-refused bs r e = ap (λ a. answer_text (answer_of a)) e

-- what is printed for a line that is a case
pub line_text-case : (bs : List ℕ) (case : Case) → read_line bs ≡ Ok case → line_text bs ≡ answer_text (answer_to case)
unfolding line_text
line_text-case bs case e = ap (λ r. answer_text (answer_of r)) e

-- lines of more than 80 bytes all get the same
pub line_text-long : (bs : List ℕ) → longest_line < length bs → line_text bs ≡ refusal_text 15
line_text-long bs h = line_text-refused bs _ (read_line-long bs h)

-- ---- how long it is
-- a refusal has at most 64 bytes
pub refusal_text-le : (n : ℕ) → length (refusal_text n) ≤ longest_answer
unfolding refusal_text
refusal_text-le n = omega (arith, row_text-one (code "X") n)

-- figures that keep to their ends have at most 63 bytes
figures-le : (number : ℕ) (vs : List ℕ) → AllAtMost vs figure_ends → length (text_of number vs) ≤ longest_answer
unfolding flat_map decimal_up_to decimal figures_text text_of
figures-le number [] h = absurd h
figures-le number (letter ∷ figures) h = omega (arith, row_text-length (letter_byte letter) figures, figures_text-mono figures _ h.1)

-- so has an answer
pub answer_text-le : (case : Case) → length (answer_text (answer_to case)) ≤ longest_answer
unfolding text_of
answer_text-le case =
    ok_unless-by (refusal case) (graded case) (λ a. length (answer_text a) ≤ longest_answer)
    (λ a. figures-le 0 (grade_figures (Ok (graded case))) (rw (answer_to-accepted case a) at (figures-within-ends case a)))
    (λ p. refusal_text-le (number (refusal_of (refusal case))))

-- so has what is printed for a line
pub line_text-le : (bs : List ℕ) → length (line_text bs) ≤ longest_answer
unfolding text_of line_text
line_text-le bs = read_line-by (λ r. length (answer_text (answer_of r)) ≤ longest_answer) answer_text-le (refusal_text-le 15) bs

-- no text is empty
text-pos : (number : ℕ) (vs : List ℕ) → 0 < length (text_of number vs)
unfolding refusal_text text_of
text-pos number [] = omega (arith, row_text-length (code "X") (number ∷ []))
text-pos number (letter ∷ figures) = omega (arith, row_text-length (letter_byte letter) figures)

-- nor an answer
pub answer_text-pos : (a : Result Grade Refusal) → 0 < length (answer_text a)
answer_text-pos a = text-pos _ _

-- nor what is printed for a line
pub line_text-pos : (bs : List ℕ) → 0 < length (line_text bs)
unfolding line_text
line_text-pos bs = text-pos _ _

-- what answer_line asks for
pub ruleset by_line = (line_text-refused, line_text-case, refusal_text-le, answer_text-le)

-- what answer_last asks for
pub ruleset by_last = (last-one, line_text-le)
