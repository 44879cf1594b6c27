-- Answers as text.
use Rattle.std.specs.Prelude.{ℕ, ◌+◌, ◌-◌, Result, Ok, Err, List, [], ◌∷◌}
use Prim.Native.Char.{code}
use Rattle.text.specs.Decimal.{row_text}
use Rattle.answer.specs.declared.evaluate.Grade.{Grade}
use Rattle.answer.specs.Answers.{answer_to, grade_figures}
use Rattle.road.specs.declared.Case.{Case}
use Rattle.refusals.specs.declared.Refusal.{Refusal}
use Rattle.refusals.specs.Numbers.{refusal_number}
use Rattle.lines.specs.Reading.{read_line}

-- TEXT-2, LETTER-3: the byte of letter number n: A is 1
abbrev pub letter_byte : ℕ → ℕ
letter_byte n = code "A" + n - 1

-- TEXT-3: what `los` prints for a refused line: X, tab, number and newline
unfoldable pub refusal_text : ℕ → List ℕ
refusal_text n = row_text (code "X") (n ∷ [])

-- TEXT-2, TEXT-3: the text of an answer's refusal number and values; an answer with no values is a refusal
unfoldable pub text_of : ℕ → List ℕ → List ℕ
text_of number [] = refusal_text number
text_of number (letter ∷ figures) = row_text (letter_byte letter) figures

-- TEXT-2, TEXT-3: what `los` prints for an answer
abbrev pub answer_text : Result Grade Refusal → List ℕ
answer_text a = text_of (refusal_number a) (grade_figures a)

-- TEXT-4: 64 bytes have room for any answer
abbrev pub longest_answer : ℕ
longest_answer = 64

-- LOS-2: the answer to a line that was read: to its case, or its refusal
abbrev pub answer_of : Result Case Refusal → Result Grade Refusal
answer_of (Ok c) = answer_to c
answer_of (Err r) = Err r

-- LOS-2: the answer to a line
abbrev pub line_answer : List ℕ → Result Grade Refusal
line_answer bs = answer_of (read_line bs)

-- LOS-2: what `los` prints for a line
unfoldable pub line_text : List ℕ → List ℕ
line_text bs = answer_text (line_answer bs)
