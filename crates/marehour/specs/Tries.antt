-- What the call that counts the tried demands hands back, and its laws, stated; proofs/TriesLaws proves them.
use Rattle.std.specs.Prelude.{◌≡◌, Result, Ok, Err, List, ℕ, ◌≤◌, ◌<◌, ℤ, pos, neg_ℤ, length}
use Rattle.text.specs.Bytes.{bytes_of}
use Rattle.road.specs.declared.Case.{Case}
use Rattle.method.specs.Refusals.{refusal, Accepted}
use Rattle.answer.specs.declared.evaluate.Grade.{Grade}
use Rattle.answer.specs.Answers.{answer_to}
use Rattle.answer.specs.Tries.{demands_tried, counted_answer}
use Rattle.refusals.specs.declared.Refusal.{Refusal}
use Rattle.refusals.specs.Numbers.{number}
use Rattle.lines.specs.Reading.{read_line}
use Rattle.lines.specs.Boundary.{printed_line}

-- CALL-10: the count of tried demands where the answer is a grade, else minus the refusal's number
abbrev pub tries_result : Result Grade Refusal → ℕ → ℤ
tries_result (Ok grade) tries = pos tries
tries_result (Err r) tries = neg_ℤ (pos (number r))

-- CALL-10: what the call hands back for a line that was read: the count for its case, or minus the number of
-- what refuses line or case
abbrev pub line_tries : Result Case Refusal → ℤ
line_tries (Ok case) = tries_result (answer_to case) (counted_answer case).tries
line_tries (Err r) = neg_ℤ (pos (number r))

-- CALL-10: what the call hands back for a line
abbrev pub tries_call : List ℕ → ℤ
tries_call line = line_tries (read_line line)

-- CALL-10, TRIES-3: minus 15 where the line is malformed; else the count of the tried demands, from 1 to 80,
-- or minus the refusal of its case
abbrev pub TriesHandBack : Type 0
TriesHandBack =
    (line : List ℕ)
    → ((r : Refusal) → read_line line ≡ Err r → tries_call line ≡ neg_ℤ (pos 15))
    × ((case : Case) → read_line line ≡ Ok case
    → (Accepted case
    → let tries = length (demands_tried case) in (tries_call line ≡ pos tries) × (1 ≤ tries) × (tries ≤ 80))
    × ((n : ℕ) → refusal case ≡ n → 0 < n → tries_call line ≡ neg_ℤ (pos n)))

-- CALL-10, TRIES-3: 67 for the printed line, and minus 15 for a line of one field
abbrev pub TriesOfLines : Type 0
TriesOfLines = (tries_call (bytes_of printed_line) ≡ pos 67) × (tries_call (bytes_of "F") ≡ neg_ℤ (pos 15))
