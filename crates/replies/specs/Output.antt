-- What `los` prints for an input.
use Rattle.std.specs.Prelude.{ℕ, ◌≡◌, List, []}
use Rattle.lines.specs.Reading as reading
use Rattle.replies.specs.Texts.{longest_answer, line_text}
use Rattle.text.specs.Stream.{LineTexts, output_of}
use Rattle.text.specs.Runs.{Run, joined_pieces}

-- LOS-2, TEXT-4, LINE-5: the answers of lines: at most 64 bytes for each, lines of more than 80 bytes alike
abbrev pub line_texts : LineTexts
line_texts = record { text = line_text; longest_text = longest_answer; longest_line = reading.longest_line }

-- LOS-3: whatever pieces the input comes in, what is printed is the answers of its lines
abbrev pub OutputOfAnyPieces : Type 0
OutputOfAnyPieces =
    (room : ℕ) (pieces : List (List ℕ)) (out : List ℕ)
    → Run line_texts room [] pieces out → out ≡ output_of line_texts (joined_pieces pieces)
