-- Runs over an input that comes in pieces, and what they print, for any text of a line and any longest line.
use Rattle.std.specs.Prelude.{ℕ, ◌≤◌, ◌<◌, ◌≡◌, List, [], ◌∷◌, ◌++◌, length}
use Rattle.text.specs.Bytes.{newline}
use Rattle.text.specs.Parts.{count_before}
use Rattle.text.specs.Stream.{LineTexts, texts, last_line, output_of}
use Rattle.text.specs.Held.{answered, carried}

-- LOS-3: a run that holds some bytes, with some pieces still to come, prints out from there on
-- feed: a piece comes in
-- turn: whole lines are answered, and the rest is carried over
-- end: the input has ended, and what is left is the last line, if it is one
pub data Run (t : LineTexts) (room : ℕ) : List ℕ → List (List ℕ) → List ℕ → Type 0 where
  feed : (held piece : List ℕ) (pieces : List (List ℕ)) (out : List ℕ)
      → Run t room (held ++ piece) pieces out → Run t room held (piece ∷ pieces) out
  turn : (held : List ℕ) (pieces : List (List ℕ)) (out : List ℕ) → Run t room (carried t room held) pieces out
      → Run t room held pieces (texts t (answered t room held) ++ out)
  end : (held : List ℕ) → count_before newline held ≡ length held
      → Run t room held [] (texts t (last_line held))

-- LOS-3: the pieces ps, one after the other
unfoldable pub joined_pieces : List (List ℕ) → List ℕ
joined_pieces [] = []
joined_pieces (p ∷ ps) = p ++ joined_pieces ps

-- LOS-3, LINE-5: lines that are too long all get the same text
abbrev pub TooLongAlike : LineTexts → Type 0
TooLongAlike t = (l m : List ℕ) → t.longest_line < length l → t.longest_line < length m → t.text l ≡ t.text m

-- LOS-3: where lines that are too long all get one text, whatever pieces the input comes in, a run from an
-- empty start prints the texts of its lines
abbrev pub AnyPieces : Type 0
AnyPieces =
    (t : LineTexts) → TooLongAlike t → (room : ℕ) (pieces : List (List ℕ)) (out : List ℕ)
    → Run t room [] pieces out → out ≡ output_of t (joined_pieces pieces)

-- LOS-3: for any pieces there is a run from an empty start, where the longest text has room
abbrev pub SomeRun : Type 0
SomeRun =
    (t : LineTexts) (room : ℕ) → t.longest_text ≤ room → (pieces : List (List ℕ))
    → (out : List ℕ) × Run t room [] pieces out
