-- The bytes of an input that are held: which lines are answered, what is carried over, what is held for what
-- was read.
use Rattle.std.specs.Prelude.{ℕ, suc, ◌≡◌, ◌<◌, ◌⊎◌, ◌+◌, ◌-◌, if◌then◌else◌, List, [], ◌∷◌, ◌++◌, nat_lt, length, take, drop}
use Rattle.text.specs.Bytes.{newline}
use Rattle.text.specs.Parts.{parts, count_before}
use Rattle.text.specs.Stream.{LineTexts, output_of}

-- ---- one turn
-- LOS-1: the parts that a newline ends: all but the last
unfoldable pub ended_parts : List (List ℕ) → List (List ℕ)
ended_parts [] = []
ended_parts (p ∷ []) = []
ended_parts (p ∷ q ∷ ps) = p ∷ ended_parts (q ∷ ps)

-- LOS-3: of the lines ls, those that are answered in a buffer with this room: each while there is room for
-- the longest text
unfoldable pub fitting : LineTexts → ℕ → List (List ℕ) → List (List ℕ)
fitting t room [] = []
fitting t room (l ∷ ls) =
    if nat_lt room t.longest_text then [] else l ∷ fitting t (room - length (t.text l)) ls

-- LOS-3: the lines of some bytes that a turn answers
unfoldable pub answered : LineTexts → ℕ → List ℕ → List (List ℕ)
answered t room bytes = fitting t room (ended_parts (parts newline bytes))

-- LOS-3: how many bytes the lines ls have, with their newlines
unfoldable pub size : List (List ℕ) → ℕ
size [] = 0
size (l ∷ ls) = length l + 1 + size ls

-- LOS-3, LINE-5: bytes with no newline, cut to so many; others as they are
unfoldable pub cut_off : ℕ → List ℕ → List ℕ
cut_off kept bytes = if nat_lt (count_before newline bytes) (length bytes) then bytes else take kept bytes

-- LOS-3, LINE-5: what a turn carries over: the bytes that it did not answer, but of a half line that is too
-- long only one byte more than the longest line, enough to tell that it is too long
unfoldable pub carried : LineTexts → ℕ → List ℕ → List ℕ
carried t room bytes = cut_off (suc t.longest_line) (drop (size (answered t room bytes)) bytes)

-- ---- what is held stands for all that was read
-- LOS-3: the last of some parts
unfoldable pub last_part : List (List ℕ) → List ℕ
last_part [] = []
last_part (p ∷ []) = p
last_part (p ∷ q ∷ ps) = last_part (q ∷ ps)

-- LOS-3: the half line at the end of some bytes: what follows their last newline
unfoldable pub half_line : List ℕ → List ℕ
half_line bytes = last_part (parts newline bytes)

-- LOS-3, LOS-4: bytes with no newline
abbrev pub IsHalfLine : List ℕ → Type 0
IsHalfLine bytes = count_before newline bytes ≡ length bytes

-- LOS-3, LINE-5: one line, or two that are too long
abbrev pub SameLine : LineTexts → List ℕ → List ℕ → Type 0
SameLine t l m = (l ≡ m) ⊎ ((t.longest_line < length l) × (t.longest_line < length m))

-- LOS-3: once out is printed, the bytes held stand for the bytes read: whatever follows, the same is printed,
-- and both end in one half line, or in two that are too long
pub record StandsFor (t : LineTexts) (read held out : List ℕ) : Type 0 where
  pub prints : (more : List ℕ) → output_of t (read ++ more) ≡ out ++ output_of t (held ++ more)
  pub half : SameLine t (half_line read) (half_line held)
