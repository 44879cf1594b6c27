-- An input answered line by line, for any text of a line.
use Rattle.std.specs.Prelude.{ℕ, if◌then◌else◌, ◌==◌, length}
use mathlib.Core.List.{List, [], ◌∷◌, flat_map}
use Rattle.text.specs.Bytes.{newline}
use Rattle.text.specs.Parts.{parts}

-- LOS-2, LOS-3: the text printed for a line, the most bytes that a text has, and the most bytes of a line
-- that is not too long
pub record LineTexts : Type 0 where
  pub text : List ℕ → List ℕ
  pub longest_text : ℕ
  pub longest_line : ℕ

-- LOS-2: the texts of the lines ls, one after the other
unfoldable pub texts : LineTexts → List (List ℕ) → List ℕ
texts t ls = flat_map t.text ls

-- LOS-1: the line that a last part without newline is: none where it is empty
unfoldable pub last_line : List ℕ → List (List ℕ)
last_line p = if length p == 0 then [] else p ∷ []

-- LOS-1: the parts ps but for a last one that is empty
unfoldable pub without_empty_last : List (List ℕ) → List (List ℕ)
without_empty_last [] = []
without_empty_last (p ∷ []) = last_line p
without_empty_last (p ∷ q ∷ ps) = p ∷ without_empty_last (q ∷ ps)

-- LOS-1: the lines of an input: an empty line counts, and an empty input has none
unfoldable pub lines_of : List ℕ → List (List ℕ)
lines_of input = without_empty_last (parts newline input)

-- LOS-2: what is printed for an input, one text a line
unfoldable pub output_of : LineTexts → List ℕ → List ℕ
output_of t input = texts t (lines_of input)
