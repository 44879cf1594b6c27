-- What a program that answers an input line by line has appended to its output. What a reader has left and
-- what a writer holds, where it is known, is in std's words.
use Rattle.std.specs.Prelude.{ℕ, ◌≡◌, ◌⊎◌, Option, IfSome, List, [], ◌∷◌, ◌++◌}
use Rattle.std.specs.Io.KnownBytes.{Appends, Consumes, IsAtEnd}
use Rattle.text.specs.Bytes.{newline}
use Rattle.text.specs.Held.{IsHalfLine}
use Rattle.text.specs.Stream.{LineTexts, output_of}

-- LOS-4: a start of some bytes was appended, and nothing else
pub record AppendsAStart (old new : Option (List ℕ)) (bytes : List ℕ) : Type 0 where
  pub start : List ℕ
  pub rest : List ℕ
  pub splits : bytes ≡ start ++ rest
  pub appended : Appends old new start

-- LOS-4: each line is ended by its newline
abbrev pub IsWholeLines : List ℕ → Type 0
IsWholeLines bytes = (bytes ≡ []) ⊎ ((front : List ℕ) × (bytes ≡ front ++ newline ∷ []))

-- LOS-2: all of the input was read, and the texts of its lines were appended
pub record AnswersInput (t : LineTexts) (input left old new : Option (List ℕ)) : Type 0 where
  pub bytes : List ℕ
  pub read : Consumes input left bytes
  pub ended : IsAtEnd left
  pub appended : Appends old new (output_of t bytes)

-- LOS-4: a start of the texts of the input's lines was appended
abbrev pub AnswersAStart : LineTexts → Option (List ℕ) → Option (List ℕ) → Option (List ℕ) → Type 0
AnswersAStart t input old new = IfSome input (λ bytes. AppendsAStart old new (output_of t bytes))

-- LOS-4: of what was read, the whole lines were answered, and the half line after them was not
pub record AnswersWholeLines (t : LineTexts) (input left old new : Option (List ℕ)) : Type 0 where
  pub whole : List ℕ
  pub half : List ℕ
  pub read : Consumes input left (whole ++ half)
  pub ended : IsWholeLines whole
  pub unended : IsHalfLine half
  pub appended : Appends old new (output_of t whole)
