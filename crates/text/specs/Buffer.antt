-- Text, or numbers as they are, in a lent buffer.
use Rattle.std.specs.Prelude.{ℕ, ◌≡◌, List, ◌++◌, length, drop}

-- TEXT-5: a buffer that held old, with text from its start on
unfoldable pub written : List ℕ → List ℕ → List ℕ
written text old = text ++ drop (length text) old

-- TEXT-5: text was written from the start on; it has n bytes or numbers
pub record Wrote (text old new : List ℕ) (n : ℕ) : Type 0 where
  pub content : new ≡ written text old
  pub count : n ≡ length text
