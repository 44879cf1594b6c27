-- Text as bytes.
use Rattle.std.specs.Prelude.{ℕ, List, [], ◌∷◌}
use Prim.Native.Char.{code}
use Prim.Native.String.{String, [] as empty, ◌∷◌ as ◌before◌}

-- LINE-1, LINE-3: the bytes of a text in ASCII
abbrev pub bytes_of : String → List ℕ
bytes_of empty = []
bytes_of (c before s) = code c ∷ bytes_of s

-- LINE-1, TEXT-2, TEXT-3: the byte that parts fields, and figures
abbrev pub tab : ℕ
tab = code "\t"

-- LOS-1, TEXT-2, TEXT-3: the byte that ends a line, and a text
abbrev pub newline : ℕ
newline = code "\n"
