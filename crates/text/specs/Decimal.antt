-- Numbers as text.
use Rattle.std.specs.Prelude.{ℕ, zero, suc, ◌+◌, ◌/◌, ◌%◌, if◌then◌else◌, nat_lt}
use Prim.Native.Char.{code}
use mathlib.Core.List.{List, [], ◌∷◌, ◌++◌, flat_map}
use Rattle.text.specs.Bytes.{tab, newline}

-- TEXT-1: the decimal digits of a number that has at most k of them
unfoldable pub decimal_up_to : ℕ → ℕ → List ℕ
decimal_up_to zero n = []
decimal_up_to (suc k) n =
    if nat_lt n 10 then (code "0" + n) ∷ [] else decimal_up_to k (n / 10) ++ ((code "0" + n % 10) ∷ [])

-- TEXT-1: the decimal digits of a number below 10 ^ 20
unfoldable pub decimal : ℕ → List ℕ
decimal n = decimal_up_to 20 n

-- TEXT-2, TEXT-3: each number after a tab
unfoldable pub figures_text : List ℕ → List ℕ
figures_text ns = flat_map (λ n. tab ∷ decimal n) ns

-- TEXT-2, TEXT-3: the byte b, each number after a tab, and a newline
unfoldable pub row_text : ℕ → List ℕ → List ℕ
row_text b ns = b ∷ (figures_text ns ++ (newline ∷ []))
