-- The fields of a line. A letter's value is its byte.
use Rattle.std.specs.Prelude.{ℕ, ◌+◌, ◌-◌, ◌*◌, Bool, if◌then◌else◌, ◌&&◌, ◌||◌, Option, Some, None, List, [], ◌∷◌, ◌++◌}
use Rattle.std.specs.Prelude.{◌==◌, nat_le, nat_lt, length, get_or}
use Rattle.std.specs.List.{list_any}
use Prim.Native.Char.{code}
use Rattle.text.specs.Bytes.{bytes_of}
use Rattle.text.specs.Decimal.{decimal}
use Rattle.curve.specs.Weather.{clear}
use Rattle.refusals.specs.Refusals.{outside}

-- LINE-2, LINE-3: one of some letters, or a number with at most so many digits
pub data Field : Type 0 where
  letters : List ℕ → Field
  digits : ℕ → Field

-- LINE-1, LINE-2: the 15 fields: kind F or M; way E or G; speed; width; right and left clearance; median U, D
-- or T; ramps or access points; lanes; demand, with up to six digits; peak-hour factor; heavy share; terrain
-- L or R; speed and capacity factor
unfoldable pub layout : List Field
layout =
    letters (bytes_of "FM") ∷ letters (bytes_of "EG")
    ∷ digits 5 ∷ digits 5 ∷ digits 5 ∷ digits 5
    ∷ letters (bytes_of "UDT")
    ∷ digits 5 ∷ digits 5 ∷ digits 6 ∷ digits 5 ∷ digits 5
    ∷ letters (bytes_of "LR")
    ∷ digits 5 ∷ digits 5 ∷ []

-- LINE-4, WEATHER-1: the last two fields of a line that has 13: the factors of clear weather
abbrev pub clear_factors : List (List ℕ)
clear_factors = decimal clear.speed_factor ∷ decimal clear.capacity_factor ∷ []

-- LINE-4: the parts ps of a line, with the factors of clear weather behind them where they are 13
unfoldable pub completed : List (List ℕ) → List (List ℕ)
completed ps = if length ps == 13 then ps ++ clear_factors else ps

-- LINE-2: the byte b is a decimal digit
abbrev pub digit : ℕ → Bool
digit b = nat_le (code "0") b && nat_le b (code "9")

-- LINE-2: the number that the digits bs spell, read on from n; none where a byte is no digit
unfoldable pub spelled : ℕ → List ℕ → Option ℕ
spelled n [] = Some n
spelled n (b ∷ bs) = if digit b then spelled (10 * n + (b - code "0")) bs else None

-- LINE-2: bs begins with the digit 0 and has more than that
abbrev pub leading_zero : List ℕ → Bool
leading_zero bs = nat_lt 1 (length bs) && get_or bs 0 0 == code "0"

-- LINE-2: the number of one to k digits that bs is, none where it is no such; 0 begins one only as its one
-- digit
unfoldable pub number : ℕ → List ℕ → Option ℕ
number k bs = if outside 1 k (length bs) || leading_zero bs then None else spelled 0 bs

-- LINE-3: b is one of ls
abbrev pub one_of : ℕ → List ℕ → Bool
one_of b ls = list_any (λ l. l == b) ls

-- LINE-3: the letter, one of ls, that bs is; none where bs is no such letter
unfoldable pub letter : List ℕ → List ℕ → Option ℕ
letter ls bs = if length bs == 1 && one_of (get_or bs 0 0) ls then Some (get_or bs 0 0) else None

-- LINE-2, LINE-3: the value that bs has as field f, none where it is malformed
unfoldable pub field_as : Field → List ℕ → Option ℕ
field_as (letters ls) bs = letter ls bs
field_as (digits k) bs = number k bs

-- LINE-1: a field's value before those of the fields after it; none where a field is malformed
abbrev pub joined : Option ℕ → Option (List ℕ) → Option (List ℕ)
joined None vs = None
joined (Some v) None = None
joined (Some v) (Some vs) = Some (v ∷ vs)

-- LINE-1: the values of the parts ps as the fields fs, where there is a part for each and all are well formed
unfoldable pub values_of : List Field → List (List ℕ) → Option (List ℕ)
values_of [] [] = Some []
values_of [] (p ∷ ps) = None
values_of (f ∷ fs) [] = None
values_of (f ∷ fs) (p ∷ ps) = joined (field_as f p) (values_of fs ps)
