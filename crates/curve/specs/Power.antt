-- T(i), the power 1.31 of i thousandths in millionths, by whole powers.
use Rattle.std.specs.Prelude.{ℕ, ◌*◌, ◌^◌, ◌≤◌, ◌≡◌, List, Bool, nat_le, length, get_or}
use Rattle.numbers.specs.Search.{least}

-- CURVE-5, KIND-1: t millionths are at least the power 1.31 of i thousandths
unfoldable pub reaches_power : ℕ → ℕ → Bool
reaches_power i t = nat_le (i ^ 131 * 10 ^ 207) (t ^ 100)

-- CURVE-5: T(i), the least t that reaches the power of i, for i from 0 to 1,000; none of these is above
-- 1,000,000
unfoldable pub power : ℕ → ℕ
power i = least (reaches_power i) 1000001

-- CURVE-5, FORM-6: ts is the table of T, i from 0 to 1,000
abbrev pub PowerTable : List ℕ → Type 0
PowerTable ts = (length ts ≡ 1001) × ((i : ℕ) → i ≤ 1000 → get_or ts i 0 ≡ power i)
