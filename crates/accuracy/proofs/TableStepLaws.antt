-- The step of the table of powers, by one test that is computed over all its entries.
use Rattle.std.proofs.Common.{◌≡◌, refl, Bool, ℕ, zero, suc, ◌+◌, ◌*◌, ◌-◌, ◌^◌, ◌≤◌, zero-le, arith, le_of_lt, lt_of_not-le, T, leb, leb→le, get_or}
use native.Mathlib.Decide.{dec_le}
use Rattle.numbers.specs.Table.{every_up_to}
use Rattle.numbers.proofs.TableLaws.{every_up_to-at}
use Rattle.curve.specs.Power.{power}
use Rattle.curve.proofs.PowerTable.{power_table}
use Rattle.curve.proofs.PowerLaws.{power_table-at, power-zero}
use Rattle.curve.proofs.Laws.{power-is-least}

-- the test of a step: the entry after place i is at most 1,310 above the one at i
near : ℕ → Bool
near i = leb (get_or power_table (suc i) 0) (get_or power_table i 0 + 1310)

table-near : T (every_up_to near 999)
unfolding power_table near
table-near = tt

-- T(i + 1) is at most 1,310 above T(i)
pub step-le : (i : ℕ) → suc i ≤ 1000 → power (suc i) ≤ power i + 1310
unfolding near
step-le i h =
    rw (power_table-at i (omega arith), power_table-at (suc i) h)
    (leb→le (get_or power_table (suc i) 0) (get_or power_table i 0 + 1310) (every_up_to-at near 999 table-near i (omega arith)))

-- T(999) is 1,310 above T(998)
pub step-999 : power 999 ≡ power 998 + 1310
unfolding power_table
step-999 = rw (power_table-at 999 (omega arith), power_table-at 998 (omega arith)) refl

-- the number before T(j) does not reach the power of j; before T(0), which is 0, it is 0 too
short : (j : ℕ) → j ≤ 1000 → (power j - 1) ^ 100 ≤ j ^ 131 * 10 ^ 207
short j h = go (dec_le ((power j - 1) ^ 100) (j ^ 131 * 10 ^ 207))
  where
    go : Dec ((power j - 1) ^ 100 ≤ j ^ 131 * 10 ^ 207) → (power j - 1) ^ 100 ≤ j ^ 131 * 10 ^ 207
    go (yes l) = l
    go (no l) =
        let least : power j ≤ power j - 1 = (power-is-least j h).1 (power j - 1) (le_of_lt (lt_of_not-le l)) in
        let none : power j - 1 ≡ 0 = omega arith in
        rw none zero-le

step-before : (i : ℕ) → i ≤ 1000 → power i ≤ power (i - 1) + 1310
step-before zero h = omega (arith, power-zero)
step-before (suc i) h = let e : suc i - 1 ≡ i = omega arith in rw e (step-le i h)

-- T(i) less 1,311 is at most the power 1.31 of the place before i; of T(0) and T(1) nothing is left
pub step-reaches : (i : ℕ) → i ≤ 1000
    → ((power (i - 1) - 1) ^ 100 ≤ (i - 1) ^ 131 * 10 ^ 207) × (power i ≤ power (i - 1) - 1 + 1311)
step-reaches i h = (short (i - 1) (omega arith), omega (arith, step-before i h))
