-- T (specs/Power). FORM-6: the table's rule and its rise, by one test, computed over all 1,001 entries.
use Rattle.std.proofs.Common.{◌≡◌, refl, Bool, ◌&&◌, ◌∷◌, ℕ, zero, suc, ◌*◌, ◌^◌, ◌≤◌, arith, le_trans, le_refl, T, leb, leb→le, le→leb}
use Rattle.std.proofs.Common.{get_or, length}
use Rattle.std.proofs.Math.Decide.{dec_le}
use Rattle.std.proofs.Math.Nat.{pow-le-pow_left}
use Rattle.numbers.specs.Search.{UpwardClosed, starts_at}
use Rattle.numbers.specs.Table.{every_entry}
use Rattle.numbers.proofs.SearchLaws.{least-first}
use Rattle.numbers.proofs.BoolLaws.{and-left, and-right}
use Rattle.numbers.proofs.TableLaws.{every_entry-at}
use Rattle.curve.specs.Power.{reaches_power, power}
use Rattle.curve.proofs.PowerTable.{power_table}

-- the test of an entry t at place i: it is no less than the entry before it, at most 1,000,000, and the first
-- to reach the power of i
fits : ℕ → ℕ → ℕ → Bool
fits i before t = leb before t && (leb t 1000000 && starts_at (reaches_power i) t)

table-fits : T (every_entry fits power_table)
unfolding power_table fits starts_at reaches_power
table-fits = tt

table-length : length power_table ≡ 1001
unfolding power_table
table-length = refl

reaches_power-rises : (i : ℕ) → UpwardClosed (reaches_power i)
unfolding reaches_power
reaches_power-rises i s t h e =
    le→leb (i ^ 131 * 10 ^ 207) (t ^ 100) (le_trans (leb→le (i ^ 131 * 10 ^ 207) (s ^ 100) e) (pow-le-pow_left h 100))

-- T(i) is t where t reaches the power and the number before does not
pub power-eq : (i t : ℕ) → t ≤ 1000000 → T (starts_at (reaches_power i) t) → power i ≡ t
unfolding power
power-eq i t h e = least-first (reaches_power i) 1000001 t (reaches_power-rises i) (omega arith) e

entry-fits : (i : ℕ) → i ≤ 1000 → T (fits i (get_or (0 ∷ power_table) i 0) (get_or power_table i 0))
entry-fits i h = every_entry-at fits power_table table-fits i (omega (arith, table-length))

module _ (i before t : ℕ) (e : T (fits i before t)) where
  rest : T (leb t 1000000 && starts_at (reaches_power i) t)
  unfolding fits
  rest = and-right (leb before t) (leb t 1000000 && starts_at (reaches_power i) t) e

  entry-rises : before ≤ t
  unfolding fits
  entry-rises = leb→le before t (and-left (leb before t) (leb t 1000000 && starts_at (reaches_power i) t) e)

  entry-le : t ≤ 1000000
  entry-le = leb→le t 1000000 (and-left (leb t 1000000) (starts_at (reaches_power i) t) rest)

  entry-power : power i ≡ t
  entry-power = power-eq i t entry-le (and-right (leb t 1000000) (starts_at (reaches_power i) t) rest)

-- the entry at i is T(i)
pub power_table-at : (i : ℕ) → i ≤ 1000 → power i ≡ get_or power_table i 0
power_table-at i h = entry-power i (get_or (0 ∷ power_table) i 0) (get_or power_table i 0) (entry-fits i h)

-- no T is above 1,000,000
pub power-le : (i : ℕ) → i ≤ 1000 → power i ≤ 1000000
power-le i h =
    rw (power_table-at i h) (entry-le i (get_or (0 ∷ power_table) i 0) (get_or power_table i 0) (entry-fits i h))

-- T(0) is 0
pub power-zero : power 0 ≡ 0
unfolding starts_at reaches_power
power-zero = power-eq 0 0 (omega arith) tt

-- T(i) is at most the T after it: the table's rise at the next place
power-next : (i : ℕ) → suc i ≤ 1000 → power i ≤ power (suc i)
power-next i h =
    rw (power_table-at i (omega arith), power_table-at (suc i) h)
    (entry-rises (suc i) (get_or power_table i 0) (get_or power_table (suc i) 0) (entry-fits (suc i) h))

-- T rises
pub power-mono : (i j : ℕ) → i ≤ j → j ≤ 1000 → power i ≤ power j
power-mono i zero h k = let e : i ≡ 0 = omega arith in rw e (le_refl (power 0))
power-mono i (suc j) h k = go (λ l. power-mono i j l (omega arith)) (dec_le i j)
  where
    go : (i ≤ j → power i ≤ power j) → Dec (i ≤ j) → power i ≤ power (suc j)
    go below (yes l) = le_trans (below l) (power-next j k)
    go below (no l) = let e : i ≡ suc j = omega arith in rw e (le_refl (power (suc j)))

-- for tactics: power_table-at
pub ruleset table_entries = (power_table-at)
