-- The ramp term (specs/RampTerm). FORM-8: the table's rule, by one test that is computed over all 49 entries.
use Rattle.std.proofs.Common.{◌≡◌, refl, Bool, ◌&&◌, ℕ, zero, suc, ◌+◌, ◌*◌, ◌-◌, ◌^◌, ◌≤◌, ◌<◌, arith, T, leb, ltb}
use Rattle.std.proofs.Common.{leb→le, ltb→lt, eqb→eq, le_trans, le_antisymm, lt_of_lt_of_le, lt_irrefl, mul-le-mul_left, mul-le-mul_right}
use Rattle.std.proofs.Common.{lit≤, get_or, length}
use Rattle.std.proofs.Math.Decide.{dec_le}
use Rattle.std.proofs.Math.Nat.{pow-le-pow_left}
use Rattle.numbers.specs.Table.{every_entry}
use Rattle.numbers.proofs.SearchLaws.{greatest-le, greatest-eq}
use Rattle.numbers.proofs.BoolLaws.{and-left, and-right}
use Rattle.numbers.proofs.TableLaws.{every_entry-at}
use Rattle.road.specs.RampTerm.{is_ramp_term, ramp_term}
use Rattle.road.specs.Laws.{RampTermIsNearest}
use Rattle.road.proofs.RampTable.{ramp_table}

-- the test of an entry t at place k: it is the term of k ramps
fits : ℕ → ℕ → ℕ → Bool
fits k before t = leb t 19000 && is_ramp_term k t

table-fits : T (every_entry fits ramp_table)
unfolding ramp_table fits is_ramp_term
table-fits = tt

table-length : length ramp_table ≡ 49
unfolding ramp_table
table-length = refl

-- the two halves of the rule, with one ramp or more
rounds_to : (k t : ℕ) → T (is_ramp_term (suc k) t)
    → ((2 * t - 1) ^ 25 * 6 ^ 21 ≤ 6440 ^ 25 * suc k ^ 21) × (6440 ^ 25 * suc k ^ 21 < (2 * t + 1) ^ 25 * 6 ^ 21)
unfolding is_ramp_term
rounds_to k t e =
    let exact = 6440 ^ 25 * suc k ^ 21 in
    let low = (2 * t - 1) ^ 25 * 6 ^ 21 in
    let high = (2 * t + 1) ^ 25 * 6 ^ 21 in (
      leb→le low exact (and-left (leb low exact) (ltb exact high) e),
      ltb→lt exact high (and-right (leb low exact) (ltb exact high) e),
    )

-- of two numbers that fit the rule the first is not the greater
is_ramp_term-le : (k s t : ℕ) → T (is_ramp_term k s) → T (is_ramp_term k t) → s ≤ t
unfolding is_ramp_term
is_ramp_term-le zero s t p q = omega (arith, eqb→eq s 0 p)
is_ramp_term-le (suc k) s t p q = go (dec_le s t)
  where
    go : Dec (s ≤ t) → s ≤ t
    go (yes l) = l
    go (no l) =
        let next : 2 * t + 1 ≤ 2 * s - 1 = omega arith in
        let reached = le_trans (mul-le-mul_right (6 ^ 21) (pow-le-pow_left next 25)) (rounds_to k s p).0 in
        absurd (lt_irrefl (6440 ^ 25 * suc k ^ 21) (lt_of_lt_of_le (rounds_to k t q).1 reached))

is_ramp_term-unique : (k s t : ℕ) → T (is_ramp_term k s) → T (is_ramp_term k t) → s ≡ t
is_ramp_term-unique k s t p q = le_antisymm (is_ramp_term-le k s t p q) (is_ramp_term-le k t s q p)

-- the exact term of one ramp is above half a thousandth, and so is that of more
is_ramp_term-pos : (k t : ℕ) → 1 ≤ k → T (is_ramp_term k t) → 1 ≤ t
is_ramp_term-pos zero t h e = absurd (omega arith)
is_ramp_term-pos (suc k) zero h e =
    let one : (2 * 0 + 1) ^ 25 * 6 ^ 21 ≤ 6440 ^ 25 * 1 ^ 21 = lit≤ tt in
    let more = le_trans one (mul-le-mul_left (6440 ^ 25) (pow-le-pow_left h 21)) in
    absurd (lt_irrefl (6440 ^ 25 * suc k ^ 21) (lt_of_lt_of_le (rounds_to k 0 e).1 more))
is_ramp_term-pos (suc k) (suc t) h e = omega arith

-- it is t where t fits the rule
pub ramp_term-eq : (k t : ℕ) → t ≤ 19000 → T (is_ramp_term k t) → ramp_term k ≡ t
unfolding ramp_term
ramp_term-eq k t h e = greatest-eq (is_ramp_term k) 19000 t h e (λ s l u p. omega (arith, is_ramp_term-unique k s t p e))

-- it is at most 19,000
pub ramp_term-le : (k : ℕ) → ramp_term k ≤ 19000
unfolding ramp_term
ramp_term-le k = greatest-le (is_ramp_term k) 19000

module _ (k : ℕ) (h : k ≤ 48) where
  entry : ℕ
  entry = get_or ramp_table k 0

  entry-fits : T (leb entry 19000 && is_ramp_term k entry)
  unfolding entry fits
  entry-fits = every_entry-at fits ramp_table table-fits k (omega (arith, table-length))

  entry-term : T (is_ramp_term k entry)
  entry-term = and-right (leb entry 19000) (is_ramp_term k entry) entry-fits

  -- the entry at k is the term of k ramps
  pub ramp_table-at : ramp_term k ≡ get_or ramp_table k 0
  unfolding entry
  ramp_table-at = ramp_term-eq k entry (leb→le entry 19000 (and-left (leb entry 19000) (is_ramp_term k entry) entry-fits)) entry-term

  ramp_term-fits : T (is_ramp_term k (ramp_term k))
  unfolding entry
  ramp_term-fits = rw ramp_table-at entry-term

-- with up to 48 ramps it fits the rule, no other number does, and with one or more it is above 0
pub ramp_term-nearest : RampTermIsNearest
ramp_term-nearest k h =
    let e = ramp_term-fits k h in
    (e, λ t f. is_ramp_term-unique k t (ramp_term k) f e, λ l. is_ramp_term-pos k (ramp_term k) l e)

-- for tactics: ramp_table-at
pub ruleset table_entries = (ramp_table-at)
