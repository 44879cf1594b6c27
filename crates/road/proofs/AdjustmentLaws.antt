-- What is taken off a base speed (specs/Adjustments): how much at most, and never more with more lanes. What
-- is said of a row's line is a test, computed at every tenth.
use Rattle.std.proofs.Common.{◌≡◌, Bool, List, ℕ, ◌*◌, ◌-◌, ◌/◌, ◌≤◌, min, arith, mul-le-mul, mul-le-mul_left, le_refl, le_trans, le-leb, T}
use Rattle.std.proofs.Common.{leb, eqb, leb→le, eqb→eq, get_or}
use Rattle.std.proofs.Math.Decide.{dec_le}
use Rattle.std.proofs.lemmas.Bool.{lt-leb}
use Rattle.std.proofs.lemmas.Bool.Decides.{nat_tests}
use Rattle.numbers.specs.Division.{div_up}
use Rattle.numbers.specs.Table.{every_up_to}
use Rattle.numbers.proofs.DivisionLaws.{div_ceil-eq}
use Rattle.numbers.proofs.TableLaws.{every_up_to-at}
use Rattle.numbers.proofs.BoolLaws.{cond-all}
use Rattle.road.specs.declared.Median.{Median}
use Rattle.road.specs.Interpolation.{entry_before, entry_after, weighted_sum, interpolated}
use Rattle.road.specs.Adjustments.{lane_width_adjustment, per_missing_foot, right_clearance_row, right_clearance_adjustment}
use Rattle.road.specs.Adjustments.{counted_left_clearance, total_clearance, two_lane_row, three_lane_row, total_clearance_row}
use Rattle.road.specs.Adjustments.{total_clearance_adjustment, median_adjustment, access_adjustment}
use Rattle.road.proofs.InterpolationLaws.{interpolated-rise}

pub lane_width_adjustment-le : (w : ℕ) → lane_width_adjustment w ≤ 6600
unfolding lane_width_adjustment
lane_width_adjustment-le w = grind (arith, nat_tests)

-- what holds of the four rates holds with any lanes
per_missing_foot-all : (P : ℕ → Type 0) → P 600 → P 400 → P 200 → P 100 → (n : ℕ) → P (per_missing_foot n)
unfolding per_missing_foot
per_missing_foot-all P p600 p400 p200 p100 n = cond-all P (leb n 2) p600 (cond-all P (leb n 3) p400 (cond-all P (leb n 4) p200 p100))

pub per_missing_foot-le : (n : ℕ) → per_missing_foot n ≤ 600
per_missing_foot-le = per_missing_foot-all (λ p. p ≤ 600) (omega arith) (omega arith) (omega arith) (omega arith)

per_missing_foot-antitone : (m n : ℕ) → m ≤ n → per_missing_foot n ≤ per_missing_foot m
unfolding per_missing_foot
per_missing_foot-antitone m n h = grind (arith, nat_tests)

-- a test that passes at each tenth to 60 with each of the four rates passes at any right clearance with any
-- lanes
at-rate : (p : ℕ → ℕ → Bool) → T (every_up_to (p 600) 60) → T (every_up_to (p 400) 60) → T (every_up_to (p 200) 60) → T (every_up_to (p 100) 60)
    → (r n : ℕ) → T (p (per_missing_foot n) (60 - min 60 r))
at-rate p p600 p400 p200 p100 r n =
    every_up_to-at (p (per_missing_foot n)) 60 (per_missing_foot-all (λ f. T (every_up_to (p f) 60)) p600 p400 p200 p100 n) (60 - min 60 r)
    (omega arith)

-- right_clearance_adjustment-whole, total_clearance_adjustment-whole: the interpolation rounds nothing
pub right_clearance_adjustment-whole : (r n : ℕ)
    → 10 * right_clearance_adjustment r n ≡ weighted_sum (right_clearance_row (per_missing_foot n)) 10 (60 - min 60 r)
unfolding div_up right_clearance_row entry_before entry_after weighted_sum interpolated right_clearance_adjustment
right_clearance_adjustment-whole r n =
    eqb→eq (10 * right_clearance_adjustment r n) (weighted_sum (right_clearance_row (per_missing_foot n)) 10 (60 - min 60 r))
    (at-rate (λ p x. eqb (10 * interpolated (right_clearance_row p) 10 x) (weighted_sum (right_clearance_row p) 10 x)) tt tt tt tt r n)

-- right_clearance_adjustment-tenths, right_clearance_adjustment-by: a missing tenth takes off a tenth of what
-- a foot takes
pub right_clearance_adjustment-tenths : (r n : ℕ) → 10 * right_clearance_adjustment r n ≡ (60 - min 60 r) * per_missing_foot n
unfolding div_up right_clearance_row entry_before entry_after weighted_sum interpolated right_clearance_adjustment
right_clearance_adjustment-tenths r n =
    eqb→eq (10 * right_clearance_adjustment r n) ((60 - min 60 r) * per_missing_foot n)
    (at-rate (λ p x. eqb (10 * interpolated (right_clearance_row p) 10 x) (x * p)) tt tt tt tt r n)

-- by what a missing tenth takes off
pub right_clearance_adjustment-by : (r n t : ℕ) → 10 * t ≡ per_missing_foot n → (60 - min r 60) * t ≡ right_clearance_adjustment r n
right_clearance_adjustment-by r n t e =
    let x : ℕ = 60 - min 60 r in
    let same : 60 - min r 60 ≡ x = omega arith in
    let tenfold : 10 * right_clearance_adjustment r n ≡ x * (10 * t) = rw e (right_clearance_adjustment-tenths r n) in
    rw same (omega arith)

pub right_clearance_adjustment-le : (r n : ℕ) → right_clearance_adjustment r n ≤ 3600
right_clearance_adjustment-le r n =
    let product : (60 - min 60 r) * per_missing_foot n ≤ 36000 = mul-le-mul {n₂ = 60} {m₂ = 600} (omega arith) (per_missing_foot-le n) in
    omega (arith, right_clearance_adjustment-tenths r n)

-- right_clearance_adjustment-antitone, total_clearance_adjustment-antitone: with more lanes it is no more
pub right_clearance_adjustment-antitone : (r m n : ℕ) → m ≤ n → right_clearance_adjustment r n ≤ right_clearance_adjustment r m
right_clearance_adjustment-antitone r m n h =
    omega (
      arith,
      right_clearance_adjustment-tenths r m,
      right_clearance_adjustment-tenths r n,
      mul-le-mul_left (60 - min 60 r) (per_missing_foot-antitone m n h),
    )

pub counted_left_clearance-le : (m : Median) (l : ℕ) → counted_left_clearance m l ≤ 60
counted_left_clearance-le Median.Undivided l = omega arith
counted_left_clearance-le Median.Divided l = omega arith
counted_left_clearance-le Median.TwoWayLeftTurnLane l = omega arith

pub total_clearance-le : (m : Median) (r l : ℕ) → total_clearance m r l ≤ 120
unfolding total_clearance
total_clearance-le m r l = omega (arith, counted_left_clearance-le m l)

-- a test that passes at each tenth to 120 in each of the two rows passes there with any lanes
at-row : (p : List ℕ → ℕ → Bool) → T (every_up_to (p two_lane_row) 120) → T (every_up_to (p three_lane_row) 120)
    → (n x : ℕ) → x ≤ 120 → T (p (total_clearance_row n) x)
unfolding total_clearance_row
at-row p two three n x h =
    every_up_to-at (p (total_clearance_row n)) 120 (cond-all (λ row. T (every_up_to (p row) 120)) (leb n 2) two three) x h

pub total_clearance_adjustment-whole : (n s : ℕ) → 20 * total_clearance_adjustment n s ≡ weighted_sum (total_clearance_row n) 20 (120 - s)
unfolding div_up entry_before entry_after weighted_sum interpolated total_clearance_adjustment
total_clearance_adjustment-whole n s =
    eqb→eq (20 * total_clearance_adjustment n s) (weighted_sum (total_clearance_row n) 20 (120 - s))
    (at-row (λ row x. eqb (20 * interpolated row 20 x) (weighted_sum row 20 x)) tt tt n (120 - s) (omega arith))

-- the line of a row of kind M is at most 5,400
pub total_clearance_row-line-le : (n x : ℕ) → x ≤ 120 → interpolated (total_clearance_row n) 20 x ≤ 5400
unfolding div_up entry_before entry_after weighted_sum interpolated
total_clearance_row-line-le n x h =
    leb→le (interpolated (total_clearance_row n) 20 x) 5400 (at-row (λ row y. leb (interpolated row 20 y) 5400) tt tt n x h)

-- total_clearance_adjustment-le, median_adjustment-le, access_adjustment-le: the most that it is
pub total_clearance_adjustment-le : (n s : ℕ) → total_clearance_adjustment n s ≤ 5400
unfolding total_clearance_adjustment
total_clearance_adjustment-le n s = total_clearance_row-line-le n (120 - s) (omega arith)

-- with 3 lanes it is no more than with any
three_lanes-le : (n s : ℕ) → interpolated three_lane_row 20 (120 - s) ≤ total_clearance_adjustment n s
unfolding div_up entry_before entry_after weighted_sum interpolated total_clearance_adjustment
three_lanes-le n s =
    leb→le (interpolated three_lane_row 20 (120 - s)) (total_clearance_adjustment n s)
    (at-row (λ row x. leb (interpolated three_lane_row 20 x) (interpolated row 20 x)) tt tt n (120 - s) (omega arith))

pub total_clearance_adjustment-antitone : (m n s : ℕ) → m ≤ n → total_clearance_adjustment n s ≤ total_clearance_adjustment m s
unfolding total_clearance_row total_clearance_adjustment
total_clearance_adjustment-antitone m n s h = go (dec_le n 2)
  where
    go : Dec (n ≤ 2) → total_clearance_adjustment n s ≤ total_clearance_adjustment m s
    go (yes k) = simp (le-leb n 2 k, le-leb m 2 (le_trans h k)) (le_refl (interpolated two_lane_row 20 (120 - s)))
    go (no k) = rw (lt-leb n 2 (omega arith)) (three_lanes-le m s)

-- the entries on both sides of x: the first is no more than the second, and that is at most 5,400
pub total_clearance_row-rises : (n x : ℕ) → x ≤ 120
    → get_or (total_clearance_row n) (x / 20) 0 ≤ get_or (total_clearance_row n) (div_up x 20) 0
unfolding div_up
total_clearance_row-rises n x h =
    leb→le (get_or (total_clearance_row n) (x / 20) 0) (get_or (total_clearance_row n) (div_up x 20) 0)
    (at-row (λ row y. leb (get_or row (y / 20) 0) (get_or row (div_up y 20) 0)) tt tt n x h)

pub total_clearance_row-after-le : (n x : ℕ) → x ≤ 120 → get_or (total_clearance_row n) (div_up x 20) 0 ≤ 5400
unfolding div_up
total_clearance_row-after-le n x h =
    leb→le (get_or (total_clearance_row n) (div_up x 20) 0) 5400 (at-row (λ row y. leb (get_or row (div_up y 20) 0) 5400) tt tt n x h)

pub median_adjustment-le : (m : Median) → median_adjustment m ≤ 1600
median_adjustment-le Median.Undivided = omega arith
median_adjustment-le Median.Divided = omega arith
median_adjustment-le Median.TwoWayLeftTurnLane = omega arith

pub access_adjustment-le : (p : ℕ) → access_adjustment p ≤ 10000
unfolding access_adjustment
access_adjustment-le p = omega arith

-- ---- for tactics
-- the most that each is, and what a missing tenth takes off
pub ruleset adjustment_laws = (
  lane_width_adjustment-le,
  per_missing_foot-le,
  right_clearance_adjustment-le,
  counted_left_clearance-le,
  total_clearance-le,
  total_clearance_adjustment-le,
  total_clearance_row-line-le,
  median_adjustment-le,
  access_adjustment-le,
  right_clearance_adjustment-by,
)

-- of a place in a row of kind M
pub ruleset line_laws = (
  div_ceil-eq,
  total_clearance_row-rises,
  total_clearance_row-after-le,
  total_clearance_row-line-le,
  interpolated-rise,
)
