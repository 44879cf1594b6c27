-- Interpolation over a row (specs/Interpolation).
use Rattle.std.proofs.Common.{◌≡◌, List, ℕ, zero, suc, ◌+◌, ◌*◌, ◌-◌, ◌/◌, ◌%◌, ◌≤◌, ◌<◌, arith, div-add-mod', mod-lt, mul_comm}
use Rattle.std.proofs.Common.{mul-le-mul_left, get_or}
use Rattle.std.proofs.Math.Decide.{dec_le}
use Rattle.std.proofs.Math.Nat.{div-eq_of_lt-le, add-mul-div_right, mul-sub}
use Rattle.numbers.specs.Division.{div_up}
use Rattle.numbers.proofs.DivisionLaws.{div_up-suc}
use Rattle.road.specs.Interpolation.{entry_before, entry_after, weighted_sum, interpolated}

-- t tenths past entry j, short of the next
module _ (step j : ℕ) where
  place : (t : ℕ) → t < step → (j * step + t) / step ≡ j
  place t h = div-eq_of_lt-le step (omega arith) (omega arith)

  past : (t : ℕ) → t < step → (j * step + t) % step ≡ t
  past t h =
      let whole : (j * step + t) / step * step + (j * step + t) % step ≡ j * step + t = div-add-mod' (j * step + t) step in
      let at : j * step + (j * step + t) % step ≡ j * step + t = rw (place t h) at whole in
      omega arith

  next : (t : ℕ) → suc t < step → div_up (j * step + suc t) step ≡ suc j
  next t h =
      let before : j * step + suc t - 1 ≡ j * step + t = omega arith in
      rw (div_up-suc (j * step + suc t) step (omega arith) (omega arith), before, place t (omega arith)) (omega arith)

abbrev Straight : List ℕ → ℕ → ℕ → ℕ → Type 0
Straight row step j t = weighted_sum row step (j * step + t) ≡ get_or row j 0 * (step - t) + get_or row (suc j) 0 * t

within : (row : List ℕ) (step j t : ℕ) → t < step → Straight row step j t
unfolding entry_before entry_after weighted_sum
within row step j zero h = simp (place step j 0 h, past step j 0 h) (omega arith)
within row step j (suc t) h = simp (place step j (suc t) h, past step j (suc t) h, next step j t h)

-- from each entry to the next it is the straight line, both ends included
pub weighted_sum-between : (row : List ℕ) (step j t : ℕ) → 0 < step → t ≤ step → Straight row step j t
weighted_sum-between row step j t p h = go (dec_le (suc t) step)
  where
    go : Dec (suc t ≤ step) → Straight row step j t
    go (yes k) = within row step j t k
    go (no k) =
        let e : t ≡ step = omega arith in
        let at : j * step + step ≡ suc j * step + 0 = omega arith in
        let none : step - step ≡ 0 = omega arith in
        let all : step - 0 ≡ step = omega arith in
        rw (e, at, none, within row step (suc j) 0 p, all) (omega arith)

-- over rising entries, the one before x and the one after
pub interpolated-rise : (row : List ℕ) (step x : ℕ) → 0 < step → get_or row (x / step) 0 ≤ get_or row (div_up x step) 0
    → interpolated row step x
    ≡ get_or row (x / step) 0 + (get_or row (div_up x step) 0 - get_or row (x / step) 0) * (x % step) / step
unfolding entry_before entry_after weighted_sum interpolated
interpolated-rise row step x p h = rise (get_or row (x / step) 0) (get_or row (div_up x step) 0) (x % step) h (mod-lt x p)
  where
    rise : (b a t : ℕ) → b ≤ a → t < step → (b * (step - t) + a * t) / step ≡ b + (a - b) * t / step
    rise b a t k l =
        let within : t ≤ step = omega arith in
        let parts : b * (step - t) + a * t ≡ (a - b) * t + b * step =
        omega (arith, mul-sub b step t, mul-le-mul_left b within, mul_comm (a - b) t, mul-sub t a b, mul-le-mul_left t k) in
        rw (parts, add-mul-div_right ((a - b) * t) b p) (omega arith)
