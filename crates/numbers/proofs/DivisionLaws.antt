-- Division rounded up (specs/Division).
use Rattle.std.proofs.Common.{◌≡◌, ◌↔◌, ℕ, suc, ◌+◌, ◌*◌, ◌-◌, ◌/◌, ◌≤◌, ◌<◌, arith, mul-le-mul_left, div-lt_iff_lt-mul, le_antisymm}
use Rattle.std.proofs.Common.{lt_of_mul-lt-mul_right}
use Rattle.std.proofs.Math.Nat.{add-div_right}
use Rattle.std.specs.Int.{div_ceil}
use Rattle.std.proofs.lemmas.Grind.{div_ceil_times}
use Rattle.numbers.specs.Division.{div_up}

-- it is at most k exactly when a is at most k * b
pub div_up-le-iff : (a b k : ℕ) → 0 < b → (div_up a b ≤ k) ↔ (a ≤ k * b)
unfolding div_up
div_up-le-iff a b k p = (
  λ h. let l : a + (b - 1) < suc k * b = (div-lt_iff_lt-mul p).0 (omega arith) in omega arith,
  λ h. let l : div_up a b < suc k = (div-lt_iff_lt-mul p).1 (omega arith) in omega arith,
)

-- a is at most b times it
pub le-div_up : (a b : ℕ) → 0 < b → a ≤ div_up a b * b
le-div_up a b p = (div_up-le-iff a b (div_up a b) p).0 (omega arith)

-- it rises with a and falls with b
pub div_up-mono : (a b c d : ℕ) → 0 < d → a ≤ c → d ≤ b → div_up a b ≤ div_up c d
div_up-mono a b c d p h k =
    (div_up-le-iff a b (div_up c d) (omega arith)).1
    (omega (arith, le-div_up c d p, mul-le-mul_left (div_up c d) k))

-- of 0 it is 0
pub div_up-zero : (b : ℕ) → 0 < b → div_up 0 b ≡ 0
div_up-zero b p = let z : div_up 0 b ≤ 0 = (div_up-le-iff 0 b 0 p).1 (omega arith) in omega arith

-- of a number above 0: one more than the division of the number before
pub div_up-suc : (a b : ℕ) → 0 < a → 0 < b → div_up a b ≡ (a - 1) / b + 1
unfolding div_up
div_up-suc a b h p =
    let e : a + (b - 1) ≡ (a - 1) + b = omega arith in
    rw (e, add-div_right (a - 1) p)

-- what std's u64::div_ceil ensures
pub div_ceil-eq : (a b : ℕ) → 0 < b → div_ceil a b ≡ div_up a b
div_ceil-eq a b p =
    let k = div_ceil_times a b p in
    le_antisymm (let l : div_ceil a b * b < suc (div_up a b) * b = omega (arith, k.1, le-div_up a b p) in
    let m : div_ceil a b < suc (div_up a b) = lt_of_mul-lt-mul_right b l in omega arith) ((div_up-le-iff a b (div_ceil a b) p).1 k.0)

-- for tactics: the last
pub ruleset divisions = (div_ceil-eq)
