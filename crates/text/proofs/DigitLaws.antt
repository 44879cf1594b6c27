-- The digits of a number (specs/Decimal).
use Rattle.std.proofs.Common.{◌≡◌, ℕ, zero, suc, ◌+◌, ◌*◌, ◌/◌, ◌%◌, ◌^◌, ◌≤◌, ◌<◌, [], ◌∷◌, ◌++◌, length, Option, None, Some, IfSome, IfNone, sym, ap, ◌∙◌, unwrap_or, arith, length-append, pow-suc, lt-ltb, le-ltb}
use Rattle.std.proofs.lemmas.Bool.Decides.{nat_tests}
use Rattle.std.proofs.lemmas.List.{length_push}
use Rattle.std.proofs.Math.Nat.{one-le-pow}
use Rattle.text.specs.Decimal.{decimal_up_to, decimal}

-- a spare place changes nothing
spare : (k n : ℕ) → n < 10 ^ suc k → decimal_up_to (suc k) n ≡ decimal_up_to (suc (suc k)) n
unfolding decimal_up_to
spare zero n h = grind (arith, nat_tests, pow-suc 10 0)
spare (suc k) n h = grind (arith, nat_tests, spare k (n / 10), pow-suc 10 (suc k))

-- a number of one digit
pub decimal-small : (n : ℕ) → n < 10 → decimal n ≡ (48 + n) ∷ []
unfolding decimal_up_to decimal
decimal-small n h = rw (lt-ltb n 10 h)

-- a number of more: the digits of its tenth, and the last
pub decimal-more : (n : ℕ) → 10 ≤ n → n < 2 ^ 64 → decimal n ≡ decimal (n / 10) ++ ((48 + n % 10) ∷ [])
unfolding decimal_up_to decimal
decimal-more n h k = rw (le-ltb n 10 h) (ap (λ ds. ds ++ ((48 + n % 10) ∷ [])) (spare 18 (n / 10) (omega arith)))

-- ---- how many they are
length-small : (n : ℕ) → n < 10 → length (decimal n) ≡ 1
length-small n h = ap length (decimal-small n h)

length-more : (n : ℕ) → 10 ≤ n → n < 2 ^ 64 → length (decimal n) ≡ length (decimal (n / 10)) + 1
length-more n h k = ap length (decimal-more n h k) ∙ length_push (decimal (n / 10)) (48 + n % 10)

-- each has one at least
pub decimal_pos : (n : ℕ) → 0 < length (decimal n)
unfolding decimal_up_to decimal
decimal_pos n = grind (arith, nat_tests, length-append (decimal_up_to 19 (n / 10)))

-- a number from 10 ^ k up to before 10 ^ (k + 1) has k + 1 digits
length-decimal : (k n : ℕ) → 10 ^ k ≤ n → n < 10 * 10 ^ k → n < 2 ^ 64 → k + 1 ≡ length (decimal n)
length-decimal zero n l h f = sym (length-small n (omega arith))
length-decimal (suc k) n l h f =
    let p : 10 ^ suc k ≡ 10 ^ k * 10 = pow-suc 10 k in
    let o : 1 ≤ 10 ^ k = one-le-pow k 10 (omega arith) in
    omega (arith, length-decimal k (n / 10) (omega arith) (omega arith) (omega arith), length-more n (omega arith) f)

-- how many they are, by the logarithm
pub length_from_log : (n : ℕ) (log : Option ℕ) → n < 2 ^ 64 → IfNone log (n ≡ 0) → IfSome log (λ k. 10 ^ k ≤ n)
    → IfSome log (λ k. n < 10 * 10 ^ k) → unwrap_or log 0 + 1 ≡ length (decimal n)
length_from_log n None f z l h = sym (length-small n (omega arith))
length_from_log n (Some k) f z l h = length-decimal k n l h f

in-room : (k n : ℕ) → length (decimal_up_to k n) ≤ k
unfolding decimal_up_to
in-room zero n = omega arith
in-room (suc k) n = grind (arith, nat_tests, in-room k (n / 10), length-append (decimal_up_to k (n / 10)))

-- no number has more than 20
pub decimal-room : (n : ℕ) → length (decimal n) ≤ 20
unfolding decimal
decimal-room n = in-room 20 n

-- a smaller number has no more digits
decimal_up_to-mono : (k m n : ℕ) → m ≤ n → length (decimal_up_to k m) ≤ length (decimal_up_to k n)
unfolding decimal_up_to
decimal_up_to-mono zero m n h = omega arith
decimal_up_to-mono (suc k) m n h =
    grind (arith, nat_tests, decimal_up_to-mono k (m / 10) (n / 10), length-append (decimal_up_to k (m / 10)), length-append (decimal_up_to k (n / 10)))

-- a smaller number has no more
pub decimal-mono : (m n : ℕ) → m ≤ n → length (decimal m) ≤ length (decimal n)
unfolding decimal
decimal-mono m n h = decimal_up_to-mono 20 m n h
