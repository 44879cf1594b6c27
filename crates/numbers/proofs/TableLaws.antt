-- A test of every entry of a table, and of every number up to an end (specs/Table).
use Rattle.std.proofs.Common.{◌≡◌, ◌∙◌, subst, sym, Bool, List, [], ◌∷◌, ℕ, zero, suc, ◌+◌, ◌≤◌, ◌<◌, arith, le_refl, add-zero, zero-add}
use Rattle.std.proofs.Common.{add-suc, suc-add, le_of_suc-le-suc, not-suc-le-zero, T, length, get_or}
use Rattle.std.proofs.Math.Decide.{dec_le}
use Rattle.numbers.specs.Table.{every_from, every_entry, every_up_to}
use Rattle.numbers.proofs.BoolLaws.{and-both, and-left, and-right}

every_from-at : (f : ℕ → ℕ → ℕ → Bool) (xs : List ℕ) (i before : ℕ) → T (every_from f i before xs)
    → (k : ℕ) → k < length xs → T (f (i + k) (get_or (before ∷ xs) k 0) (get_or xs k 0))
every_from-at f [] i before t k h = absurd (not-suc-le-zero h)
every_from-at f (x ∷ xs) i before t zero h =
    subst (λ (m : ℕ). T (f m before x)) (sym (add-zero i)) (and-left (f i before x) (every_from f (suc i) x xs) t)
every_from-at f (x ∷ xs) i before t (suc k) h =
    subst (λ (m : ℕ). T (f m (get_or (x ∷ xs) k 0) (get_or xs k 0))) (suc-add i k ∙ sym (add-suc i k))
    (every_from-at f xs (suc i) x (and-right (f i before x) (every_from f (suc i) x xs) t) k (le_of_suc-le-suc h))

-- the test passes at each place
pub every_entry-at : (f : ℕ → ℕ → ℕ → Bool) (xs : List ℕ) → T (every_entry f xs)
    → (k : ℕ) → k < length xs → T (f k (get_or (0 ∷ xs) k 0) (get_or xs k 0))
every_entry-at f xs t k h =
    subst (λ (m : ℕ). T (f m (get_or (0 ∷ xs) k 0) (get_or xs k 0))) (zero-add k) (every_from-at f xs 0 0 t k h)

-- every_up_to-at, every_up_to-of: the test passes at each number; the converse
pub every_up_to-at : (p : ℕ → Bool) (n : ℕ) → T (every_up_to p n) → (k : ℕ) → k ≤ n → T (p k)
every_up_to-at p zero t k h = let e : k ≡ 0 = omega arith in rw e t
every_up_to-at p (suc n) t k h =
    go (every_up_to-at p n (and-right (p (suc n)) (every_up_to p n) t) k) (dec_le k n)
  where
    go : (k ≤ n → T (p k)) → Dec (k ≤ n) → T (p k)
    go below (yes b) = below b
    go below (no b) = let e : k ≡ suc n = omega arith in rw e (and-left (p (suc n)) (every_up_to p n) t)

pub every_up_to-of : (p : ℕ → Bool) (n : ℕ) → ((k : ℕ) → k ≤ n → T (p k)) → T (every_up_to p n)
every_up_to-of p zero all = all 0 (le_refl 0)
every_up_to-of p (suc n) all =
    and-both (p (suc n)) (every_up_to p n) (all (suc n) (le_refl (suc n))) (every_up_to-of p n (λ k h. all k (omega arith)))
