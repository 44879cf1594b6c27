-- What the searches find (specs/Search).
use Rattle.std.proofs.Common.{◌≡◌, refl, sym, ap, subst, ◌∙◌, Bool, true, false, cond, not, ◌↔◌, ◌⊎◌, inl, inr, ⊎_elim, T, T_not, ℕ, zero}
use Rattle.std.proofs.Common.{suc, ◌+◌, ◌≤◌, ◌<◌, zero-le, arith, le_refl, le_trans, le_antisymm}
use Rattle.std.proofs.Math.Decide.{dec_le}
use Rattle.numbers.specs.Search.{greatest, least_from, least, DownwardClosed, UpwardClosed, ends_at, starts_at}
use Rattle.numbers.proofs.BoolLaws.{and-left, and-right}

-- one step of a search downwards: it takes suc n where that passes, and what is found up to n where it does
-- not
module _ (p : ℕ → Bool) (n g : ℕ) where
  step-le : (b : Bool) → g ≤ n → cond b (suc n) g ≤ suc n
  step-le true h = le_refl (suc n)
  step-le false h = omega arith

  step-passes : (b : Bool) → p (suc n) ≡ b → T (p g) → T (p (cond b (suc n) g))
  step-passes true e t = subst T (sym e) tt
  step-passes false e t = t

  le-step : (x : ℕ) (b : Bool) → p (suc n) ≡ b → x ≤ suc n → T (p x) → (x ≤ n → x ≤ g) → x ≤ cond b (suc n) g
  le-step x true e h t below = h
  le-step x false e h t below = go (dec_le x n)
    where
      go : Dec (x ≤ n) → x ≤ g
      go (yes l) = below l
      go (no l) = let s : x ≡ suc n = omega arith in absurd (subst T (ap p s ∙ e) t)

-- it passes, where 0 passes
pub greatest-passes : (p : ℕ → Bool) (n : ℕ) → T (p 0) → T (p (greatest p n))
unfolding greatest
greatest-passes p zero t = t
greatest-passes p (suc n) t = step-passes p n (greatest p n) (p (suc n)) refl (greatest-passes p n t)

-- it is at most the bound
pub greatest-le : (p : ℕ → Bool) (n : ℕ) → greatest p n ≤ n
unfolding greatest
greatest-le p zero = le_refl 0
greatest-le p (suc n) = step-le p n (greatest p n) (p (suc n)) (greatest-le p n)

-- what passes is at most it
pub le-greatest : (p : ℕ → Bool) (n x : ℕ) → x ≤ n → T (p x) → x ≤ greatest p n
unfolding greatest
le-greatest p zero x h t = h
le-greatest p (suc n) x h t = le-step p n (greatest p n) x (p (suc n)) refl h t (λ l. le-greatest p n x l t)

-- it is 0 or passes
greatest-cases : (p : ℕ → Bool) (n : ℕ) → (greatest p n ≡ 0) ⊎ T (p (greatest p n))
unfolding greatest
greatest-cases p zero = inl refl
greatest-cases p (suc n) = go (p (suc n)) refl (greatest-cases p n)
  where
    go : (b : Bool) → p (suc n) ≡ b → (greatest p n ≡ 0) ⊎ T (p (greatest p n))
        → (cond b (suc n) (greatest p n) ≡ 0) ⊎ T (p (cond b (suc n) (greatest p n)))
    go true e d = inr (subst T (sym e) tt)
    go false e d = d

-- it is s where s passes and nothing above s does
pub greatest-eq : (p : ℕ → Bool) (n s : ℕ) → s ≤ n → T (p s) → ((k : ℕ) → s < k → k ≤ n → T (p k) → ⊥) → greatest p n ≡ s
greatest-eq p n s h t above = ⊎_elim zero-case passes-case (greatest-cases p n)
  where
    low : s ≤ greatest p n
    low = le-greatest p n s h t

    zero-case : greatest p n ≡ 0 → greatest p n ≡ s
    zero-case e = omega (arith, low)

    passes-case : T (p (greatest p n)) → greatest p n ≡ s
    passes-case g = go (dec_le (greatest p n) s)
      where
        go : Dec (greatest p n ≤ s) → greatest p n ≡ s
        go (yes l) = omega (arith, low)
        go (no l) = absurd (above (greatest p n) (omega arith) (greatest-le p n) g)

-- of a test that is downward closed: a number passes exactly when it is at most the greatest
pub greatest-iff : (p : ℕ → Bool) (n x : ℕ) → T (p 0) → DownwardClosed p → x ≤ n → T (p x) ↔ (x ≤ greatest p n)
greatest-iff p n x z falls h = (le-greatest p n x h, λ l. falls x (greatest p n) l (greatest-passes p n z))

-- a test that ends at s passes there
pub ends_at-passes : (p : ℕ → Bool) (s : ℕ) → T (ends_at p s) → T (p s)
unfolding ends_at
ends_at-passes p s t = and-left (p s) (not (p (suc s))) t

-- of a test that is downward closed: where it ends at s, what passes is at most s
pub ends_at-most : (p : ℕ → Bool) (s x : ℕ) → DownwardClosed p → T (ends_at p s) → T (p x) → x ≤ s
unfolding ends_at
ends_at-most p s x falls t e = go (dec_le x s)
  where
    go : Dec (x ≤ s) → x ≤ s
    go (yes l) = l
    go (no l) = absurd (T_not (p (suc s)) (and-right (p s) (not (p (suc s))) t) (falls (suc s) x (omega arith) e))

-- of a test that is downward closed: it is s where the test ends at s
pub greatest-last : (p : ℕ → Bool) (n s : ℕ) → DownwardClosed p → s ≤ n → T (ends_at p s) → greatest p n ≡ s
greatest-last p n s falls h t =
    greatest-eq p n s h (ends_at-passes p s t) (λ k l u e. omega (arith, ends_at-most p s k falls t e))

-- of a test that is downward closed: it is s where s passes and the next number, if the bound has it, fails
pub greatest-between : (p : ℕ → Bool) (n s : ℕ) → DownwardClosed p → s ≤ n → T (p s) → (suc s ≤ n → T (p (suc s)) → ⊥) → greatest p n ≡ s
greatest-between p n s down h t fails = greatest-eq p n s h t (λ k l u e. fails (le_trans l u) (down (suc s) k l e))

-- tests that agree up to the bound find the same
pub greatest-cong : (p q : ℕ → Bool) (n : ℕ) → ((k : ℕ) → k ≤ n → p k ≡ q k) → greatest p n ≡ greatest q n
unfolding greatest
greatest-cong p q zero same = refl
greatest-cong p q (suc n) same =
    rw (same (suc n) (le_refl (suc n)), greatest-cong p q n (λ k h. same k (omega arith)))

-- of a test that passes whatever another passes it is no less
pub greatest-mono : (p q : ℕ → Bool) (n : ℕ) → ((k : ℕ) → T (p k) → T (q k)) → greatest p n ≤ greatest q n
greatest-mono p q n passes =
    ⊎_elim (λ e. rw e zero-le) (λ t. le-greatest q n (greatest p n) (greatest-le p n) (passes (greatest p n) t)) (greatest-cases p n)

-- up to a lower bound that it is not above it is the same
pub greatest-within : (p : ℕ → Bool) (m n : ℕ) → T (p 0) → m ≤ n → greatest p n ≤ m → greatest p m ≡ greatest p n
greatest-within p m n z h within =
    sym
    (greatest-eq p n (greatest p m) (le_trans (greatest-le p m) h) (greatest-passes p m z)
    (λ k l u t. let below = le-greatest p n k u t in omega (arith, le-greatest p m k (le_trans below within) t)))

-- what least_from p a n says of the n numbers from a on
record First (p : ℕ → Bool) (a n r : ℕ) : Type 0 where
  starts : a ≤ r
  ends : r ≤ a + n
  passes : r < a + n → T (p r)
  first : (x : ℕ) → a ≤ x → x < a + n → T (p x) → r ≤ x

first-step : (p : ℕ → Bool) (a n r : ℕ) (b : Bool) → p a ≡ b → First p (suc a) n r → First p a (suc n) (cond b a r)
first-step p a n r true e f =
    record {
      starts = le_refl a;
      ends = omega arith;
      passes = λ l. subst T (sym e) tt;
      first = λ x l u t. l;
    }
first-step p a n r false e f =
    record {
      starts = omega (arith, f.starts);
      ends = omega (arith, f.ends);
      passes = λ l. f.passes (omega arith);
      first = λ x l u t. go x l u t (dec_le (suc a) x);
    }
  where
    go : (x : ℕ) → a ≤ x → x < a + suc n → T (p x) → Dec (suc a ≤ x) → r ≤ x
    go x l u t (yes k) = f.first x k (omega arith) t
    go x l u t (no k) = let s : x ≡ a = omega arith in absurd (subst T (ap p s ∙ e) t)

least_from-first : (p : ℕ → Bool) (a n : ℕ) → First p a n (least_from p a n)
unfolding least_from
least_from-first p a zero =
    record {
      starts = le_refl a;
      ends = omega arith;
      passes = λ l. absurd (omega arith);
      first = λ x l u t. l;
    }
least_from-first p a (suc n) = first-step p a n (least_from p (suc a) n) (p a) refl (least_from-first p (suc a) n)

least-found : (p : ℕ → Bool) (n : ℕ) → First p 0 n (least p n)
unfolding least
least-found p n = least_from-first p 0 n

-- it is at most the bound
pub least-le : (p : ℕ → Bool) (n : ℕ) → least p n ≤ n
least-le p n = omega (arith, (least-found p n).ends)

-- it passes, where it is below the bound
pub least-passes : (p : ℕ → Bool) (n : ℕ) → least p n < n → T (p (least p n))
least-passes p n l = (least-found p n).passes (omega arith)

-- it is at most what passes
pub least-le-of : (p : ℕ → Bool) (n x : ℕ) → T (p x) → x < n → least p n ≤ x
least-le-of p n x t l = (least-found p n).first x zero-le (omega arith) t

-- it is s where s passes and nothing below s does
pub least-eq : (p : ℕ → Bool) (n s : ℕ) → s < n → T (p s) → ((k : ℕ) → k < s → T (p k) → ⊥) → least p n ≡ s
least-eq p n s h t below = go (dec_le s (least p n))
  where
    low : least p n ≤ s
    low = least-le-of p n s t h

    go : Dec (s ≤ least p n) → least p n ≡ s
    go (yes l) = le_antisymm low l
    go (no l) = absurd (below (least p n) (omega arith) (least-passes p n (omega (arith, low))))

-- it is the bound where nothing below it passes
pub least-none : (p : ℕ → Bool) (n : ℕ) → ((k : ℕ) → k < n → T (p k) → ⊥) → least p n ≡ n
least-none p n none = go (dec_le n (least p n))
  where
    go : Dec (n ≤ least p n) → least p n ≡ n
    go (yes l) = le_antisymm (least-le p n) l
    go (no l) = absurd (none (least p n) (omega arith) (least-passes p n (omega arith)))

-- of a test that is upward closed: it is s where the test starts at s
pub least-first : (p : ℕ → Bool) (n s : ℕ) → UpwardClosed p → s < n → T (starts_at p s) → least p n ≡ s
unfolding starts_at
least-first p n zero rises h t = least-eq p n 0 h t (λ k l. absurd (omega arith))
least-first p n (suc s) rises h t =
    least-eq p n (suc s) h (and-left (p (suc s)) (not (p s)) t)
    (λ k l e. T_not (p s) (and-right (p (suc s)) (not (p s)) t) (rises k s (omega arith) e))
