-- Lists of refusals, and an answer unless one is met (specs/Refusals).
use Rattle.std.proofs.Common.{◌≡◌, refl, sym, ◌∙◌, Bool, true, false, cond, not, ◌&&◌, List, [], ◌∷◌, ◌++◌, ⊎_elim, ℕ, suc, ◌≤◌, ◌<◌, min}
use Rattle.std.proofs.Common.{eq-zero-or-pos, arith, le-ltb, ne_eqb, T, leb, ltb, eqb, leb→le, ltb→lt, eqb→eq}
use Rattle.std.proofs.lemmas.Bool.Decides.{nat_tests}
use Rattle.numbers.proofs.BoolLaws.{and-left, and-right, cond-le}
use Rattle.refusals.specs.Refusals.{Condition, refuses, first_refusal, unless_refused, outside}

-- ---- the first of a list
-- every refusal of the list has a number above 0
abbrev pub numbered : List Condition → Bool
numbered [] = true
numbered (r ∷ rs) = ltb 0 r.number && numbered rs

-- a list that refuses nothing: neither its first refusal does, nor the rest
head-none : (r : Condition) (rs : List Condition) (rest : ℕ) → T (numbered (r ∷ rs)) → cond r.met r.number rest ≡ 0
    → (r.met ≡ false) × (rest ≡ 0) × T (numbered rs)
head-none r rs rest t z = go r.met refl z
  where
    above : 0 < r.number
    above = ltb→lt 0 r.number (and-left (ltb 0 r.number) (numbered rs) t)

    go : (b : Bool) → r.met ≡ b → cond b r.number rest ≡ 0 → (r.met ≡ false) × (rest ≡ 0) × T (numbered rs)
    go true e n = absurd (omega (arith, above))
    go false e n = (e, n, and-right (ltb 0 r.number) (numbered rs) t)

some-head : (n f g : ℕ) (b : Bool) → 0 < cond b n f → (0 < f → g ≡ f) → cond b n g ≡ cond b n f
some-head n f g true p k = refl
some-head n f g false p k = k p

-- first_refusal-none, first_refusal-some: of a joined list: the second part decides where the first refuses
-- nothing, else the first
pub first_refusal-some : (rs ss : List Condition) → 0 < first_refusal rs → first_refusal (rs ++ ss) ≡ first_refusal rs
first_refusal-some [] ss p = absurd (omega arith)
first_refusal-some (r ∷ rs) ss p =
    some-head r.number (first_refusal rs) (first_refusal (rs ++ ss)) r.met p (λ q. first_refusal-some rs ss q)

pub first_refusal-none : (rs ss : List Condition) → T (numbered rs) → first_refusal rs ≡ 0 → first_refusal (rs ++ ss) ≡ first_refusal ss
first_refusal-none [] ss t z = refl
first_refusal-none (r ∷ rs) ss t z =
    let p = head-none r rs (first_refusal rs) t z in rw p.0 (first_refusal-none rs ss p.2 p.1)

-- a joined list that refuses nothing: neither part does
pub first_refusal-join : (rs ss : List Condition) → T (numbered rs) → first_refusal (rs ++ ss) ≡ 0
    → (first_refusal rs ≡ 0) × (first_refusal ss ≡ 0)
first_refusal-join [] ss t z = (refl, z)
first_refusal-join (r ∷ rs) ss t z =
    let p = head-none r rs (first_refusal (rs ++ ss)) t z in
    let q = first_refusal-join rs ss p.2 p.1 in
    (rw p.0 q.0, q.1)

-- ---- no refusal of a list
-- NoneMet, none-met, none-of: no refusal of the list is met
abbrev pub NoneMet : List Condition → Type 0
NoneMet [] = Unit {0}
NoneMet (r ∷ rs) = (r.met ≡ false) × NoneMet rs

pub none-met : (rs : List Condition) → T (numbered rs) → first_refusal rs ≡ 0 → NoneMet rs
none-met [] t z = tt
none-met (r ∷ rs) t z = let p = head-none r rs (first_refusal rs) t z in (p.0, none-met rs p.2 p.1)

pub none-of : (rs : List Condition) → NoneMet rs → first_refusal rs ≡ 0
none-of [] n = refl
none-of (r ∷ rs) n = rw n.0 (none-of rs n.1)

-- ---- the numbers of a list
-- up_to, first_refusal-le: no number is above the greatest of the list
abbrev pub up_to : ℕ → List Condition → Bool
up_to m [] = true
up_to m (r ∷ rs) = leb r.number m && up_to m rs

pub first_refusal-le : (m : ℕ) (rs : List Condition) → T (up_to m rs) → first_refusal rs ≤ m
first_refusal-le m [] t = omega arith
first_refusal-le m (r ∷ rs) t =
    cond-le r.met (leb→le r.number m (and-left (leb r.number m) (up_to m rs) t))
    (first_refusal-le m rs (and-right (leb r.number m) (up_to m rs) t))

-- at_least, first_refusal-ge: no number is below the least
abbrev pub at_least : ℕ → List Condition → Bool
at_least m [] = true
at_least m (r ∷ rs) = leb m r.number && at_least m rs

pub first_refusal-ge : (m : ℕ) (rs : List Condition) → T (at_least m rs) → 0 < first_refusal rs → m ≤ first_refusal rs
first_refusal-ge m [] t p = absurd (omega arith)
first_refusal-ge m (r ∷ rs) t p = go r.met p (first_refusal-ge m rs (and-right (leb m r.number) (at_least m rs) t))
  where
    go : (b : Bool) → 0 < cond b r.number (first_refusal rs) → (0 < first_refusal rs → m ≤ first_refusal rs)
        → m ≤ cond b r.number (first_refusal rs)
    go true q rest = leb→le m r.number (and-left (leb m r.number) (at_least m rs) t)
    go false q rest = rest q

-- lacks, first_refusal-lacks: a number that no refusal of the list has is not the first
abbrev pub lacks : ℕ → List Condition → Bool
lacks n [] = true
lacks n (r ∷ rs) = not (eqb r.number n) && lacks n rs

pub first_refusal-lacks : (n : ℕ) (rs : List Condition) → T (lacks n rs) → 0 < n → first_refusal rs ≡ n → ⊥
first_refusal-lacks n [] t p e = omega arith
first_refusal-lacks n (r ∷ rs) t p e =
    go r.met e (first_refusal-lacks n rs (and-right (not (eqb r.number n)) (lacks n rs) t) p)
  where
    go : (b : Bool) → cond b r.number (first_refusal rs) ≡ n → (first_refusal rs ≡ n → ⊥) → ⊥
    go true q rest =
        let other : T (not (eqb r.number n)) = and-left (not (eqb r.number n)) (lacks n rs) t in grind (arith, nat_tests)
    go false q rest = rest q

-- ---- ranges
-- within, inside: a number that is not outside a range
pub within : (low high n : ℕ) → outside low high n ≡ false → (low ≤ n) × (n ≤ high)
within low high n e = (grind (arith, nat_tests), grind (arith, nat_tests))

pub inside : (low high n : ℕ) → low ≤ n → n ≤ high → outside low high n ≡ false
inside low high n h k = simp (le-ltb n low h, le-ltb high n k)

-- ---- an answer unless a refusal is met
module _ {A : Type 0} (n : ℕ) (answer : A) (refused : ℕ → A) where
  -- unless_refused-none, unless_refused-some, unless_refused-by: the answer by its number
  pub unless_refused-none : n ≡ 0 → unless_refused n answer refused ≡ answer
  unless_refused-none e = rw e

  pub unless_refused-some : 0 < n → unless_refused n answer refused ≡ refused n
  unless_refused-some p = simp (ne_eqb n 0 (λ e. omega arith))

  pub unless_refused-by : (P : A → Type 0) → (n ≡ 0 → P answer) → (0 < n → P (refused n)) → P (unless_refused n answer refused)
  unless_refused-by P none some =
      ⊎_elim (λ e. rw (unless_refused-none e) (none e)) (λ p. rw (unless_refused-some p) (some p)) (eq-zero-or-pos n)

  module _ (number : A → ℕ) (none : number answer ≡ 0) (own : (k : ℕ) → number (refused k) ≡ k) where
    -- where a definition gives each answer's number: that of this one
    pub unless_refused-number : number (unless_refused n answer refused) ≡ n
    unless_refused-number = unless_refused-by (λ a. number a ≡ n) (λ e. none ∙ sym e) (λ p. own n)

-- ---- a refusal in the middle of a list
-- a refusal that is met, behind those of no greater number and before those of no smaller one: by the list in
-- which it is not met
pub first_refusal-met : (n : ℕ) (rs ss : List Condition) → T (numbered rs) → T (up_to n rs) → T (at_least n ss)
    → first_refusal (rs ++ (refuses n true ∷ ss)) ≡ unless_refused (first_refusal (rs ++ (refuses n false ∷ ss))) n (λ k. min k n)
first_refusal-met n [] ss t u a =
    unless_refused-by (first_refusal ss) n (λ k. min k n) (λ m. n ≡ m) (λ e. refl) (λ p. omega (arith, first_refusal-ge n ss a p))
first_refusal-met n (r ∷ rs) ss t u a =
    go r.met _ _
    (first_refusal-met n rs ss (and-right (ltb 0 r.number) (numbered rs) t) (and-right (leb r.number n) (up_to n rs) u) a)
  where
    above : 0 < r.number
    above = ltb→lt 0 r.number (and-left (ltb 0 r.number) (numbered rs) t)

    below : r.number ≤ n
    below = leb→le r.number n (and-left (leb r.number n) (up_to n rs) u)

    go : (b : Bool) (f g : ℕ) → f ≡ unless_refused g n (λ k. min k n)
        → cond b r.number f ≡ unless_refused (cond b r.number g) n (λ k. min k n)
    go true f g e = sym (unless_refused-some r.number n (λ k. min k n) above ∙ omega (arith, below))
    go false f g e = e
