-- Tests, and choices by a test.
use Rattle.std.proofs.Common.{Bool, true, false, cond, ◌&&◌, ◌≡◌, sym, subst, ◌↔◌, ℕ, ◌≤◌, arith, le-leb, T, leb}
use Rattle.std.proofs.lemmas.Bool.{lt-leb}

-- T-true, T-false: a test that is true passes; one that is false does not
pub T-true : (b : Bool) → b ≡ true → T b
T-true b e = subst T (sym e) tt

pub T-false : (b : Bool) → b ≡ false → T b → ⊥
T-false b e t = subst T e t

-- and-both, and-left, and-right: two tests that both pass
pub and-both : (a b : Bool) → T a → T b → T (a && b)
and-both true b s t = t
and-both false b s t = s

pub and-left : (a b : Bool) → T (a && b) → T a
and-left true b t = tt
and-left false b t = t

pub and-right : (a b : Bool) → T (a && b) → T b
and-right true b t = t
and-right false b t = absurd t

-- a test of a fact is equal to a test that passes exactly when it holds
pub leb-test : (a b : ℕ) (c : Bool) → (a ≤ b) ↔ T c → leb a b ≡ c
leb-test a b true e = le-leb a b (e.1 tt)
leb-test a b false e = let not : a ≤ b → ⊥ = e.0 in lt-leb a b (omega arith)

-- what holds of both outcomes holds of the choice
pub cond-all : {A : Type 0} (P : A → Type 0) (b : Bool) {x y : A} → P x → P y → P (cond b x y)
cond-all P true px py = px
cond-all P false px py = py

-- both outcomes are at most z: so is the choice
pub cond-le : (b : Bool) {x y z : ℕ} → x ≤ z → y ≤ z → cond b x y ≤ z
cond-le b {z = z} h k = cond-all (λ v. v ≤ z) b h k
