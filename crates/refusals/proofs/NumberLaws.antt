-- The laws of the numbers of refusals (specs/Numbers).
use Rattle.std.proofs.Common.{◌≡◌, refl, sym, ℕ, suc, ◌-◌, ◌≤◌, ◌<◌, Result, Ok, Err, IsErrAnd, T, eqb, eqb→eq, subst, lit<, lit≤, arith, Bool, ◌∙◌}
use Rattle.std.proofs.Common.{List, ◌++◌, ne_eqb, ⊎_elim, eq-zero-or-pos}
use Rattle.std.proofs.lemmas.Bool.Decides.{nat_tests}
use Rattle.std.proofs.lemmas.Result.{err_from_is_err_and}
use Rattle.numbers.specs.Table.{every_up_to}
use Rattle.numbers.proofs.TableLaws.{every_up_to-at}
use Rattle.refusals.specs.declared.Refusal.{Refusal}
use Rattle.refusals.specs.Refusals.{Condition, first_refusal}
use Rattle.refusals.specs.Numbers.{number, in_order, refusal_of, refusal_number, ok_unless}
use Rattle.refusals.proofs.RefusalLaws.{numbered, first_refusal-some, first_refusal-none}

-- by each refusal
number-fits : (r : Refusal) → (0 < number r) × (number r ≤ 22) × (refusal_of (number r) ≡ r)
unfolding refusal_of in_order
number-fits Refusal.SpeedOutOfRange = (lit< tt, lit≤ tt, refl)
number-fits Refusal.WidthOutOfRange = (lit< tt, lit≤ tt, refl)
number-fits Refusal.ClearanceTooLarge = (lit< tt, lit≤ tt, refl)
number-fits Refusal.MedianUnfit = (lit< tt, lit≤ tt, refl)
number-fits Refusal.AccessTooLarge = (lit< tt, lit≤ tt, refl)
number-fits Refusal.LanesNotOfTheKind = (lit< tt, lit≤ tt, refl)
number-fits Refusal.DemandTooLarge = (lit< tt, lit≤ tt, refl)
number-fits Refusal.FactorOutOfRange = (lit< tt, lit≤ tt, refl)
number-fits Refusal.ShareTooLarge = (lit< tt, lit≤ tt, refl)
number-fits Refusal.SpeedBelowLowerEnd = (lit< tt, lit≤ tt, refl)
number-fits Refusal.CarsTooFew = (lit< tt, lit≤ tt, refl)
number-fits Refusal.FlowTooLarge = (lit< tt, lit≤ tt, refl)
number-fits Refusal.SurveyedSpeedOutOfRange = (lit< tt, lit≤ tt, refl)
number-fits Refusal.NoLaneCount = (lit< tt, lit≤ tt, refl)
number-fits Refusal.LineMalformed = (lit< tt, lit≤ tt, refl)
number-fits Refusal.LetterUnknown = (lit< tt, lit≤ tt, refl)
number-fits Refusal.BufferTooShort = (lit< tt, lit≤ tt, refl)
number-fits Refusal.DayUnfit = (lit< tt, lit≤ tt, refl)
number-fits Refusal.WeatherUnfit = (lit< tt, lit≤ tt, refl)
number-fits Refusal.SharesUnfit = (lit< tt, lit≤ tt, refl)
number-fits Refusal.DailyTrafficTooLarge = (lit< tt, lit≤ tt, refl)
number-fits Refusal.EndsReversed = (lit< tt, lit≤ tt, refl)

-- number-above, number-le: a refusal's number is from 1 to 22
pub number-above : (r : Refusal) → 0 < number r
number-above r = (number-fits r).0

pub number-le : (r : Refusal) → number r ≤ 22
number-le r = (number-fits r).1

-- the refusal of a refusal's number is that refusal
pub refusal_of-number : (r : Refusal) → refusal_of (number r) ≡ r
refusal_of-number r = (number-fits r).2

-- by each number
numbers-agree : ℕ → Bool
numbers-agree m = eqb (number (refusal_of (suc m))) (suc m)

all-agree : T (every_up_to numbers-agree 21)
unfolding refusal_of in_order numbers-agree
all-agree = tt

-- the number of the refusal of a number from 1 to 22 is that number
pub number-refusal_of : (n : ℕ) → 0 < n → n ≤ 22 → number (refusal_of n) ≡ n
unfolding numbers-agree
number-refusal_of n p q =
    let e : suc (n - 1) ≡ n = omega (arith, p) in
    let P : ℕ → Type 0 = λ m. number (refusal_of m) ≡ m in
    subst P e (eqb→eq (number (refusal_of (suc (n - 1)))) (suc (n - 1)) (every_up_to-at numbers-agree 21 all-agree (n - 1) (omega (arith, q))))

-- ok_unless-ok, ok_unless-err: the answer by its number, as code hands it back
pub ok_unless-ok : {A : Type 0} (n : ℕ) (a b : A) → n ≡ 0 → a ≡ b → ◌≡◌ {A = Result A Refusal} (Ok a) (ok_unless n b)
ok_unless-ok n a b z e = rw z (rw e refl)

pub ok_unless-err : {A : Type 0} (r : Refusal) (n : ℕ) (b : A) → number r ≡ n → ◌≡◌ {A = Result A Refusal} (Err r) (ok_unless n b)
ok_unless-err r n b e = rw (sym e) (rw (ne_eqb (number r) 0 (λ z. omega (arith, number-above r))) (rw (refusal_of-number r) refl))

-- what a `?` hands back where it passes on a refusal
pub passed_on : {A : Type 0} (n : ℕ) (a : A) (answer : Result A Refusal) (r : Refusal) → IsErrAnd answer (λ passed. passed ≡ r) → number r ≡ n
    → ◌≡◌ {A = Result A Refusal} answer (ok_unless n a)
passed_on n a answer r h e =
    let p = err_from_is_err_and answer h in rw (p.1, p.2) (ok_unless-err r n a e)

-- ok_unless-none, ok_unless-some: the same by the number alone
pub ok_unless-none : {A : Type 0} (n : ℕ) (a : A) → n ≡ 0 → ok_unless n a ≡ Ok a
ok_unless-none n a z = rw z refl

pub ok_unless-some : {A : Type 0} (n : ℕ) (a : A) → 0 < n → ok_unless n a ≡ Err (refusal_of n)
ok_unless-some n a p = rw (ne_eqb n 0 (λ z. omega (arith, p))) refl

-- its own number
pub refusal_number-ok_unless : {A : Type 0} (n : ℕ) (a : A) → n ≤ 22 → refusal_number {A = A} (ok_unless n a) ≡ n
refusal_number-ok_unless n a le =
    ⊎_elim (λ z. rw z refl) (λ p. rw (ne_eqb n 0 (λ z. omega (arith, p))) (number-refusal_of n p le)) (eq-zero-or-pos n)

-- what holds of the value and of the refusal holds of it
pub ok_unless-by : {A : Type 0} (n : ℕ) (a : A) (P : Result A Refusal → Type 0) → (n ≡ 0 → P (Ok a)) → (0 < n → P (Err (refusal_of n)))
    → P (ok_unless n a)
ok_unless-by n a P none some =
    ⊎_elim (λ z. rw (ok_unless-none n a z) (none z)) (λ p. rw (ok_unless-some n a p) (some p)) (eq-zero-or-pos n)

-- what such an answer tells of the number, and of another with the same number
pub ok_unless-found : {A : Type 0} (n : ℕ) (a b : A) → ◌≡◌ {A = Result A Refusal} (ok_unless n a) (Ok b) → (n ≡ 0) × (b ≡ a)
ok_unless-found n a b found = (grind (arith, nat_tests), grind (arith, nat_tests))

-- a refusal's number is not 0
pub ok_unless-above : {A : Type 0} (n : ℕ) (a : A) (r : Refusal) → ◌≡◌ {A = Result A Refusal} (ok_unless n a) (Err r) → 0 < n
ok_unless-above n a r found = grind (arith, nat_tests)

-- a refusal is that of any answer with the same number
pub ok_unless-refused : {A B : Type 0} (n : ℕ) (a : A) (b : B) (r : Refusal) → ◌≡◌ {A = Result A Refusal} (ok_unless n a) (Err r)
    → ◌≡◌ {A = Result B Refusal} (Err r) (ok_unless n b)
ok_unless-refused n a b r found = grind (arith, nat_tests)

-- ---- a list behind another
-- first_refusal-err, first_refusal-ok: of a joined list, by what the first part says
pub first_refusal-err : (rs ss : List Condition) (r : Refusal) → number r ≡ first_refusal rs → number r ≡ first_refusal (rs ++ ss)
first_refusal-err rs ss r e = e ∙ sym (first_refusal-some rs ss (rw (sym e) (number-above r)))

pub first_refusal-ok : (rs ss : List Condition) (n : ℕ) → T (numbered rs) → 0 ≡ first_refusal rs → n ≡ first_refusal ss → n ≡ first_refusal (rs ++ ss)
first_refusal-ok rs ss n t z e = e ∙ sym (first_refusal-none rs ss t (sym z))

-- for tactics: of questions in their order
pub ruleset in_turn = (first_refusal-err, first_refusal-ok)
