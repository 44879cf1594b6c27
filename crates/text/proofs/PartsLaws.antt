-- The parts of a list, by where its first part ends (specs/Parts).
use Rattle.std.proofs.Common.{◌≡◌, ℕ, suc, ◌+◌, ◌≤◌, ◌<◌, ◌⊎◌, eqb, List, [], ◌∷◌, ◌++◌, length, take, drop, one-add, refl, position, cond, ltb, None, Some, get_or, drop-cons, add-one, add-zero, length-drop, arith, eq-eqb, ne_eqb, eq-or-lt_of_le}
use Rattle.std.specs.List.{position_or_len}
use Rattle.std.proofs.lemmas.Bool.Decides.{nat_tests}
use Rattle.std.proofs.lemmas.List.Sums.{prefix_len-le-length}
use Rattle.std.proofs.lemmas.List.Recursion.{is_position_or_len}
use Rattle.text.specs.Parts.{parts, count_before, on_first}

-- in std's words
count_before-is : (t : ℕ) (bs : List ℕ) → count_before t bs ≡ position_or_len (λ b. eqb b t) bs
unfolding count_before
count_before-is t = is_position_or_len (count_before t) (λ b. eqb b t) refl (λ _ _. simp one-add)

-- at most all bytes stand before the first t
pub count_before-le : (t : ℕ) (bs : List ℕ) → count_before t bs ≤ length bs
count_before-le t bs = rw count_before-is (prefix_len-le-length _ bs)

-- no t, or one
pub count_before-cases : (t : ℕ) (bs : List ℕ) → (count_before t bs ≡ length bs) ⊎ (count_before t bs < length bs)
count_before-cases t bs = eq-or-lt_of_le (count_before-le t bs)

found : (t : ℕ) (bs : List ℕ)
    → position (λ b. eqb b t) bs ≡ cond (ltb (count_before t bs) (length bs)) (Some (count_before t bs)) None
found t bs = rw count_before-is refl

-- where `position` finds a t, so many bytes stand before it
pub found-Some : (t : ℕ) (bs : List ℕ) (i : ℕ) → position (λ b. eqb b t) bs ≡ Some i → (i ≡ count_before t bs) × (i < length bs)
found-Some t bs i h = grind (arith, nat_tests, found t bs)

-- where it finds none, all bytes do
pub found-None : (t : ℕ) (bs : List ℕ) → position (λ b. eqb b t) bs ≡ None → count_before t bs ≡ length bs
found-None t bs h = grind (arith, nat_tests, found t bs, count_before-le t bs)

-- a list with no t is one part
pub parts-one : (t : ℕ) (bs : List ℕ) → count_before t bs ≡ length bs → parts t bs ≡ bs ∷ []
unfolding count_before parts on_first
parts-one t [] h = refl
parts-one t (b ∷ bs) h = grind (arith, nat_tests, parts-one t bs)

-- a list with a t is the part count_before it, and the parts after it
pub parts-more : (t : ℕ) (bs : List ℕ) → count_before t bs < length bs
    → parts t bs ≡ take (count_before t bs) bs ∷ parts t (drop (suc (count_before t bs)) bs)
unfolding count_before parts on_first
parts-more t [] h = absurd (omega arith)
parts-more t (b ∷ bs) h = grind (arith, nat_tests, parts-more t bs)

-- with a byte on the first there is one part at least
on_first-length : (b : ℕ) (ps : List (List ℕ)) → 0 < length (on_first b ps)
unfolding on_first
on_first-length b [] = omega arith
on_first-length b (p ∷ ps) = omega arith

-- there is one part at least
pub parts-pos : (t : ℕ) (bs : List ℕ) → 0 < length (parts t bs)
unfolding parts
parts-pos t [] = omega arith
parts-pos t (b ∷ bs) = grind (arith, nat_tests, on_first-length)

-- from place i on: there is a t
pub count_before-hit : (t : ℕ) (bs : List ℕ) (i : ℕ) → i < length bs → get_or bs i 0 ≡ t → i + count_before t (drop i bs) ≡ i
unfolding count_before
count_before-hit t bs i h e = rw (drop-cons bs i 0 h, eq-eqb (get_or bs i 0) t e) (add-zero i)

-- there is none: one byte on
pub count_before-miss : (t : ℕ) (bs : List ℕ) (i : ℕ) → i < length bs → (get_or bs i 0 ≡ t → ⊥)
    → i + count_before t (drop i bs) ≡ i + 1 + count_before t (drop (i + 1) bs)
unfolding count_before
count_before-miss t bs i h n = rw (drop-cons bs i 0 h, ne_eqb (get_or bs i 0) t n, add-one i) (omega arith)

-- nothing is left
pub count_before-end : (t : ℕ) (bs : List ℕ) (i : ℕ) → i ≡ length bs → i + count_before t (drop i bs) ≡ i
count_before-end t bs i e = omega (arith, count_before-le t (drop i bs), length-drop i bs)

-- ---- all parts
on_first-append : (b : ℕ) (ps qs : List (List ℕ)) → 0 < length ps → on_first b (ps ++ qs) ≡ on_first b ps ++ qs
unfolding on_first
on_first-append b [] qs h = absurd (omega arith)
on_first-append b (p ∷ ps) qs h = refl

-- two lists with a t between them have the parts of both
pub parts-append : (t : ℕ) (xs ys : List ℕ) → parts t (xs ++ (t ∷ ys)) ≡ parts t xs ++ parts t ys
unfolding parts
parts-append t [] ys = rw (eq-eqb t t refl)
parts-append t (b ∷ xs) ys = grind (arith, nat_tests, parts-append t xs ys, on_first-append b (parts t xs) (parts t ys) (parts-pos t xs))

-- the lengths of parts, each with one byte more, added up
abbrev pub spread : List (List ℕ) → ℕ
spread [] = 0
spread (p ∷ ps) = suc (length p) + spread ps

on_first-spread : (b : ℕ) (ps : List (List ℕ)) → 0 < length ps → spread (on_first b ps) ≡ suc (spread ps)
unfolding on_first
on_first-spread b [] h = absurd (omega arith)
on_first-spread b (p ∷ ps) h = omega arith

-- of all parts that is one more than the list has bytes
pub parts-spread : (t : ℕ) (bs : List ℕ) → spread (parts t bs) ≡ suc (length bs)
unfolding parts
parts-spread t [] = refl
parts-spread t (b ∷ bs) = grind (arith, nat_tests, parts-spread t bs, on_first-spread b (parts t bs) (parts-pos t bs))
