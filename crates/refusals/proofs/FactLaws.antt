-- Figures (specs/Facts).
use Rattle.std.proofs.Common.{◌≡◌, refl, Bool, true, false, ◌&&◌, List, [], ◌∷◌, ◌++◌, ℕ, T, eqb, eqb→eq}
use Rattle.numbers.proofs.BoolLaws.{and-left, and-right}
use Rattle.refusals.specs.Facts.{Fact, Shown}

-- a longer list: what the layers above add
pub Shown-append : (fs gs : List Fact) → Shown fs → Shown gs → Shown (fs ++ gs)
Shown-append [] gs s t = t
Shown-append (f ∷ fs) gs s t = (s.0, Shown-append fs gs s.1 t)

-- ---- a test that computes
abbrev pub same_numbers : List ℕ → List ℕ → Bool
same_numbers [] [] = true
same_numbers [] (n ∷ ns) = false
same_numbers (m ∷ ms) [] = false
same_numbers (m ∷ ms) (n ∷ ns) = eqb m n && same_numbers ms ns

same_numbers-eq : (ms ns : List ℕ) → T (same_numbers ms ns) → ms ≡ ns
same_numbers-eq [] [] t = refl
same_numbers-eq [] (n ∷ ns) t = absurd t
same_numbers-eq (m ∷ ms) [] t = absurd t
same_numbers-eq (m ∷ ms) (n ∷ ns) t =
    let head : m ≡ n = eqb→eq m n (and-left (eqb m n) (same_numbers ms ns) t) in
    let tail : ms ≡ ns = same_numbers-eq ms ns (and-right (eqb m n) (same_numbers ms ns) t) in
    rw (head, tail) refl

-- of each fact the two are the same
abbrev pub all_same : List Fact → Bool
all_same [] = true
all_same (f ∷ fs) = same_numbers f.worked f.printed && all_same fs

-- where the test passes, the facts are shown
pub Shown-same : (fs : List Fact) → T (all_same fs) → Shown fs
Shown-same [] t = tt
Shown-same (f ∷ fs) t =
    let same = same_numbers f.worked f.printed in
    (same_numbers-eq f.worked f.printed (and-left same (all_same fs) t), Shown-same fs (and-right same (all_same fs) t))
