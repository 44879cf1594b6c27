-- Lists made of one row of numbers for each thing of a list, whatever the rows are.
use Rattle.std.proofs.Common.{◌≡◌, ap, ◌∙◌, List, [], ◌∷◌, ◌++◌, append_assoc, append-nil, ℕ, suc, ◌+◌, ◌*◌, ◌<◌, add-one, arith, length}
use Rattle.std.proofs.Common.{take, drop, get_or, length-append, take-suc, length-take-le, drop_at, take_at}
use Rattle.std.proofs.Math.Seq.{split_at}
use Rattle.std.proofs.lemmas.Grind.{flat_map-append}
use mathlib.Core.List.{flat_map}

module _ {A : Type 0} (row : A → List ℕ) where
  -- rows-append, rows-next: the rows of two lists; of one thing more
  pub rows-append : (xs ys : List A) → flat_map row (xs ++ ys) ≡ flat_map row xs ++ flat_map row ys
  unfolding flat_map
  rows-append = flat_map-append row

  pub rows-next : (xs : List A) (i : ℕ) (d : A) → i < length xs
      → flat_map row (take (i + 1) xs) ≡ flat_map row (take i xs) ++ row (get_or xs i d)
  unfolding flat_map
  rows-next xs i d h = rw (add-one i, take-suc xs i d h, rows-append (take i xs) (get_or xs i d ∷ []), append-nil)

  module _ (width : ℕ) (long : (x : A) → length (row x) ≡ width) where
    -- rows-length, rows-at: rows that are all as long: how many numbers they are; those of one thing
    pub rows-length : (xs : List A) → length (flat_map row xs) ≡ width * length xs
    unfolding flat_map
    rows-length [] = omega arith
    rows-length (x ∷ xs) = omega (arith, length-append (row x) (flat_map row xs), long x, rows-length xs)

    pub rows-at : (xs : List A) (rest : List ℕ) (i : ℕ) (d : A) → i < length xs
        → take width (drop (width * i) (flat_map row xs ++ rest)) ≡ row (get_or xs i d)
    unfolding flat_map
    rows-at xs rest i d h =
        let front : List ℕ = flat_map row (take i xs) in
        let own : List ℕ = row (get_or xs i d) in
        let behind : List ℕ = flat_map row (drop (suc i) xs) in
        let parts : flat_map row xs ++ rest ≡ front ++ (own ++ (behind ++ rest)) =
        ap (λ l. flat_map row l ++ rest) (split_at xs i d h)
        ∙ ap (λ l. l ++ rest) (rows-append (take i xs) (get_or xs i d ∷ drop (suc i) xs))
        ∙ append_assoc front (own ++ behind) rest
        ∙ ap (λ l. front ++ l) (append_assoc own behind rest) in
        ap (λ l. take width (drop (width * i) l)) parts
        ∙ ap (take width)
        (drop_at front (own ++ (behind ++ rest)) (width * i)
        (rows-length (take i xs) ∙ ap (λ n. width * n) (length-take-le i xs (omega arith))))
        ∙ take_at own (behind ++ rest) width (long (get_or xs i d))
