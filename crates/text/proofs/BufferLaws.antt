-- Text, or numbers as they are, in a lent buffer, piece by piece (specs/Buffer). A byte of a law may be any
-- number.
use Rattle.std.proofs.Common.{◌≡◌, ℕ, suc, ◌+◌, ◌-◌, ◌<◌, List, [], ◌∷◌, ◌++◌, length, set, take, drop, refl, sym, ap, ◌∙◌, append_assoc, append-nil, length-append, length-drop, drop-cons, drop-drop, arith}
use Rattle.std.proofs.lemmas.List.{take_at, take_rest, drop_at, set_at, drop_all, length_push}
use borrow.Rule.Slice.PartMut.{mid_of, put_mid}
use Rattle.text.specs.Buffer.{written, Wrote}

-- what a buffer that holds xs lends from place m on
abbrev pub rest_of : ℕ → List ℕ → List ℕ
rest_of m xs = mid_of m (length xs - m) xs

-- that buffer, when what it lent holds ys
abbrev pub put_rest : ℕ → List ℕ → List ℕ → List ℕ
put_rest m xs ys = put_mid m (length xs - m) xs ys

-- no piece is written
pub nothing : {old : List ℕ} → Wrote [] old old 0
unfolding written
nothing = record { content = refl; count = refl }

module _ {s old mid : List ℕ} {m : ℕ} (w : Wrote s old mid m) where
  -- the bytes that were written
  pub front : take m mid ≡ s
  unfolding written
  front = ap (take m) w.content ∙ take_at s _ m (sym w.count)

  -- after it a piece is written in the rest of the buffer
  pub then : {t rest : List ℕ} {n : ℕ} → Wrote t (rest_of m mid) rest n
      → Wrote (s ++ t) old (put_rest m mid rest) (m + n)
  unfolding written
  then {t} {rest} {n} v =
      let behind : drop m mid ≡ drop (length s) old = ap (drop m) w.content ∙ drop_at s _ m (sym w.count) in
      let past : drop (length mid - m) (drop m mid) ≡ [] = drop_all (length mid - m) (drop m mid) (omega (arith, length-drop m mid)) in
      record {
        content = rw (front, past, v.content, take_rest mid m, behind, drop-drop, append-nil, length-append, append_assoc);
        count = omega (arith, w.count, v.count, length-append s t);
      }

  -- after it a byte is written
  pub then-byte : (b : ℕ) → length s < length old → Wrote (s ++ (b ∷ [])) old (set mid m b) (m + 1)
  unfolding written
  then-byte b h =
      let long : length (s ++ (b ∷ [])) ≡ suc (length s) = omega (arith, length_push s b) in
      record {
        content = ap (λ (x : List ℕ). set x m b) (w.content ∙ ap (λ (x : List ℕ). s ++ x) (drop-cons old (length s) 0 h))
            ∙ set_at s _ _ b m (sym w.count) ∙ sym (rw (append_assoc, long));
        count = omega (arith, w.count, length_push s b);
      }
