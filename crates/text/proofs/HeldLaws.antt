-- What is held stands for what was read (specs/Held).
use Rattle.std.proofs.Common.{◌≡◌, ℕ, suc, ◌≤◌, ◌<◌, List, [], ◌∷◌, ◌++◌, length, take, refl, sym, ap, subst, ◌∙◌, inl, inr, ⊎_elim, append_assoc, length-append, length-take-le, take_all, lt-ltb, le-ltb, arith}
use Rattle.std.proofs.lemmas.List.{drop-append-le}
use native.Mathlib.Decide.{dec_le}
use Rattle.text.specs.Bytes.{newline}
use Rattle.text.specs.Parts.{parts, count_before}
use Rattle.text.proofs.PartsLaws.{count_before-cases, parts-one, parts-more, parts-pos}
use Rattle.text.specs.Stream.{LineTexts, texts, without_empty_last, output_of}
use Rattle.text.specs.Held.{answered, size, cut_off, carried, last_part, half_line, SameLine, StandsFor}
use Rattle.text.specs.Runs.{TooLongAlike}
use Rattle.text.proofs.StreamLaws.{first_line, after_first, by-lines, by-turns, left, left-next, count_before-append, no-newline, parts-front, lines_of-last, same-texts, turn-law}

-- ---- the half line
-- the last of more parts is the last of the others
last_part-cons : (p : List ℕ) (ps : List (List ℕ)) → 0 < length ps → last_part (p ∷ ps) ≡ last_part ps
unfolding last_part
last_part-cons p [] h = absurd (omega arith)
last_part-cons p (q ∷ ps) h = refl

-- bytes with no newline are a half line
pub half_line-last : (bs : List ℕ) → count_before newline bs ≡ length bs → half_line bs ≡ bs
unfolding last_part half_line
half_line-last bs h = rw (parts-one newline bs h)

-- bytes with a newline have the half line of what follows their first line
pub half_line-next : (bs : List ℕ) → count_before newline bs < length bs → half_line bs ≡ half_line (after_first bs)
unfolding half_line
half_line-next bs h =
    rw (parts-more newline bs h, last_part-cons (first_line bs) (parts newline (after_first bs)) (parts-pos newline (after_first bs)))

-- no newline is in it
pub half_line-unended : (bs : List ℕ) → count_before newline (half_line bs) ≡ length (half_line bs)
half_line-unended = by-lines (λ bs. count_before newline (half_line bs) ≡ length (half_line bs))
    (λ bs e. rw (half_line-last bs e) e) (λ bs l rec. rw (half_line-next bs l) rec)

-- the same where more bytes follow
half_line-past : (bs more : List ℕ) → count_before newline bs < length bs → half_line (bs ++ more) ≡ half_line (after_first bs ++ more)
half_line-past bs more h =
    let e : count_before newline (bs ++ more) ≡ count_before newline bs = count_before-append bs more h in
    rw (e, drop-append-le (suc (count_before newline bs)) bs more h) at (half_line-next (bs ++ more) (omega (arith, length-append bs more)))

-- more bytes with a newline have the half line of all
half_line-new : (more : List ℕ) → count_before newline more < length more → (bs : List ℕ) → half_line (bs ++ more) ≡ half_line more
unfolding half_line
half_line-new more m = by-lines (λ bs. half_line (bs ++ more) ≡ half_line more)
    (λ bs e. rw (
      parts-front bs more (first_line more) (parts newline (after_first more)) e (parts-more newline more m),
      last_part-cons (bs ++ first_line more) (parts newline (after_first more)) (parts-pos newline (after_first more)),
    ) (sym (half_line-next more m)))
    (λ bs l rec. half_line-past bs more l ∙ rec)

-- more bytes without one go on with it
half_line-longer : (more : List ℕ) → count_before newline more ≡ length more → (bs : List ℕ) → half_line (bs ++ more) ≡ half_line bs ++ more
unfolding last_part half_line
half_line-longer more m = by-lines (λ bs. half_line (bs ++ more) ≡ half_line bs ++ more)
    (λ bs e. rw (parts-front bs more more [] e (parts-one newline more m), parts-one newline bs e))
    (λ bs l rec. half_line-past bs more l ∙ rec ∙ ap (λ (x : List ℕ). x ++ more) (sym (half_line-next bs l)))

-- ---- what stands for what
module _ (t : LineTexts) where
  -- lines that count as one with a third
  SameLine-trans : (l m n : List ℕ) → SameLine t l m → SameLine t m n → SameLine t l n
  SameLine-trans l m n = ⊎_elim (λ e. λ s. subst (λ x. SameLine t x n) (sym e) s)
      (λ long. ⊎_elim (λ e. inr (long.0, subst (λ (x : List ℕ). t.longest_line < length x) e long.1)) (λ longer. inr (long.0, longer.1)))

  -- two half lines that count as one print the same
  pub same-half : TooLongAlike t → (l m : List ℕ) → count_before newline l ≡ length l → count_before newline m ≡ length m
      → SameLine t l m → output_of t l ≡ output_of t m
  unfolding without_empty_last output_of
  same-half alike l m h k = ⊎_elim (λ e. ap (output_of t) e)
      (λ long. rw (lines_of-last l h, lines_of-last m k) (same-texts t alike l m [] long.0 long.1))

  -- bytes stand for themselves
  pub stands-self : (bytes : List ℕ) → StandsFor t bytes bytes []
  stands-self bytes = record { prints = λ more. refl; half = inl refl }

  -- what stands for bytes that stand for others stands for these
  pub stands-trans : {a b c o p : List ℕ} → StandsFor t a b o → StandsFor t b c p → StandsFor t a c (o ++ p)
  stands-trans {a} {b} {c} {o} {p} s r = record {
    prints = λ more. s.prints more ∙ ap (λ (x : List ℕ). o ++ x) (r.prints more) ∙ sym (append_assoc o p (output_of t (c ++ more)));
    half = SameLine-trans (half_line a) (half_line b) (half_line c) s.half r.half;
  }

  -- a piece that is read comes behind both
  pub stands-fed : {bytes held out : List ℕ} → StandsFor t bytes held out → (piece : List ℕ) → StandsFor t (bytes ++ piece) (held ++ piece) out
  stands-fed {bytes} {held} {out} s piece = record {
    prints = λ more. rw (append_assoc bytes piece more, append_assoc held piece more) (s.prints (piece ++ more));
    half = ⊎_elim (λ e. rw (half_line-longer piece e bytes, half_line-longer piece e held) (longer s.half))
        (λ l. rw (half_line-new piece l bytes, half_line-new piece l held) (inl refl)) (count_before-cases newline piece);
  }
    where
      longer : SameLine t (half_line bytes) (half_line held) → SameLine t (half_line bytes ++ piece) (half_line held ++ piece)
      longer = ⊎_elim (λ e. inl (ap (λ (x : List ℕ). x ++ piece) e))
          (λ long. inr (omega (arith, long.0, length-append (half_line bytes) piece), omega (arith, long.1, length-append (half_line held) piece)))

  -- a turn keeps the half line
  half_line-left : (bs : List ℕ) (room : ℕ) → half_line (left t room bs) ≡ half_line bs
  unfolding size
  half_line-left = by-turns t (λ room bs. half_line (left t room bs) ≡ half_line bs) (λ room bs e. rw e)
      (λ room bs h l rec. rw (left-next t room bs h l, half_line-next bs l) rec)

  -- so does the cut, or leaves one that is too long
  half_line-cut : (bs : List ℕ) → SameLine t (half_line bs) (half_line (cut_off (suc t.longest_line) bs))
  unfolding cut_off
  half_line-cut bs =
      ⊎_elim (λ e. rw (le-ltb (count_before newline bs) (length bs) (omega arith)) (by e (dec_le (length bs) (suc t.longest_line))))
      (λ l. rw (lt-ltb (count_before newline bs) (length bs) l) (inl refl)) (count_before-cases newline bs)
    where
      by : count_before newline bs ≡ length bs → Dec (length bs ≤ suc t.longest_line)
          → SameLine t (half_line bs) (half_line (take (suc t.longest_line) bs))
      by e (yes h) = rw (take_all (suc t.longest_line) bs h) (inl refl)
      by e (no h) =
          let long = length-take-le (suc t.longest_line) bs (omega arith) in
          rw (half_line-last bs e, half_line-last (take (suc t.longest_line) bs) (no-newline (suc t.longest_line) bs e))
          (inr (omega arith, omega arith))

  -- what a turn carries over stands for what was held
  pub stands-turned : TooLongAlike t → (room : ℕ) (held : List ℕ)
      → StandsFor t held (carried t room held) (texts t (answered t room held))
  unfolding carried
  stands-turned alike room held = record {
    prints = λ more. turn-law t alike room held more;
    half = rw (half_line-left held room) at (half_line-cut (left t room held));
  }
