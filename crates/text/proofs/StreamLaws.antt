-- An input answered line by line, a turn at a time (specs/Stream, specs/Held).
use Rattle.std.proofs.Common.{◌≡◌, ℕ, zero, suc, ◌+◌, ◌-◌, ◌≤◌, ◌<◌, List, [], ◌∷◌, ◌++◌, length, take, drop, refl, sym, ap, ◌∙◌, ⊎_elim, append_assoc, length-append, length-drop, length-take-le, drop-drop, take_all, lt-ltb, le-ltb, ne_eqb, arith}
use Rattle.std.proofs.lemmas.Bool.Decides.{nat_tests}
use Rattle.std.proofs.lemmas.List.{take-append-le, drop-append-le}
use mathlib.Core.List.{flat_map}
use native.Mathlib.Decide.{dec_le}
use Rattle.numbers.proofs.RowsLaws.{rows-append}
use Rattle.text.specs.Bytes.{newline}
use Rattle.text.specs.Parts.{parts, count_before, on_first}
use Rattle.text.proofs.PartsLaws.{count_before-le, count_before-cases, parts-one, parts-more, parts-pos}
use Rattle.text.specs.Stream.{LineTexts, texts, last_line, without_empty_last, lines_of, output_of}
use Rattle.text.specs.Held.{ended_parts, fitting, answered, size, cut_off, carried}
use Rattle.text.specs.Runs.{TooLongAlike}

-- of the bytes: those before the first newline, and those after it
abbrev pub first_line : List ℕ → List ℕ
first_line bs = take (count_before newline bs) bs

abbrev pub after_first : List ℕ → List ℕ
after_first bs = drop (suc (count_before newline bs)) bs

-- an induction on bytes, a line at a time
pub by-lines : (P : List ℕ → Type 0) → ((bs : List ℕ) → count_before newline bs ≡ length bs → P bs)
    → ((bs : List ℕ) → count_before newline bs < length bs → P (after_first bs) → P bs) → (bs : List ℕ) → P bs
by-lines P last next bs = go (length bs) bs (omega arith)
  where
    go : (k : ℕ) (bs : List ℕ) → length bs ≤ k → P bs
    go zero bs h = last bs (omega (arith, count_before-le newline bs))
    go (suc k) bs h =
        ⊎_elim (last bs)
        (λ l. next bs l (go k (after_first bs) (omega (arith, length-drop (suc (count_before newline bs)) bs))))
        (count_before-cases newline bs)

-- a line before others: it is ended, and kept even where it is empty
ended_parts-cons : (l : List ℕ) (ps : List (List ℕ)) → 0 < length ps → ended_parts (l ∷ ps) ≡ l ∷ ended_parts ps
unfolding ended_parts
ended_parts-cons l [] h = absurd (omega arith)
ended_parts-cons l (p ∷ ps) h = refl

pub without_empty_last-cons : (l : List ℕ) (ps : List (List ℕ)) → 0 < length ps → without_empty_last (l ∷ ps) ≡ l ∷ without_empty_last ps
unfolding without_empty_last
without_empty_last-cons l [] h = absurd (omega arith)
without_empty_last-cons l (p ∷ ps) h = refl

-- sizes add up
pub size-append : (a b : List (List ℕ)) → size (a ++ b) ≡ size a + size b
unfolding size
size-append [] b = omega arith
size-append (l ∷ a) b = omega (arith, size-append a b)

-- the first newline of a is that of a and whatever follows
pub count_before-append : (a f : List ℕ) → count_before newline a < length a → count_before newline (a ++ f) ≡ count_before newline a
unfolding count_before
count_before-append [] f h = absurd (omega arith)
count_before-append (b ∷ a) f h = grind (arith, nat_tests, count_before-append a f)

-- ---- bytes with no newline
-- what is taken of bytes without a newline has none
pub no-newline : (k : ℕ) (r : List ℕ) → count_before newline r ≡ length r → count_before newline (take k r) ≡ length (take k r)
unfolding count_before
no-newline zero r h = refl
no-newline (suc k) [] h = refl
no-newline (suc k) (b ∷ r) h = grind (arith, nat_tests, no-newline k r)

-- bytes without a newline go to the front of the first part of what follows
pub parts-front : (r f p : List ℕ) (ps : List (List ℕ)) → count_before newline r ≡ length r → parts newline f ≡ p ∷ ps
    → parts newline (r ++ f) ≡ (r ++ p) ∷ ps
unfolding parts count_before on_first
parts-front [] f p ps h e = e
parts-front (b ∷ r) f p ps h e = grind (arith, nat_tests, parts-front r f p ps)

-- bytes without a newline are one part, and so the last line
pub lines_of-last : (held : List ℕ) → count_before newline held ≡ length held → lines_of held ≡ last_line held
unfolding without_empty_last lines_of
lines_of-last held h = ap without_empty_last (parts-one newline held h)

module _ (t : LineTexts) where
  -- one part: no line is ended
  pub none-left : (room : ℕ) (bs : List ℕ) → count_before newline bs ≡ length bs → answered t room bs ≡ []
  unfolding answered ended_parts fitting
  none-left room bs e = rw (parts-one newline bs e)

  -- no room for the longest text: not even the first line is answered
  pub full : (room : ℕ) (bs : List ℕ) → room < t.longest_text → answered t room bs ≡ []
  unfolding answered fitting
  full room bs h = by-lines (ended_parts (parts newline bs))
    where
      by-lines : (ls : List (List ℕ)) → fitting t room ls ≡ []
      by-lines [] = refl
      by-lines (l ∷ ls) = rw (lt-ltb room t.longest_text h)

  -- room and a newline: the first line is answered, and the rest as a turn with less room would
  pub next-line : (room : ℕ) (bs : List ℕ) → t.longest_text ≤ room → count_before newline bs < length bs
      → answered t room bs ≡ first_line bs ∷ answered t (room - length (t.text (first_line bs))) (after_first bs)
  unfolding answered fitting
  next-line room bs h l = rw (parts-more newline bs l, ended_parts-cons (first_line bs) (parts newline (after_first bs)) (parts-pos newline (after_first bs)), le-ltb room t.longest_text h)

  -- what a turn leaves
  abbrev pub left : ℕ → List ℕ → List ℕ
  left room bs = drop (size (answered t room bs)) bs

  -- where the first line is answered, what the rest's turn leaves
  pub left-next : (room : ℕ) (bs : List ℕ) → t.longest_text ≤ room → count_before newline bs < length bs
      → left room bs ≡ left (room - length (t.text (first_line bs))) (after_first bs)
  unfolding size
  left-next room bs h l =
      let rest : List (List ℕ) = answered t (room - length (t.text (first_line bs))) (after_first bs) in
      let n : length (first_line bs) + 1 + size rest ≡ suc (count_before newline bs) + size rest =
      omega (arith, length-take-le (count_before newline bs) bs (count_before-le newline bs)) in
      rw (next-line room bs h l) (ap (λ k. drop k bs) n ∙ sym (drop-drop (size rest) (suc (count_before newline bs)) bs))

  -- an induction on a turn: nothing is answered, or the first line is
  pub by-turns : (P : ℕ → List ℕ → Type 0) → ((room : ℕ) (bs : List ℕ) → answered t room bs ≡ [] → P room bs)
      → ((room : ℕ) (bs : List ℕ) → t.longest_text ≤ room → count_before newline bs < length bs
      → P (room - length (t.text (first_line bs))) (after_first bs) → P room bs)
      → (bs : List ℕ) (room : ℕ) → P room bs
  by-turns P none next = by-lines (λ bs. (room : ℕ) → P room bs) (λ bs e room. none room bs (none-left room bs e))
      (λ bs l rec room. go bs l room (rec (room - length (t.text (first_line bs)))) (dec_le t.longest_text room))
    where
      go : (bs : List ℕ) → count_before newline bs < length bs → (room : ℕ)
          → P (room - length (t.text (first_line bs))) (after_first bs) → Dec (t.longest_text ≤ room) → P room bs
      go bs l room rec (yes h) = next room bs h l rec
      go bs l room rec (no n) = none room bs (full room bs (omega arith))

  -- texts of two stretches of lines
  pub texts-append : (a b : List (List ℕ)) → texts t (a ++ b) ≡ texts t a ++ texts t b
  unfolding texts
  texts-append a b = rows-append t.text a b

  -- the first line's text, and the rest's
  pub first-line : (bs : List ℕ) → count_before newline bs < length bs → output_of t bs ≡ t.text (first_line bs) ++ output_of t (after_first bs)
  unfolding flat_map texts lines_of output_of
  first-line bs h =
      ap (λ (ps : List (List ℕ)). texts t (without_empty_last ps)) (parts-more newline bs h)
      ∙ ap (texts t) (without_empty_last-cons (first_line bs) (parts newline (after_first bs)) (parts-pos newline (after_first bs)))

  -- the same where more follows: the first newline is that of the first stretch
  first-of : (a f : List ℕ) → count_before newline a < length a
      → output_of t (a ++ f) ≡ t.text (first_line a) ++ output_of t (after_first a ++ f)
  first-of a f h =
      let e : count_before newline (a ++ f) ≡ count_before newline a = count_before-append a f h in
      rw (e, take-append-le (count_before newline a) a f (omega arith), drop-append-le (suc (count_before newline a)) a f h) at
      (first-line (a ++ f) (omega (arith, length-append a f)))

  -- a turn prints the texts of the lines that it answers
  lines-law : (f a : List ℕ) (room : ℕ) → output_of t (a ++ f) ≡ texts t (answered t room a) ++ output_of t (left room a ++ f)
  unfolding flat_map texts size
  lines-law f = by-turns (λ room a. output_of t (a ++ f) ≡ texts t (answered t room a) ++ output_of t (left room a ++ f))
      (λ room a e. rw e)
      (λ room a h l rec.
      let line = first_line a in
      let rest : List (List ℕ) = answered t (room - length (t.text (first_line a))) (after_first a) in
      rw (left-next room a h l, next-line room a h l) (
      first-of a f l ∙ ap (λ (x : List ℕ). t.text line ++ x) rec ∙ sym (append_assoc (t.text line) (texts t rest) _)
      ))

  -- ---- a line that is too long
  module _ (alike : TooLongAlike t) where
    -- a first line that is too long may be replaced by another that is
    pub same-texts : (a b : List ℕ) (ps : List (List ℕ)) → t.longest_line < length a → t.longest_line < length b
        → texts t (without_empty_last (a ∷ ps)) ≡ texts t (without_empty_last (b ∷ ps))
    unfolding flat_map texts last_line without_empty_last
    same-texts a b [] h k =
        rw (ne_eqb (length a) 0 (λ e. omega arith), ne_eqb (length b) 0 (λ e. omega arith)) (ap (λ (x : List ℕ). x ++ []) (alike a b h k))
    same-texts a b (q ∷ ps) h k = ap (λ (x : List ℕ). x ++ texts t (without_empty_last (q ∷ ps))) (alike a b h k)

    -- so bytes without a newline that are too long may be cut to one more than the longest line
    too-long : (r f : List ℕ) → count_before newline r ≡ length r → suc t.longest_line < length r
        → output_of t (r ++ f) ≡ output_of t (take (suc t.longest_line) r ++ f)
    unfolding lines_of output_of
    too-long r f h l = by (parts newline f) refl (parts-pos newline f)
      where
        cut : List ℕ
        cut = take (suc t.longest_line) r

        by : (ps : List (List ℕ)) → parts newline f ≡ ps → 0 < length ps
            → texts t (without_empty_last (parts newline (r ++ f))) ≡ texts t (without_empty_last (parts newline (cut ++ f)))
        by [] e n = absurd (omega arith)
        by (p ∷ ps) e n =
            let long = length-take-le (suc t.longest_line) r in
            rw (parts-front r f p ps h e, parts-front cut f p ps (no-newline (suc t.longest_line) r h) e)
            (same-texts (r ++ p) (cut ++ p) ps (omega (arith, length-append r p))
            (omega (arith, length-append cut p, long (omega arith))))

    -- what is carried over stands for the bytes that it is cut from: these are whole where a newline or few
    -- bytes are left
    cut-law : (r f : List ℕ) → output_of t (r ++ f) ≡ output_of t (cut_off (suc t.longest_line) r ++ f)
    unfolding cut_off
    cut-law r f =
        ⊎_elim (λ e. rw (le-ltb (count_before newline r) (length r) (omega arith)) (by e (dec_le (length r) (suc t.longest_line))))
        (λ l. rw (lt-ltb (count_before newline r) (length r) l)) (count_before-cases newline r)
      where
        by : count_before newline r ≡ length r → Dec (length r ≤ suc t.longest_line)
            → output_of t (r ++ f) ≡ output_of t (take (suc t.longest_line) r ++ f)
        by e (yes h) = rw (take_all (suc t.longest_line) r h)
        by e (no h) = too-long r f e (omega arith)

    -- the two together: the lines answered, then the cut
    pub turn-law : (room : ℕ) (held f : List ℕ) → output_of t (held ++ f)
        ≡ texts t (answered t room held) ++ output_of t (carried t room held ++ f)
    unfolding carried
    turn-law room held f =
        lines-law f held room ∙ ap (λ (x : List ℕ). texts t (answered t room held) ++ x) (cut-law (left room held) f)

  -- a whole line would have printed its text, which has a byte at least
  pub nothing-left : (room : ℕ) (held : List ℕ) → ((l : List ℕ) → 0 < length (t.text l)) → t.longest_text ≤ room
      → length (texts t (answered t room held)) ≡ 0 → count_before newline held ≡ length held
  unfolding flat_map texts
  nothing-left room held some h e =
      ⊎_elim (λ s. s) (λ l. absurd (by l (ap (λ (ls : List (List ℕ)). length (texts t ls)) (next-line room held h l))))
      (count_before-cases newline held)
    where
      rest : List (List ℕ)
      rest = answered t (room - length (t.text (first_line held))) (after_first held)

      by : count_before newline held < length held → length (texts t (answered t room held))
          ≡ length (t.text (first_line held) ++ texts t rest) → ⊥
      by l n = omega (arith, some (first_line held), length-append (t.text (first_line held)) (texts t rest))

  -- with no newline held nothing is answered, and the cut makes none
  pub carried-newline : (room : ℕ) (held : List ℕ) → count_before newline held ≡ length held
      → count_before newline (carried t room held) ≡ length (carried t room held)
  unfolding size cut_off carried
  carried-newline room held h =
      rw (none-left room held h, le-ltb (count_before newline held) (length held) (omega arith)) (no-newline (suc t.longest_line) held h)
