-- What a program that answers an input line by line has appended (specs/Answering).
use Rattle.std.proofs.Common.{◌≡◌, ℕ, ◌<◌, Option, None, Some, List, [], ◌∷◌, ◌++◌, length, refl, sym, ap, subst, ◌∙◌, inl, inr, ⊎_elim, append_assoc, append-nil, arith}
use Rattle.std.proofs.lemmas.Bool.Decides.{nat_tests}
use Rattle.std.proofs.lemmas.List.{append_cancel_right}
use Rattle.std.specs.Io.KnownBytes.{Appends, Consumes, Keeps, IsAtEnd}
use Rattle.std.proofs.KnownBytes.{Appends-nil, Appends-trans, Consumes-nil, Consumes-trans, Consumes-kept, Consumes-whole}
use mathlib.Core.List.{flat_map}
use Rattle.text.specs.Bytes.{newline}
use Rattle.text.specs.Parts.{parts, count_before}
use Rattle.text.proofs.PartsLaws.{parts-pos}
use Rattle.text.specs.Stream.{LineTexts, texts, last_line, without_empty_last, lines_of, output_of}
use Rattle.text.specs.Held.{half_line, StandsFor}
use Rattle.text.specs.Runs.{TooLongAlike}
use Rattle.text.specs.Answering.{AppendsAStart, IsWholeLines, AnswersInput, AnswersAStart, AnswersWholeLines}
use Rattle.text.proofs.StreamLaws.{first_line, after_first, by-lines, without_empty_last-cons, parts-front, first-line}
use Rattle.text.proofs.HeldLaws.{half_line-last, half_line-next, half_line-unended, same-half, stands-self, stands-trans, stands-fed}

-- ---- whole lines, and the half line after them
-- no newline is in a first line
first_line-unended : (bs : List ℕ) → count_before newline (first_line bs) ≡ length (first_line bs)
unfolding count_before
first_line-unended [] = refl
first_line-unended (b ∷ bs) = grind (arith, nat_tests, first_line-unended bs)

-- its newline and the rest follow
first_line-ended : (bs : List ℕ) → count_before newline bs < length bs → bs ≡ first_line bs ++ (newline ∷ after_first bs)
unfolding count_before
first_line-ended [] h = absurd (omega arith)
first_line-ended (b ∷ bs) h = grind (arith, nat_tests, first_line-ended bs)

module _ (t : LineTexts) where
  -- a line and more: its text, and what is printed for more
  one-line : (l more : List ℕ) → count_before newline l ≡ length l → output_of t (l ++ (newline ∷ more)) ≡ t.text l ++ output_of t more
  unfolding parts flat_map texts lines_of output_of
  one-line l more h = rw (
    parts-front l (newline ∷ more) [] (parts newline more) h refl,
    append-nil l,
    without_empty_last-cons l (parts newline more) (parts-pos newline more),
  )

  -- bytes with their half line apart
  pub record Halved (bs : List ℕ) : Type 0 where
    pub whole : List ℕ
    pub splits : bs ≡ whole ++ half_line bs
    pub ended : IsWholeLines whole
    pub prints : output_of t bs ≡ output_of t whole ++ output_of t (half_line bs)

  -- all bytes are whole lines and a half line
  pub halved : (bs : List ℕ) → Halved bs
  unfolding last_line without_empty_last parts flat_map texts lines_of output_of
  halved = by-lines Halved last next
    where
      last : (bs : List ℕ) → count_before newline bs ≡ length bs → Halved bs
      last bs e = record {
        whole = [];
        splits = sym (half_line-last bs e);
        ended = inl refl;
        prints = ap (output_of t) (sym (half_line-last bs e));
      }

      ends : (l whole : List ℕ) → IsWholeLines whole → IsWholeLines (l ++ (newline ∷ whole))
      ends l whole = ⊎_elim (λ e. inr (l, ap (λ (x : List ℕ). l ++ (newline ∷ x)) e))
          (λ (front, e). inr (l ++ (newline ∷ front), ap (λ (x : List ℕ). l ++ (newline ∷ x)) e ∙ sym (append_assoc l (newline ∷ front) (newline ∷ []))))

      next : (bs : List ℕ) → count_before newline bs < length bs → Halved (after_first bs) → Halved bs
      next bs l rec =
          let line = first_line bs in
          let half = half_line (after_first bs) in
          record {
            whole = line ++ (newline ∷ rec.whole);
            splits = rw (half_line-next bs l)
                (first_line-ended bs l ∙ ap (λ (x : List ℕ). line ++ (newline ∷ x)) rec.splits ∙ sym (append_assoc line (newline ∷ rec.whole) half));
            ended = ends line rec.whole rec.ended;
            prints = rw (half_line-next bs l, one-line line rec.whole (first_line-unended bs)) (
                first-line t bs l ∙ ap (λ (x : List ℕ). t.text line ++ x) rec.prints
                ∙ sym (append_assoc (t.text line) (output_of t rec.whole) (output_of t half))
                );
          }

-- ---- what was appended
-- bytes, and then a start of others
pub append_start : (old mid new : Option (List ℕ)) (a b : List ℕ) → Appends old mid a → AppendsAStart mid new b → AppendsAStart old new (a ++ b)
append_start old mid new a b p s = record {
  start = a ++ s.start;
  rest = s.rest;
  splits = ap (λ (x : List ℕ). a ++ x) s.splits ∙ sym (append_assoc a s.start s.rest);
  appended = Appends-trans old mid new a s.start p s.appended;
}

-- a start of some bytes is a start of these and more
pub start_of_more : (old new : Option (List ℕ)) (a b : List ℕ) → AppendsAStart old new a → AppendsAStart old new (a ++ b)
start_of_more old new a b s = record {
  start = s.start;
  rest = s.rest ++ b;
  splits = ap (λ (x : List ℕ). x ++ b) s.splits ∙ append_assoc s.start s.rest b;
  appended = s.appended;
}

-- of an input some bytes were read, what is held stands for them, and what is printed for the others was
-- appended
pub record Underway (t : LineTexts) (input left old new : Option (List ℕ)) (held : List ℕ) : Type 0 where
  pub bytes : List ℕ
  pub out : List ℕ
  pub read : Consumes input left bytes
  pub appended : Appends old new out
  pub stands : StandsFor t bytes held out

-- nothing is read yet
pub begun : (t : LineTexts) (input old : Option (List ℕ)) → Underway t input input old old []
begun t input old = record {
  bytes = [];
  out = [];
  read = Consumes-nil input;
  appended = Appends-nil old;
  stands = stands-self t [];
}

module _ (t : LineTexts) (input left old new : Option (List ℕ)) (held : List ℕ) (u : Underway t input left old new held) where
  -- a piece is read
  pub fed : (left' : Option (List ℕ)) (piece : List ℕ) → Consumes left left' piece → Underway t input left' old new (held ++ piece)
  fed left' piece r = record {
    bytes = u.bytes ++ piece;
    out = u.out;
    read = Consumes-trans input left left' u.bytes piece u.read r;
    appended = u.appended;
    stands = stands-fed t u.stands piece;
  }

  -- lines are answered
  pub turned : (new' : Option (List ℕ)) (held' out : List ℕ) → StandsFor t held held' out → Appends new new' out
      → Underway t input left old new' held'
  turned new' held' out s a = record {
    bytes = u.bytes;
    out = u.out ++ out;
    read = u.read;
    appended = Appends-trans old new new' u.out out u.appended a;
    stands = stands-trans t u.stands s;
  }

  -- the input has ended: what is printed for all of it
  all-printed : output_of t u.bytes ≡ u.out ++ output_of t held
  all-printed = rw (append-nil u.bytes, append-nil held) at (u.stands.prints [])

  -- what is printed for the bytes held was appended at the input's end
  pub ended : (new' : Option (List ℕ)) → IsAtEnd left → Appends new new' (output_of t held) → AnswersInput t input left old new'
  ended new' e a = record {
    bytes = u.bytes;
    read = u.read;
    ended = e;
    appended = rw all-printed (Appends-trans old new new' u.out (output_of t held) u.appended a);
  }

  -- a start of it was appended there
  pub ended-early : (new' : Option (List ℕ)) → IsAtEnd left → AppendsAStart new new' (output_of t held) → AnswersAStart t input old new'
  ended-early new' e a =
      Consumes-whole input left u.bytes (λ bytes. AppendsAStart old new' (output_of t bytes)) u.read e
      (rw all-printed (append_start old new new' u.out (output_of t held) u.appended a))

  -- a start of what is printed for the bytes held, whatever follows, was appended
  pub unwritten : (new' : Option (List ℕ)) → ((more : List ℕ) → AppendsAStart new new' (output_of t (held ++ more)))
      → AnswersAStart t input old new'
  unwritten new' a = by input left u.read
    where
      by : (known rest : Option (List ℕ)) → Consumes known rest u.bytes → AnswersAStart t known old new'
      by None rest r = tt
      by (Some xs) None r = absurd r
      by (Some xs) (Some ys) r =
          rw (r, u.stands.prints ys) (append_start old new new' u.out (output_of t (held ++ ys)) u.appended (a ys))

  -- so far a start was appended
  pub so-far : AnswersAStart t input old new
  so-far = unwritten new (λ more. record { start = []; rest = output_of t (held ++ more); splits = refl; appended = Appends-nil new })

  -- no more can be read, and no whole line is held
  pub unread : TooLongAlike t → count_before newline held ≡ length held → (left' : Option (List ℕ)) → Keeps left left'
      → AnswersWholeLines t input left' old new
  unread alike h left' k =
      let s = halved t u.bytes in
      let half = half_line u.bytes in
      let same : output_of t half ≡ output_of t held =
      same-half t alike half held (half_line-unended u.bytes) h (rw (half_line-last held h) at u.stands.half) in
      let out : u.out ≡ output_of t s.whole =
      append_cancel_right u.out (output_of t s.whole) (output_of t held)
      (sym all-printed ∙ s.prints ∙ ap (λ (x : List ℕ). output_of t s.whole ++ x) same) in
      record {
        whole = s.whole;
        half = half;
        read = subst (Consumes input left') s.splits (Consumes-kept input left left' u.bytes u.read k);
        ended = s.ended;
        unended = half_line-unended u.bytes;
        appended = subst (Appends old new) out u.appended;
      }

-- what answer_input asks for where it stops
pub ruleset stopped = (so-far)
