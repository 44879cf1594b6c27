-- Lines of a block answered one after the other, and the last line (specs/Held, specs/Stream).
use Rattle.std.proofs.Common.{◌≡◌, ℕ, suc, ◌+◌, ◌-◌, ◌≤◌, ◌<◌, List, [], ◌∷◌, ◌++◌, length, take, drop, refl, sym, ap, ◌∙◌, append_assoc, append-nil, length-drop, length-take-le, drop-drop, ne_eqb, arith}
use mathlib.Core.List.{flat_map}
use Rattle.text.specs.Bytes.{newline}
use Rattle.text.specs.Parts.{count_before}
use Rattle.text.specs.Buffer.{Wrote}
use Rattle.text.proofs.BufferLaws.{rest_of, put_rest, nothing, then}
use Rattle.text.specs.Stream.{LineTexts, texts, last_line, output_of}
use Rattle.text.specs.Held.{answered, size}
use Rattle.text.proofs.StreamLaws.{texts-append, size-append, lines_of-last, next-line}

-- ---- lines answered one after the other
-- some lines of a block are answered, and what is left to do
pub record Answering (t : LineTexts) (block old new : List ℕ) (read written : ℕ) : Type 0 where
  pub done : List (List ℕ)
  pub all : answered t (length old) block ≡ done ++ answered t (length old - written) (drop read block)
  pub wrote : Wrote (texts t done) old new written
  pub reads : read ≡ size done
  pub within : read ≤ length block
  pub room : written ≤ length old

-- at the start nothing is answered
pub begun : (t : LineTexts) (block old : List ℕ) → Answering t block old old 0 0
unfolding flat_map texts size
begun t block old = record {
  done = [];
  all = ap (λ (r : ℕ). answered t r block) (omega arith);
  wrote = nothing;
  reads = refl;
  within = omega arith;
  room = omega arith;
}

one-text : (t : LineTexts) (l : List ℕ) → texts t (l ∷ []) ≡ t.text l
unfolding flat_map texts
one-text t l = append-nil (t.text l)

module _ (t : LineTexts) (block old mid : List ℕ) (p w : ℕ) (a : Answering t block old mid p w) where
  -- one line more, which has n bytes
  pub answered-one : (new : List ℕ) (n v : ℕ) → n ≡ count_before newline (drop p block) → n < length (drop p block)
      → w + t.longest_text ≤ length old → length (t.text (take n (drop p block))) ≤ t.longest_text
      → Wrote (t.text (take n (drop p block))) (rest_of w mid) new v
      → Answering t block old (put_rest w mid new) (p + (n + 1)) (w + v)
  unfolding size
  answered-one new n v b h room small wr =
      let line : List ℕ = take n (drop p block) in
      let r : length old - w - length (t.text (take n (drop p block))) ≡ length old - (w + v) = omega (arith, wr.count) in
      let u : p + suc n ≡ p + (n + 1) = omega arith in
      let next : answered t (length old - w) (drop p block) ≡ line ∷ answered t (length old - (w + v)) (drop (p + (n + 1)) block) =
      rw (sym b, drop-drop, r, u) at (next-line t (length old - w) (drop p block) (omega arith) (omega arith)) in
      let long : length (take n (drop p block)) ≡ n = length-take-le n (drop p block) (omega arith) in
      record {
        done = a.done ++ (line ∷ []);
        all = a.all ∙ ap (λ (x : List (List ℕ)). a.done ++ x) next
            ∙ sym (append_assoc a.done (line ∷ []) (answered t (length old - (w + v)) (drop (p + (n + 1)) block)));
        wrote = rw (texts-append t a.done (line ∷ []), one-text t line) (then a.wrote wr);
        reads = omega (arith, a.reads, size-append a.done (line ∷ []));
        within = omega (arith, length-drop p block);
        room = omega (arith, wr.count);
      }

  -- at the end no whole line is left, or no room
  pub stopped : answered t (length old - w) (drop p block) ≡ []
      → (p ≡ size (answered t (length old) block)) ×
      (Wrote (texts t (answered t (length old) block)) old mid w × ((p ≤ length block) × (w ≤ length old)))
  stopped n =
      let d : answered t (length old) block ≡ a.done = a.all ∙ ap (λ (x : List (List ℕ)). a.done ++ x) n ∙ append-nil a.done in
      (a.reads ∙ ap size (sym d), (rw d a.wrote, (a.within, a.room)))

-- ---- the last line
module _ (t : LineTexts) (held : List ℕ) (h : count_before newline held ≡ length held) where
  -- nothing is left
  pub last-none : (old : List ℕ) → length held ≡ 0 → Wrote (output_of t held) old old 0
  unfolding flat_map texts last_line output_of
  last-none old z = rw (lines_of-last held h, z) nothing

  -- one line is left
  pub last-one : (length held ≡ 0 → ⊥) → output_of t held ≡ t.text held
  unfolding last_line output_of
  last-one n = rw (lines_of-last held h, ne_eqb (length held) 0 n) (one-text t held)
