-- Numbers and rows written into a buffer (specs/Decimal), over proofs/DigitLaws and proofs/BufferLaws.
use Rattle.std.proofs.Common.{◌≡◌, ℕ, ◌+◌, ◌-◌, ◌/◌, ◌%◌, ◌^◌, suc, ◌≤◌, ◌<◌, List, [], ◌∷◌, ◌++◌, length, get_or, take, drop, set, sym, refl, ap, ◌∙◌, add-zero, zero-add, append_assoc, append-nil, arith, length-append, take-append-drop, drop-drop, length-take-le, length-set}
use mathlib.Core.List.{flat_map}
use Rattle.std.proofs.lemmas.List.{length_push, take_more, set_at}
use Rattle.numbers.specs.Bounds.{AllAtMost}
use Rattle.numbers.proofs.RowsLaws.{rows-append, rows-next}
use Rattle.text.specs.Bytes.{tab}
use Rattle.text.specs.Decimal.{decimal, figures_text, row_text}
use Rattle.text.specs.Buffer.{written, Wrote}
use Rattle.text.proofs.DigitLaws.{decimal_pos, decimal-small, decimal-more, decimal-room, decimal-mono}
use Rattle.text.proofs.BufferLaws.{rest_of, put_rest, nothing, then, then-byte}

-- ---- a number, from its last digit on
-- the digits of n behind those of rest are written, from a place on
pub record Filling (n : ℕ) (old new : List ℕ) (rest place : ℕ) : Type 0 where
  pub later : List ℕ
  pub all : decimal n ≡ decimal rest ++ later
  pub ends : place ≡ length (decimal rest)
  pub within : place ≤ length (decimal n)
  pub content : new ≡ take place old ++ (later ++ drop (place + length later) old)

-- at the start no digit is written
pub nothing-filled : (n : ℕ) (old : List ℕ) → Filling n old old n (length (decimal n))
nothing-filled n old = record {
  later = [];
  all = sym (append-nil (decimal n));
  ends = refl;
  within = omega arith;
  content = rw add-zero (sym (take-append-drop (length (decimal n)) old));
}

module _ {n rest place : ℕ} {old new : List ℕ} (f : Filling n old new rest place) (room : length (decimal n) ≤ length old) where
  -- a digit before those that are written
  before : (q digit : ℕ) → place ≡ q + 1
      → set new q digit ≡ take q old ++ ((digit ∷ f.later) ++ drop (q + length (digit ∷ f.later)) old)
  before q digit e =
      let inside : q < length old = omega (arith, f.within) in
      let seam : q + 1 + length f.later ≡ q + suc (length f.later) = omega arith in
      ap (λ x. set x q digit) (f.content ∙ ap (λ p. take p old ++ (f.later ++ drop (p + length f.later) old)) e)
      ∙ rw (take_more old q 0, append_assoc, seam)
      (set_at (take q old) (get_or old q 0) _ digit q (length-take-le q old (omega arith)))

  -- one digit more
  pub one-filled : (q : ℕ) → place ≡ q + 1 → 9 < rest → rest < 2 ^ 64 → Filling n old (set new q (48 + rest % 10)) (rest / 10) q
  one-filled q e h fits =
      let digit : List ℕ = (48 + rest % 10) ∷ [] in
      let digits : decimal rest ≡ decimal (rest / 10) ++ ((48 + rest % 10) ∷ []) = decimal-more rest h fits in
      record {
        later = (48 + rest % 10) ∷ f.later;
        all = f.all ∙ ap (λ x. x ++ f.later) digits ∙ append_assoc (decimal (rest / 10)) digit f.later;
        ends = omega (arith, f.ends, ap length digits, length_push (decimal (rest / 10)) (48 + rest % 10));
        within = omega (arith, f.within);
        content = before q (48 + rest % 10) e;
      }

  -- the last one
  pub all-filled : rest < 10 → Wrote (decimal n) old (set new 0 (48 + rest)) (length (decimal n))
  unfolding written
  all-filled h =
      let digit : decimal rest ≡ (48 + rest) ∷ [] = decimal-small rest h in
      let all : (48 + rest) ∷ f.later ≡ decimal n = sym (f.all ∙ ap (λ x. x ++ f.later) digit) in
      record {
        content = before 0 (48 + rest) (omega (arith, f.ends, ap length digit)) ∙ rw zero-add (ap (λ x. x ++ drop (length x) old) all);
        count = refl;
      }

-- what put_number asks for
pub ruleset filling = (decimal_pos, nothing-filled, one-filled)

-- ---- numbers after tabs
-- one number more
pub figures_text-next : (ns : List ℕ) (i : ℕ) → i < length ns
    → figures_text (take (i + 1) ns) ≡ figures_text (take i ns) ++ (9 ∷ decimal (get_or ns i 0))
unfolding figures_text
figures_text-next ns i h = rows-next _ ns i 0 h

-- the room that the numbers up to one take
pub figures_text-room : (ns : List ℕ) (i : ℕ) → length (figures_text (take i ns)) ≤ length (figures_text ns)
unfolding figures_text
figures_text-room ns i =
    omega (
      arith,
      ap (λ (l : List ℕ). length (figures_text l)) (take-append-drop i ns),
      ap length (rows-append (λ n. tab ∷ decimal n) (take i ns) (drop i ns)),
      length-append (figures_text (take i ns)) (figures_text (drop i ns)),
    )

-- the room that a row takes
pub row_text-length : (b : ℕ) (ns : List ℕ) → length (row_text b ns) ≡ length (figures_text ns) + 2
unfolding row_text
row_text-length b ns = omega (arith, length-append (figures_text ns) (10 ∷ []))

-- there is room for one number more
pub next-room : (ns : List ℕ) (i : ℕ) → i < length ns
    → length (figures_text (take i ns)) + 1 + length (decimal (get_or ns i 0)) ≤ length (figures_text ns)
next-room ns i h = omega (
  arith,
  figures_text-room ns (i + 1),
  ap length (figures_text-next ns i h),
  length-append (figures_text (take i ns)) (9 ∷ decimal (get_or ns i 0)),
)

-- a turn: a tab, and the number
pub next-number : {old out new : List ℕ} {p n : ℕ} (ns : List ℕ) (i : ℕ) → i < length ns → length (figures_text ns) ≤ length old
    → Wrote (figures_text (take i ns)) old out p
    → Wrote (decimal (get_or ns i 0)) (rest_of (p + 1) (set out p 9)) new n
    → Wrote (figures_text (take (i + 1) ns)) old (put_rest (p + 1) (set out p 9) new) (p + 1 + n)
next-number ns i h room w v =
    let fits = next-room ns i h in
    rw (figures_text-next ns i h) (rw append_assoc at (then (then-byte w 9 (omega arith)) v))

-- a row: its first byte, the numbers, a newline
pub row-written : {old out : List ℕ} {n : ℕ} (b : ℕ) (ns : List ℕ) → length (row_text b ns) ≤ length old
    → Wrote (figures_text ns) (rest_of 1 (set old 0 b)) out n
    → Wrote (row_text b ns) old (set (put_rest 1 (set old 0 b) out) (1 + n) 10) (1 + n + 1)
unfolding row_text
row-written b ns room w =
    let ended = length_push (figures_text ns) 10 in
    then-byte (then (then-byte nothing b (omega arith)) w) 10 (omega arith)

-- what put_figures and put_row ask for
pub ruleset pieces = (row-written, next-room, row_text-length, length-set)

-- a row with one number has at most 23 bytes
pub row_text-one : (b n : ℕ) → length (row_text b (n ∷ [])) ≤ 23
unfolding row_text figures_text flat_map
row_text-one b n = omega (arith, decimal-room n, length-append ((decimal n ++ [])) (10 ∷ []), length-append (decimal n) [])

-- smaller numbers take no more room
pub figures_text-mono : (ms ns : List ℕ) → AllAtMost ms ns → length (figures_text ms) ≤ length (figures_text ns)
unfolding figures_text flat_map
figures_text-mono [] [] h = omega arith
figures_text-mono [] (n ∷ ns) h = absurd h
figures_text-mono (m ∷ ms) [] h = absurd h
figures_text-mono (m ∷ ms) (n ∷ ns) h =
    omega (
      arith,
      decimal-mono m n h.0,
      figures_text-mono ms ns h.1,
      length-append (decimal m) (figures_text ms),
      length-append (decimal n) (figures_text ns),
    )
