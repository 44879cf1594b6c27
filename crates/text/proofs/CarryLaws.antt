-- Bytes carried over to the start of a buffer (specs/Held).
use Rattle.std.proofs.Common.{◌≡◌, ℕ, suc, ◌≤◌, ◌<◌, min, cond, eqb, ltb, List, [], ◌∷◌, length, take, drop, refl, ap, ⊎_elim, length-take, length-drop, take_all, le-ltb, arith}
use Rattle.std.specs.List.{list_any}
use Rattle.std.proofs.lemmas.Bool.Decides.{nat_tests}
use Rattle.std.proofs.lemmas.List.{take_min}
use mathlib.Core.List.{flat_map}
use Rattle.text.specs.Bytes.{newline}
use Rattle.text.specs.Parts.{count_before}
use Rattle.text.specs.Stream.{LineTexts, texts}
use Rattle.text.proofs.PartsLaws.{count_before-cases}
use Rattle.text.specs.Held.{answered, size, cut_off, carried}
use Rattle.text.proofs.StreamLaws.{none-left, next-line}

-- ---- how many bytes are kept
-- a newline is held
holds-newline : (r : List ℕ) → ltb (count_before newline r) (length r) ≡ list_any (λ b. eqb b newline) r
unfolding count_before
holds-newline [] = refl
holds-newline (b ∷ r) = grind (arith, nat_tests, holds-newline r)

module _ (kept : ℕ) where
  -- how many bytes are kept
  pub length_cut_off : (r : List ℕ) → length (cut_off kept r) ≡ cond (list_any (λ b. eqb b newline) r) (length r) (min kept (length r))
  unfolding cut_off
  length_cut_off r = grind (arith, nat_tests, holds-newline r, length-take {A = ℕ})

  -- no more than there are
  pub cut-le : (r : List ℕ) → length (cut_off kept r) ≤ length r
  cut-le r = grind (arith, nat_tests, length_cut_off r)

  -- they are the first of them
  pub cut-is : (r : List ℕ) → take (length (cut_off kept r)) r ≡ cut_off kept r
  unfolding cut_off
  cut-is r = grind (arith, nat_tests, length-take {A = ℕ}, take_all {A = ℕ}, take_min {X = ℕ})

-- ---- what a turn carries over
module _ (t : LineTexts) where
  -- where no whole line is left, one more than the longest line at most is carried over
  pub carried-short : (room : ℕ) (held : List ℕ) → count_before newline held ≡ length held
      → length (carried t room held) ≤ suc t.longest_line
  unfolding size cut_off carried
  carried-short room held h =
      rw (none-left t room held h, le-ltb (count_before newline held) (length held) (omega arith))
      (omega (arith, length-take (suc t.longest_line) held))

  -- a turn with a whole line before it leaves less
  pub carried-less : (room : ℕ) (held : List ℕ) → t.longest_text ≤ room → count_before newline held < length held
      → length (carried t room held) < length held
  unfolding size carried
  carried-less room held fits h =
      omega (
        arith,
        cut-le (suc t.longest_line) (drop (size (answered t room held)) held),
        length-drop (size (answered t room held)) held,
        ap size (next-line t room held fits h),
      )

  -- so does one that answers something
  pub answered-less : (room : ℕ) (held : List ℕ) → t.longest_text ≤ room → 0 < length (texts t (answered t room held))
      → length (carried t room held) < length held
  unfolding flat_map texts
  answered-less room held fits h =
      ⊎_elim (λ e. absurd (omega (arith, ap (λ (ls : List (List ℕ)). length (texts t ls)) (none-left t room held e))))
      (carried-less room held fits) (count_before-cases newline held)
