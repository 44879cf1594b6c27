-- Runs over an input in pieces (specs/Runs).
use Rattle.std.proofs.Common.{◌≡◌, ℕ, zero, suc, ◌≤◌, List, [], ◌∷◌, ◌++◌, length, sym, ap, ◌∙◌, ⊎_elim, append_assoc, append-nil, arith}
use Rattle.text.specs.Bytes.{newline}
use Rattle.text.proofs.PartsLaws.{count_before-le, count_before-cases}
use Rattle.text.specs.Stream.{LineTexts, texts, output_of}
use Rattle.text.specs.Held.{answered, carried}
use Rattle.text.specs.Runs.{Run, feed, turn, end, joined_pieces, TooLongAlike, AnyPieces, SomeRun}
use Rattle.text.proofs.StreamLaws.{lines_of-last, turn-law}
use Rattle.text.proofs.CarryLaws.{carried-less}

-- what a run prints from there on
run-law : (t : LineTexts) → TooLongAlike t → {room : ℕ} {held out : List ℕ} {pieces : List (List ℕ)}
    → Run t room held pieces out → out ≡ output_of t (held ++ joined_pieces pieces)
unfolding output_of joined_pieces
run-law t alike (feed held piece pieces out r) = run-law t alike r ∙ ap (output_of t) (append_assoc held piece (joined_pieces pieces))
run-law t alike {room = room} (turn held pieces out r) =
    ap (λ (x : List ℕ). texts t (answered t room held) ++ x) (run-law t alike r) ∙ sym (turn-law t alike room held (joined_pieces pieces))
run-law t alike (end held h) = sym (ap (texts t) (lines_of-last held h)) ∙ ap (output_of t) (sym (append-nil held))

-- whatever pieces an input comes in, a run prints the texts of its lines
pub any-pieces : AnyPieces
any-pieces t alike room pieces out r = run-law t alike r

module _ (t : LineTexts) (room : ℕ) (fits : t.longest_text ≤ room) where
  -- turns until no whole line is left, and the end
  ending : (k : ℕ) (held : List ℕ) → length held ≤ k → (out : List ℕ) × Run t room held [] out
  ending zero held h = (_, end held (omega (arith, count_before-le newline held)))
  ending (suc k) held h = ⊎_elim (λ e. (_, end held e))
      (λ l. more (ending k (carried t room held) (omega (arith, carried-less t room held fits l)))) (count_before-cases newline held)
    where
      more : (out : List ℕ) × Run t room (carried t room held) [] out → (out : List ℕ) × Run t room held [] out
      more (out, r) = (_, turn held [] out r)

  -- pieces come in one after the other, and then the end
  fed : (held : List ℕ) (pieces : List (List ℕ)) → (out : List ℕ) × Run t room held pieces out
  fed held [] = ending (length held) held (omega arith)
  fed held (p ∷ ps) = let r = fed (held ++ p) ps in (r.0, feed held p ps r.0 r.1)

-- there is a run for any pieces
pub some-run : SomeRun
some-run t room fits pieces = fed t room fits [] pieces
