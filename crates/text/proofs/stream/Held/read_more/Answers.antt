-- `text::stream::Held::read_more` meets its contract: what is held is followed by the start of what was lent
-- to the read.
use Rattle.std.proofs.Common.{◌≡◌, ℕ, ◌+◌, ◌-◌, ◌≤◌, List, ◌++◌, length, take, drop, ap, ◌∙◌, le_refl, length-take-le, drop_at, arith}
use Rattle.std.proofs.lemmas.Slice.{take-put_mid_below}
use borrow.Rule.Slice.PartMut.{put_mid, post_of}
use lib.Seq.{take-add, take-append-le}
use Rattle.text.proofs.stream.Held.read_more.Goals as goal

-- a buffer, in which from place a on ys was put: its first a bytes and the first n of ys
front : (a k n : ℕ) (xs ys : List ℕ) → a ≤ length xs → n ≤ length ys → take (a + n) (put_mid a k xs ys) ≡ take a xs ++ take n ys
front a k n xs ys within fits =
    take-add a n (put_mid a k xs ys)
    ∙ ap (λ (l : List ℕ). l ++ take n (drop a (put_mid a k xs ys))) (take-put_mid_below a k xs ys a (le_refl a) within)
    ∙ ap (λ (l : List ℕ). take a xs ++ take n l) (drop_at (take a xs) (ys ++ post_of a k xs) a (length-take-le a xs within))
    ∙ ap (λ (l : List ℕ). take a xs ++ l) (take-append-le n ys (post_of a k xs) fits)

pub returns-clause-piece : goal.returns-clause-piece
returns-clause-piece g c =
    let held = c.self.inside in
    let room = c.read_piece.new.room in
    let n = c.in_ok-n.n in
    let joined = front held.count (65536 - held.count) n held.buffer room (omega (arith, c.self.invariant, c.self.told)) c.in_ok-n.ensures.count in
    (take n room, joined ∙ ap (λ (l : List ℕ). l ++ take n room) c.self.view_is, c.in_ok-n.ensures.piece)
