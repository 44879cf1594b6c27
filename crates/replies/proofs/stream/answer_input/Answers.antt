-- `replies::stream::answer_input` meets its contract: at each turn, what is held stands for what was read,
-- and what is printed for the rest was appended.
use Rattle.std.proofs.Common.{◌++◌, refl, arith}
use Rattle.std.proofs.lemmas.Result.{err_from_is_err_and, on_ok_weaker, on_err_weaker}
use Rattle.std.proofs.KnownBytes.{Keeps-refl}
use Rattle.text.specs.Parts.{count_before}
use Rattle.text.proofs.BufferLaws.{front}
use Rattle.text.proofs.AnsweringLaws.{begun, fed, turned, ended, ended-early, unwritten, unread}
use Rattle.replies.specs.Output.{line_texts}
use Rattle.replies.proofs.OutputLaws.{too-long-alike}
use Rattle.replies.proofs.stream.answer_input.Goals as goal

pub loop-init : goal.loop-init
unfolding count_before
loop-init g c = rw c.new-held.ensures (begun line_texts _ _, refl, omega arith)

-- the input can't be read
pub returns-in_err-read_more-clause-unread : goal.returns-in_err-read_more-clause-unread
returns-in_err-read_more-clause-unread g c =
    let u = c.loop.invariant in
    λ h. unread line_texts _ _ _ _ c.loop.held u.0 too-long-alike u.1 _ c.in_err-read_more.ensures.unread.1

-- the input has ended
pub returns-then-not-branch-clause-answered : goal.returns-then-not-branch-clause-answered
returns-then-not-branch-clause-answered g c =
    let read = c.in_ok-read_more.ensures in
    let u = fed line_texts _ _ _ _ c.loop.held c.loop.invariant.0 _ read.piece.0 read.piece.2 in
    let all = rw (c.bytes.ensures, read.piece.1) at (front c.answer_last-written.ensures.wrote) in
    on_ok_weaker c.write_whole.result
    (λ whole. ended line_texts _ _ _ _ (c.loop.held ++ read.piece.0) u _ (read.end c.if-not-branch.true) (rw all at whole))
    c.write_whole.ensures.whole

pub returns-then-not-branch-clause-stopped : goal.returns-then-not-branch-clause-stopped
returns-then-not-branch-clause-stopped g c =
    let read = c.in_ok-read_more.ensures in
    let u = fed line_texts _ _ _ _ c.loop.held c.loop.invariant.0 _ read.piece.0 read.piece.2 in
    let all = rw (c.bytes.ensures, read.piece.1) at (front c.answer_last-written.ensures.wrote) in
    on_err_weaker c.write_whole.result
    (λ start. ended-early line_texts _ _ _ _ (c.loop.held ++ read.piece.0) u _ (read.end c.if-not-branch.true) (rw all at start))
    c.write_whole.ensures.start

-- lines are answered
pub returns-in_err-answer_lines-clause-stopped : goal.returns-in_err-answer_lines-clause-stopped
returns-in_err-answer_lines-clause-stopped g c =
    let read = c.in_ok-read_more.ensures.piece in
    let u = fed line_texts _ _ _ _ c.loop.held c.loop.invariant.0 _ read.0 read.2 in
    let left = c.from_residual-in_err-answer_lines in
    let p = err_from_is_err_and left.result left.ensures.1 in
    rw p.1 (unwritten line_texts _ _ _ _ (c.loop.held ++ read.0) u _ (rw read.1 at c.in_err-answer_lines.ensures.unwritten))

pub loop-preserved : goal.loop-preserved
loop-preserved g c =
    let read = c.in_ok-read_more.ensures.piece in
    let u = fed line_texts _ _ _ _ c.loop.held c.loop.invariant.0 _ read.0 read.2 in
    let (out, stands, appended) = c.in_ok-answer_lines.ensures.answered in
    let left = c.in_ok-answer_lines.ensures.none_left in
    (turned line_texts _ _ _ _ (c.loop.held ++ read.0) u _ _ out (rw read.1 at stands) appended, left.0, left.1)

-- so many turns have passed
pub returns-clause-unread : goal.returns-clause-unread
returns-clause-unread g c =
    let u = c.loop.invariant in
    λ h. unread line_texts _ _ _ _ c.loop.held u.0 too-long-alike u.1 _ (Keeps-refl _)
