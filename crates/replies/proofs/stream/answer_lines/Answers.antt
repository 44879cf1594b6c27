-- `replies::stream::answer_lines` meets its contract: each turn's answers are appended, and what it carries
-- over stands for what was held.
use Rattle.std.proofs.Common.{◌≡◌, ℕ, List, ◌++◌, length, sym, ap, subst, ◌∙◌, append-nil}
use Rattle.std.proofs.lemmas.List.{nil_from_length}
use Rattle.std.proofs.lemmas.Result.{err_from_is_err_and}
use Rattle.std.specs.Io.KnownBytes.{Appends}
use Rattle.std.proofs.KnownBytes.{Appends-trans}
use Rattle.text.specs.Answering.{AppendsAStart}
use Rattle.text.specs.Stream.{texts}
use Rattle.text.specs.Held.{answered, carried, StandsFor}
use Rattle.text.proofs.BufferLaws.{front}
use Rattle.text.proofs.StreamLaws.{turn-law}
use Rattle.text.proofs.HeldLaws.{stands-trans, stands-turned}
use Rattle.text.proofs.AnsweringLaws.{append_start, start_of_more}
use Rattle.replies.specs.Output.{line_texts}
use Rattle.replies.proofs.OutputLaws.{too-long-alike}
use Rattle.replies.proofs.stream.answer_lines.Goals as goal

-- after a turn: what is carried over, and the turn's answers behind the ones before
turned : (room : ℕ) (before held after out : List ℕ) → after ≡ carried line_texts room held → StandsFor line_texts before held out
    → StandsFor line_texts before after (out ++ texts line_texts (answered line_texts room held))
turned room before held after out e stands = rw e (stands-trans line_texts stands (stands-turned line_texts too-long-alike room held))

pub returns-then-written-eq0-clause-answered : goal.returns-then-written-eq0-clause-answered
returns-then-written-eq0-clause-answered g c =
    let (out, stands, appended) = c.loop-written.invariant in
    let room = length c.loop-written.out in
    let held = c.loop-written.held in
    let turn = c.answer_turn-written in
    let none : out ++ texts line_texts (answered line_texts (length c.loop-written.out) c.loop-written.held) ≡ out =
    ap (λ (x : List ℕ). out ++ x) (nil_from_length _ (sym turn.ensures.text.count ∙ c.if-written-eq0.true)) ∙ append-nil out in
    (out, subst (StandsFor line_texts c.args.held.now turn.new.held) none (turned room _ held turn.new.held out turn.ensures.held stands), appended)

pub loop-written-preserved : goal.loop-written-preserved
loop-written-preserved g c =
    let (out, stands, appended) = c.loop-written.invariant in
    let room = length c.loop-written.out in
    let held = c.loop-written.held in
    let turn = c.answer_turn-written in (
      out ++ texts line_texts (answered line_texts room held),
      turned room _ held turn.new.held out turn.ensures.held stands,
      Appends-trans _ _ _ _ _ appended (subst (Appends _ _) (front turn.ensures.text) c.in_ok-write_whole.ensures.whole),
    )

pub returns-in_err-write_whole-clause-unwritten : goal.returns-in_err-write_whole-clause-unwritten
returns-in_err-write_whole-clause-unwritten g c =
    let (out, stands, appended) = c.loop-written.invariant in
    let room = length c.loop-written.out in
    let held = c.loop-written.held in
    let p = err_from_is_err_and c.from_residual.result c.from_residual.ensures.1 in
    let start = subst (AppendsAStart _ _) (front c.answer_turn-written.ensures.text) c.in_err-write_whole.ensures.start in
    rw p.1 (λ more. rw (stands.prints more, turn-law line_texts too-long-alike room held more)
    (append_start _ _ _ out _ appended (start_of_more _ _ (texts line_texts (answered line_texts room held)) _ start)))
