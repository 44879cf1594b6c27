-- `replies::block::answer_block` meets its contract: the lines answered so far, and what is left to do, are
-- the lines that the block's turn answers.
use Rattle.std.proofs.Common.{◌≡◌, drop, eqb, position, rules, tests, sym, ◌∙◌, arith}
use Rattle.std.proofs.lemmas.Iterator.{YieldsList-from_slice}
use Rattle.std.proofs.lemmas.Iterator.Search.{position_from_yields_List}
use Rattle.std.proofs.lemmas.List.{take_rest}
use Rattle.text.specs.Bytes.{newline}
use Rattle.text.proofs.PartsLaws.{found-Some, found-None}
use Rattle.text.proofs.StreamLaws.{none-left, full}
use Rattle.text.proofs.BlockLaws.{begun, answered-one, stopped}
use Rattle.replies.specs.Output.{line_texts}
use Rattle.replies.proofs.TextsLaws.{line_text-le}
use Rattle.replies.proofs.block.answer_block.Goals as goal

pub loop-written-init : goal.loop-written-init
loop-written-init c = begun line_texts _ _

pub loop-written-preserved : goal.loop-written-preserved
loop-written-preserved c =
    let a = c.args in
    let l = c.loop-written in
    let rest = drop l.read a.block.now in
    let whole = take_rest a.block.now l.read in
    let place : c.position.result ≡ position (λ x. eqb x newline) rest =
    position_from_yields_List {all = rest} (λ x. eqb x newline) _ _ _ c.position.ensures.ran (YieldsList-from_slice _ (cc whole))
    (λ x b q k. search (rules, tests)) in
    let end = found-Some newline rest c.in-Some.length (sym place ∙ c.in-Some.is) in
    answered-one line_texts a.block.now a.out.now l.out l.read l.written l.invariant _ c.in-Some.length _ end.0 end.1 (omega arith)
    (line_text-le _) (rw whole at c.answer_line-written.ensures)

pub returns-in_default : goal.returns-in_default
returns-in_default c =
    let a = c.args in
    let l = c.loop-written in
    let rest = drop l.read a.block.now in
    let place : c.position.result ≡ position (λ x. eqb x newline) rest =
    position_from_yields_List {all = rest} (λ x. eqb x newline) _ _ _ c.position.ensures.ran
    (YieldsList-from_slice _ (cc (take_rest a.block.now l.read))) (λ x b q k. search (rules, tests)) in
    let done = stopped line_texts a.block.now a.out.now l.out l.read l.written l.invariant
    (none-left line_texts _ rest (found-None newline rest (sym place ∙ c.in_default.is))) in
    record { read = done.0; text = done.1.0; read_in_bounds = done.1.1 }

pub returns-after-loop-written : goal.returns-after-loop-written
returns-after-loop-written c =
    let a = c.args in
    let l = c.loop-written in
    let done = stopped line_texts a.block.now a.out.now l.out l.read l.written l.invariant
    (full line_texts _ (drop l.read a.block.now) (omega arith)) in
    record { read = done.0; text = done.1.0; read_in_bounds = done.1.1 }

pub overflow_add-written-in-loop-written : goal.overflow_add-written-in-loop-written
overflow_add-written-in-loop-written c = omega (arith, line_text-le, c.answer_line-written.ensures.count)
