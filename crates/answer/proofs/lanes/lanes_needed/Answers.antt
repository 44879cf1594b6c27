-- `answer::lanes::lanes_needed` meets its contract: 16 and what refuses the fields are passed on.
use Rattle.answer.proofs.LanesLaws.{passed-letter, passed-fields}
use Rattle.answer.proofs.lanes.lanes_needed.Goals as goal

pub returns-in_err-letter : goal.returns-in_err-letter
returns-in_err-letter c =
    passed-letter c.args.case c.args.letter c.from_residual.result c.in_err-letter.field-0.0 c.from_residual.ensures.1
    c.in_err-letter.ensures.refusal

pub returns-in_err-fit : goal.returns-in_err-fit
returns-in_err-fit c =
    passed-fields c.args.case c.args.letter c.from_residual-in_err-fit.result c.in_err-fit.field-0.0 c.from_residual-in_err-fit.ensures.1
    c.in_ok-letter.ensures.refusal c.in_err-fit.ensures.refusal
