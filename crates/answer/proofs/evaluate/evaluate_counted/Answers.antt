-- `answer::evaluate::evaluate_counted` meets its contract: no demand is tried for a case that is refused.
use Rattle.answer.proofs.TriesLaws.{counted-refused}
use Rattle.answer.proofs.evaluate.evaluate_counted.Goals as goal

pub returns-in-Err : goal.returns-in-Err
returns-in-Err c = counted-refused c.args.case c.in-Err.refusal c.in-Err.ensures.refusal
