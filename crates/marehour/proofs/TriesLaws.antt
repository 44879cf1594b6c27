-- The call that counts the tried demands (specs/Tries).
use Rattle.std.proofs.Common.{ap, ◌∙◌, pos, neg_ℤ, arith}
use Rattle.refusals.proofs.NumberLaws.{number-refusal_of}
use Rattle.method.proofs.RefusalLaws.{refusal-le}
use Rattle.text.specs.Bytes.{bytes_of}
use Rattle.method.specs.Boundary.{example}
use Rattle.answer.specs.Tries.{counted_answer}
use Rattle.answer.proofs.AnswerLaws.{answer_to-accepted, answer_to-refused}
use Rattle.answer.proofs.Boundary.{example-accepted}
use Rattle.answer.proofs.TriesLaws.{tries-accepted}
use Rattle.answer.proofs.SearchOrder.{at-most-80-tried, example-tried}
use Rattle.lines.proofs.Boundary.{short-read}
use Rattle.lines.proofs.ReadingLaws.{read_line-refused}
use Rattle.marehour.specs.Tries.{tries_result, line_tries, TriesHandBack, TriesOfLines}
use Rattle.marehour.proofs.Boundary.{line-read}

pub tries-hand-back : TriesHandBack
tries-hand-back line = (
  λ r e. ap line_tries (read_line-refused line r e),
  λ case e. (
    λ a. let ends = at-most-80-tried case a in (ap line_tries e ∙ rw (answer_to-accepted case a, tries-accepted case a), ends.0, ends.1),
    λ n r p. ap line_tries e ∙ ap (λ answer. tries_result answer (counted_answer case).tries) (answer_to-refused case n r p)
        ∙ ap (λ m. neg_ℤ (pos m)) (number-refusal_of n p (omega (arith, r, refusal-le case))),
  ),
)

pub tries-of-lines : TriesOfLines
tries-of-lines = (
  ap line_tries line-read ∙ rw (answer_to-accepted example example-accepted, example-tried.1),
  (tries-hand-back (bytes_of "F")).0 _ short-read.1,
)
