-- The answer to a case (specs/Answers).
use Rattle.std.proofs.Common.{◌≡◌, sym, ◌∙◌, ◌↔◌, ℕ, ◌<◌, T, leb→le, le→leb, Ok, Err, lit≤, le_trans}
use Rattle.refusals.specs.Numbers.{refusal_of, refusal_number}
use Rattle.refusals.proofs.NumberLaws.{ok_unless-none, ok_unless-some, refusal_number-ok_unless}
use Rattle.curve.specs.Service.{letter_number}
use Rattle.road.specs.declared.Case.{Case}
use Rattle.method.specs.Refusals.{refusal, Accepted}
use Rattle.method.specs.Assess.{measures}
use Rattle.method.proofs.RefusalLaws.{refusal-le}
use Rattle.answer.specs.Volumes.{meets}
use Rattle.answer.specs.Promises.{Meets}
use Rattle.answer.specs.Answers.{graded, answer_to}
use Rattle.answer.proofs.VolumeLaws.{meets-only-accepted}

module _ (case : Case) where
  -- an accepted case gets its grade
  pub answer_to-accepted : Accepted case → answer_to case ≡ Ok (graded case)
  answer_to-accepted a = ok_unless-none (refusal case) (graded case) a

  -- a refused one gets its refusal
  pub answer_to-refused : (n : ℕ) → refusal case ≡ n → 0 < n → answer_to case ≡ Err (refusal_of n)
  answer_to-refused n e p = rw e (ok_unless-some n (graded case) p)

  -- its number is the case's refusal
  pub answer_to-number : refusal_number (answer_to case) ≡ refusal case
  answer_to-number = refusal_number-ok_unless (refusal case) (graded case) (le_trans (refusal-le case) (lit≤ tt))

  -- an answer meets a letter exactly when the case does
  pub Meets-iff : (n : ℕ) → Meets case n ↔ T (meets case n)
  unfolding meets graded
  Meets-iff n = (λ m. to (sym answer_to-number ∙ m.0) m, λ t. from (meets-only-accepted case n t) t)
    where
      letter : ℕ
      letter = letter_number (measures case).performance.letter

      to : Accepted case → Meets case n → T (meets case n)
      to a m = rw a (le→leb letter n (rw (answer_to-accepted a) at m.1))

      from : Accepted case → T (meets case n) → Meets case n
      from a t = (answer_to-number ∙ a, rw (answer_to-accepted a) (leb→le letter n (rw a at t)))
