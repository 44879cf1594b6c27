-- The answer with a demand, by the case with none (specs/DayCase).
use Rattle.std.proofs.Common.{◌≡◌, sym, ◌∙◌, ◌≤◌, ◌<◌, min, Ok, Err, arith}
use Rattle.std.proofs.lemmas.Bool.{lt-ltb, le-ltb}
use native.Mathlib.Decide.{dec_le}
use Rattle.refusals.specs.declared.Refusal.{Refusal}
use Rattle.refusals.specs.Numbers.{number}
use Rattle.refusals.proofs.RefusalLaws.{unless_refused-some}
use Rattle.refusals.proofs.NumberLaws.{number-above, ok_unless-ok, ok_unless-err}
use Rattle.road.specs.declared.Case.{Case}
use Rattle.road.specs.Cases.{with_demand}
use Rattle.road.specs.Refusals.{greatest_demand}
use Rattle.method.specs.Refusals.{refusal, Accepted}
use Rattle.method.proofs.RefusalLaws.{refusal-within, refusal-above}
use Rattle.answer.specs.declared.evaluate.Grade.{Grade}
use Rattle.answer.specs.Answers.{graded, answer_to}
use Rattle.day.specs.DayCase.{refusal_with}

module _ (case : Case) where
  module _ (a : Accepted (with_demand case 0)) where
    -- a case that is accepted with no demand gets its grade with one up to the greatest
    pub accepted-within : (grade : Grade) → grade ≡ graded case → case.demand ≤ greatest_demand → Ok grade ≡ answer_to case
    accepted-within grade e h = ok_unless-ok (refusal case) grade (graded case) (refusal-within case h ∙ a) e

    -- and 7 with a greater one
    pub accepted-above : greatest_demand < case.demand → Err Refusal.DemandTooLarge ≡ answer_to case
    accepted-above h = ok_unless-err Refusal.DemandTooLarge (refusal case) (graded case) (sym (rw a at (refusal-above case h)))

  -- one that is not gets the same refusal with any demand, or 7 where that comes before it
  pub refused-with : (r s : Refusal) → number r ≡ refusal (with_demand case 0) → number s ≡ refusal_with (number r) case.demand
      → Err s ≡ answer_to case
  refused-with r s e f = ok_unless-err s (refusal case) (graded case) (f ∙ by (dec_le case.demand greatest_demand))
    where
      by : Dec (case.demand ≤ greatest_demand) → refusal_with (number r) case.demand ≡ refusal case
      by (yes h) = rw (le-ltb greatest_demand case.demand h) (e ∙ sym (refusal-within case h))
      by (no h) =
          let over : greatest_demand < case.demand = omega arith in
          rw (lt-ltb greatest_demand case.demand over)
          (sym ((rw (sym e) at (refusal-above case over)) ∙ unless_refused-some (number r) 7 (λ k. min k 7) (number-above r)))
