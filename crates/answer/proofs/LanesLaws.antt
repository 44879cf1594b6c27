-- The lanes question (specs/Lanes).
use Rattle.std.proofs.Common.{Result, IsErrAnd, false, ◌≡◌, sym, ◌∙◌, ◌++◌, ℕ, suc, ◌≤◌, ◌<◌, T, Ok, Err, arith, lt-ltb}
use Rattle.std.proofs.Common.{le-ltb}
use Rattle.std.proofs.lemmas.Bool.Decides.{nat_tests}
use Rattle.numbers.proofs.SearchLaws.{least-passes, least-le-of, least-eq, least-none}
use Rattle.refusals.specs.declared.Refusal.{Refusal}
use Rattle.refusals.specs.Refusals.{first_refusal}
use Rattle.refusals.specs.Numbers.{number}
use Rattle.refusals.proofs.RefusalLaws.{first_refusal-none, inside}
use Rattle.refusals.proofs.NumberLaws.{number-above, ok_unless-err, ok_unless-none, passed_on, first_refusal-err, first_refusal-ok}
use Rattle.curve.specs.declared.Curve.{Curve}
use Rattle.curve.specs.Kinds.{fewest_lanes, most_lanes}
use Rattle.curve.specs.Curves.{WellFormed, Sized}
use Rattle.curve.specs.Service.{meets_limit, density_limit}
use Rattle.curve.proofs.ServiceLaws.{letter_number-ge, density_limit-le}
use Rattle.road.specs.declared.Case.{Case}
use Rattle.road.specs.Cases.{with_lanes}
use Rattle.road.specs.Refusals.{field_refusals, FieldsFit}
use Rattle.road.proofs.RefusalLaws.{fields-numbered, fields-with_lanes, fields-load, fit-demand, lanes-low, lanes-high}
use Rattle.method.specs.Checked.{checked_curve}
use Rattle.method.specs.Flow.{heavy_factor_of, load_of, flow_rate_of}
use Rattle.method.proofs.RefusalLaws.{accepted-fields}
use Rattle.method.proofs.CheckedLaws.{checked_curve-accepted, checked_curve-refused, case_curve-well_formed, case_curve-sized}
use Rattle.method.proofs.FlowLaws.{load_of-sized}
use Rattle.answer.specs.Volumes.{meets}
use Rattle.answer.specs.Lanes.{lanes_meet, lanes_found, letter_refusals, count_refusals, lanes_refusals, lanes_answer}
use Rattle.answer.proofs.VolumeLaws.{meets-accepted, meets-refused, meets-only-accepted}

-- a case that meets a letter has a lane count of the kind
pub meets-of-kind : (case : Case) (l : ℕ) → T (meets case l)
    → (fewest_lanes case.road.kind ≤ case.lanes) × (case.lanes ≤ most_lanes case.road.kind)
meets-of-kind case l t =
    let fits = accepted-fields case (meets-only-accepted case l t) in (lanes-low case fits, lanes-high case fits)

-- ---- one lane count
-- a case that 1 to 9 and 19 do not refuse, with n lanes of its kind
module _ (case : Case) (n : ℕ) (z : FieldsFit case) (few : fewest_lanes case.road.kind ≤ n) (most : n ≤ most_lanes case.road.kind) where
  abbrev with-n : Case
  with-n = with_lanes case n

  fits-n : FieldsFit with-n
  fits-n = fields-with_lanes case n z few most

  -- where a curve is found, it is well formed and within the sizes, and whether the flow rate keeps to the
  -- letter's density decides
  pub lanes_curve-well_formed : (curve : Curve) → checked_curve case.road case.weather n ≡ Ok curve → WellFormed curve
  lanes_curve-well_formed curve e =
      let own = checked_curve-accepted with-n fits-n curve e in rw own.1 (case_curve-well_formed with-n own.0)

  pub lanes_curve-sized : (curve : Curve) → checked_curve case.road case.weather n ≡ Ok curve → Sized curve
  lanes_curve-sized curve e =
      let own = checked_curve-accepted with-n fits-n curve e in rw own.1 (case_curve-sized with-n own.0)

  pub lanes_meet-found : (l : ℕ) (curve : Curve) → 1 ≤ l → l ≤ 5 → checked_curve case.road case.weather n ≡ Ok curve
      → lanes_meet case l n ≡ meets_limit curve (flow_rate_of (load_of case n) case.demand) (density_limit l)
  unfolding heavy_factor_of
  lanes_meet-found l curve low high e =
      let own = checked_curve-accepted with-n fits-n curve e in rw own.1 (meets-accepted with-n l own.0 low high)

  -- where none is, the count does not meet the letter
  pub lanes_meet-refused : (l : ℕ) (r : Refusal) → checked_curve case.road case.weather n ≡ Err r → lanes_meet case l n ≡ false
  lanes_meet-refused l r e = meets-refused with-n l (rw (sym (checked_curve-refused with-n fits-n r e)) (number-above r))

-- for tactics: those, and what the flow rate asks for
pub ruleset meet_laws = (lanes_curve-sized, lanes_curve-well_formed, lanes_meet-found, lanes_meet-refused, load_of-sized, fields-load, fit-demand, letter_number-ge, density_limit-le)

module _ (case : Case) (l : ℕ) where
  -- ---- the search
  -- it is n where n is a count of the kind that meets the letter and no smaller count does
  pub lanes_found-eq : (n : ℕ) → n ≤ most_lanes case.road.kind → T (lanes_meet case l n)
      → ((k : ℕ) → k < n → T (lanes_meet case l k) → ⊥) → lanes_found case l ≡ n
  unfolding lanes_found
  lanes_found-eq n h t below = least-eq (lanes_meet case l) (suc (most_lanes case.road.kind)) n (omega arith) t below

  -- lanes_found-meets, lanes_found-le: a count that is found meets the letter, and is at most every count
  -- that does
  pub lanes_found-meets : lanes_found case l ≤ most_lanes case.road.kind → T (lanes_meet case l (lanes_found case l))
  unfolding lanes_found
  lanes_found-meets h = least-passes (lanes_meet case l) (suc (most_lanes case.road.kind)) (omega arith)

  pub lanes_found-le : (n : ℕ) → T (lanes_meet case l n) → lanes_found case l ≤ n
  unfolding lanes_found
  lanes_found-le n t =
      least-le-of (lanes_meet case l) (suc (most_lanes case.road.kind)) n t (omega (arith, meets-of-kind (with_lanes case n) l t))

  -- it is one more than the most where no count meets the letter
  pub lanes_found-none : ((k : ℕ) → k ≤ most_lanes case.road.kind → T (lanes_meet case l k) → ⊥)
      → lanes_found case l ≡ suc (most_lanes case.road.kind)
  unfolding lanes_found
  lanes_found-none none = least-none (lanes_meet case l) (suc (most_lanes case.road.kind)) (λ k h. none k (omega arith))

  -- ---- the answer
  abbrev asked : ℕ
  asked = first_refusal (lanes_refusals case l)

  -- passed-letter, passed-fields: 16 is passed on, and so is what refuses the fields
  pub passed-letter : (answer : Result ℕ Refusal) (r : Refusal) → IsErrAnd answer (λ passed. passed ≡ r)
      → number r ≡ first_refusal (letter_refusals l) → answer ≡ lanes_answer case l
  unfolding lanes_refusals
  passed-letter answer r h e =
      passed_on asked (lanes_found case l) answer r h
      (first_refusal-err (letter_refusals l) (field_refusals case ++ count_refusals case l) r e)

  pub passed-fields : (answer : Result ℕ Refusal) (r : Refusal) → IsErrAnd answer (λ passed. passed ≡ r)
      → 0 ≡ first_refusal (letter_refusals l) → number r ≡ first_refusal (field_refusals case) → answer ≡ lanes_answer case l
  unfolding lanes_refusals
  passed-fields answer r h z e =
      passed_on asked (lanes_found case l) answer r h
      (first_refusal-ok (letter_refusals l) (field_refusals case ++ count_refusals case l) (number r) tt z
      (first_refusal-err (field_refusals case) (count_refusals case l) r e))

  module _ (low : 1 ≤ l) (high : l ≤ 5) where
    -- the refusal after 16
    asked-next : asked ≡ first_refusal (field_refusals case ++ count_refusals case l)
    unfolding lanes_refusals
    asked-next = simp (inside 1 5 l low high)

    module _ (z : FieldsFit case) where
      pub asked-last : asked ≡ first_refusal (count_refusals case l)
      asked-last = asked-next ∙ first_refusal-none (field_refusals case) (count_refusals case l) (fields-numbered case) z

      -- no count: 14
      pub lanes_answer-none : most_lanes case.road.kind < lanes_found case l → lanes_answer case l ≡ Err Refusal.NoLaneCount
      lanes_answer-none h =
          sym (ok_unless-err Refusal.NoLaneCount asked (lanes_found case l)
          (sym (asked-last ∙ simp (lt-ltb (most_lanes case.road.kind) (lanes_found case l) h))))

      -- a count: that count
      pub lanes_answer-found : lanes_found case l ≤ most_lanes case.road.kind → lanes_answer case l ≡ Ok (lanes_found case l)
      lanes_answer-found h =
          ok_unless-none asked (lanes_found case l) (asked-last ∙ simp (le-ltb (most_lanes case.road.kind) (lanes_found case l) h))

-- a letter number that 16 does not refuse
pub letter-high : (n : ℕ) → 0 ≡ first_refusal (letter_refusals n) → n ≤ 5
letter-high n z = grind (arith, nat_tests)

-- for tactics: of the question
pub ruleset question_laws = (letter-high)
