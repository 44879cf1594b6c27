-- The order of the searches (specs/SearchOrder), proved.
use Rattle.std.proofs.Common.{◌≡◌, refl, sym, ap, ◌∙◌, List, [], ◌++◌, ℕ, zero, suc, ◌*◌, ◌≤◌, zero-le, arith, le_trans, leb, length}
use Rattle.std.proofs.Common.{get_or, lt-ltb}
use Rattle.numbers.specs.Halving.{middle, tried_between, tried_up_to}
use Rattle.numbers.proofs.BoolLaws.{leb-test}
use Rattle.numbers.proofs.HalvingLaws.{tried_up_to-doublings, tried_up_to-some, tried_up_to-cong}
use Rattle.refusals.proofs.RefusalLaws.{unless_refused-by}
use Rattle.road.specs.declared.Case.{Case}
use Rattle.road.specs.Refusals.{greatest_demand}
use Rattle.method.specs.Refusals.{refusal, Accepted}
use Rattle.method.specs.Boundary.{example}
use Rattle.method.specs.Checked.{case_curve}
use Rattle.method.specs.Flow.{load_of}
use Rattle.answer.specs.Volumes.{service_volume}
use Rattle.answer.specs.Tries.{meets_with, search_end, tried_for, tried_from, demands_tried, counted_answer}
use Rattle.answer.specs.Boundary.{estimated}
use Rattle.answer.specs.SearchOrder.{NoVolumeAboveTheNext, ExampleVolumesRise, TriesOfALetter, AtMost80Tried}
use Rattle.answer.specs.SearchOrder.{example_tried, eight_lanes, ExampleTried, EightLanesTried, RefusedTried}
use Rattle.answer.proofs.VolumeLaws.{service_volume-eq, service_volume-iff}
use Rattle.answer.proofs.AnswerLaws.{answer_to-number}
use Rattle.answer.proofs.Laws.{service_volume-le}
use Rattle.answer.proofs.PromiseLaws.{volume_in-accepted}
use Rattle.answer.proofs.TriesLaws.{volume-next, tried_from-suc, search_end-le, tries-accepted, tries-refused}
use Rattle.answer.proofs.Boundary.{VolumesOf, example-accepted, volumes, estimated-answer, eight-lanes-accepted, eight-lanes-volumes}

-- ---- no volume is above that of the next worse letter
pub no-volume-above-the-next : NoVolumeAboveTheNext
no-volume-above-the-next case a n h k =
    let own : n ≤ 5 = omega arith in
    let worse : 1 ≤ suc n = omega arith in
    let last : suc n ≤ 5 = omega arith in
    rw (volume_in-accepted case n a h own, volume_in-accepted case (suc n) a worse last)
    (rw (service_volume-eq case n a h own, service_volume-eq case (suc n) a worse last)
    (volume-next (case_curve case) (load_of case case.lanes) n h k))

pub example-volumes-rise : ExampleVolumesRise
example-volumes-rise = (
  no-volume-above-the-next example example-accepted 1 (omega arith) (omega arith),
  no-volume-above-the-next example example-accepted 4 (omega arith) (omega arith),
)

-- ---- how many demands are tried
pub tries-of-a-letter : TriesOfALetter
unfolding search_end service_volume
tries-of-a-letter case a = (
  tried_up_to-doublings (meets_with case 5) greatest_demand 20 (omega arith),
  λ n h k.
      let end = service_volume-le case (suc n) a (omega arith) (omega arith) in
      simp (lt-ltb n 5 (omega arith)) (tried_up_to-doublings (meets_with case n) (service_volume case (suc n)) 15 (omega (arith, end))),
)

tried-from : (case : Case) → Accepted case → (n : ℕ) → n ≤ 4 → length (tried_from (meets_with case) n) ≤ 15 * n
unfolding tried_from
tried-from case a zero k = zero-le
tried-from case a (suc n) k =
    omega (arith, tried_from-suc (meets_with case) n, (tries-of-a-letter case a).1 (suc n) (omega arith) k, tried-from case a n (omega arith))

pub at-most-80-tried : AtMost80Tried
unfolding search_end
at-most-80-tried case a =
    let all = tried_from-suc (meets_with case) 4 in (
      omega (arith, all, tried_up_to-some (meets_with case 5) greatest_demand (omega arith)),
      omega (arith, all, (tries-of-a-letter case a).0, tried-from case a 4 (omega arith)),
    )

-- ---- the count
-- 80 are counted at most, for any case
pub tries-le : (case : Case) → (counted_answer case).tries ≤ 80
tries-le case =
    unless_refused-by (refusal case) (length (demands_tried case)) (λ number. 0) (λ n. n ≤ 80) (λ a. (at-most-80-tried case a).1)
    (λ p. zero-le)

-- ---- instances
-- what is tried goes by the service volumes alone
up_to : ℕ → ℕ → List ℕ
up_to volume end = tried_up_to (λ demand. leb demand volume) end

all_up_to : (s₁ s₂ s₃ s₄ s₅ : ℕ) → List ℕ
all_up_to s₁ s₂ s₃ s₄ s₅ = up_to s₅ greatest_demand ++ (up_to s₄ s₅ ++ (up_to s₃ s₄ ++ (up_to s₂ s₃ ++ (up_to s₁ s₂ ++ []))))

module _ (case : Case) (a : Accepted case) where
  by-volume : (n s end : ℕ) → 1 ≤ n → n ≤ 5 → service_volume case n ≡ s → search_end (meets_with case) n ≡ end
      → tried_for (meets_with case) n ≡ up_to s end
  unfolding up_to
  by-volume n s end h k e f =
      tried_up_to-cong (meets_with case n) (λ demand. leb demand s) (search_end (meets_with case) n)
      (λ demand l.
      let iff = service_volume-iff case n a h k demand (le_trans l (search_end-le (meets_with case) n)) in
      sym (leb-test demand s (meets_with case n demand) (λ d. iff.1 (rw e d), λ t. rw (sym e) (iff.0 t))))
      ∙ ap (tried_up_to (λ demand. leb demand s)) f

  by-volumes : (s₁ s₂ s₃ s₄ s₅ : ℕ) → VolumesOf case s₁ s₂ s₃ s₄ s₅ → demands_tried case ≡ all_up_to s₁ s₂ s₃ s₄ s₅
  unfolding tried_from search_end service_volume all_up_to
  by-volumes s₁ s₂ s₃ s₄ s₅ v =
      simp (
        by-volume 5 s₅ greatest_demand (omega arith) (omega arith) v.4 refl,
        by-volume 4 s₄ s₅ (omega arith) (omega arith) v.3 v.4,
        by-volume 3 s₃ s₄ (omega arith) (omega arith) v.2 v.3,
        by-volume 2 s₂ s₃ (omega arith) (omega arith) v.1 v.2,
        by-volume 1 s₁ s₂ (omega arith) (omega arith) v.0 v.1,
      )

  count-of : (tried : List ℕ) → demands_tried case ≡ tried → (counted_answer case).tries ≡ length tried
  count-of tried e = tries-accepted case a ∙ ap length e

pub example-tried : ExampleTried
unfolding middle tried_between tried_up_to up_to all_up_to
example-tried =
    let tried : demands_tried example ≡ example_tried = by-volumes example example-accepted 1117 1829 2642 3360 3858 volumes in
    (tried, count-of example example-accepted example_tried tried)

pub eight-lanes-tried : EightLanesTried
unfolding middle tried_between tried_up_to up_to all_up_to
eight-lanes-tried =
    count-of eight_lanes eight-lanes-accepted (all_up_to 6178 10054 13620 16449 18604)
    (by-volumes eight_lanes eight-lanes-accepted 6178 10054 13620 16449 18604 eight-lanes-volumes)

pub refused-tried : RefusedTried
refused-tried =
    tries-refused estimated (omega (arith, answer_to-number estimated, ap (λ ns. get_or ns 0 0) estimated-answer))
