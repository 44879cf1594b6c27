-- The order of the searches for the service volumes, and the demands that they try (specs/Tries).
use Rattle.std.proofs.Common.{Err, ◌≡◌, refl, sym, ap, ◌∙◌, Bool, ℕ, zero, suc, ◌+◌, ◌≤◌, ◌<◌, arith, le_refl}
use Rattle.std.proofs.Common.{le_trans, T, ltb, length, length-append, lt-ltb}
use Rattle.std.proofs.Common.{le-ltb}
use Rattle.std.proofs.Math.Decide.{dec_le}
use Rattle.numbers.specs.Search.{greatest}
use Rattle.numbers.specs.Halving.{tried_up_to}
use Rattle.numbers.proofs.SearchLaws.{greatest-le, greatest-mono, greatest-cong, greatest-within}
use Rattle.numbers.proofs.HalvingLaws.{tried_up_to-cong}
use Rattle.numbers.proofs.BoolLaws.{cond-le}
use Rattle.refusals.specs.declared.Refusal.{Refusal}
use Rattle.refusals.specs.Numbers.{number}
use Rattle.refusals.proofs.RefusalLaws.{unless_refused-none, unless_refused-some}
use Rattle.refusals.proofs.NumberLaws.{number-above, ok_unless-err}
use Rattle.curve.specs.declared.Curve.{Curve}
use Rattle.curve.specs.Curves.{WellFormed}
use Rattle.curve.specs.Service.{density_limit}
use Rattle.curve.proofs.ServiceLaws.{letter_at-le-iff}
use Rattle.road.specs.declared.Case.{Case}
use Rattle.road.specs.Refusals.{greatest_demand}
use Rattle.method.specs.declared.flow.Load.{Load}
use Rattle.method.specs.Refusals.{refusal, Accepted}
use Rattle.method.specs.Checked.{case_curve}
use Rattle.method.specs.Flow.{load_of, flow_rate_of}
use Rattle.answer.specs.declared.evaluate.Counted.{Counted}
use Rattle.answer.specs.Volumes.{service_volumes}
use Rattle.answer.specs.Answers.{graded}
use Rattle.answer.specs.Search.{demand_meets, searched_volume}
use Rattle.answer.specs.Tries.{meets_with, tests_of, search_end, tried_for, tried_from, demands_tried, found, found_volumes, counted_answer}
use Rattle.answer.proofs.VolumeLaws.{demand_meets-zero, meets-demand, searched_volumes-case}

-- ---- no volume is above that of the next worse letter
demand_meets-worse : (curve : Curve) (load : Load) (n demand : ℕ) → 1 ≤ n → n ≤ 4
    → T (tests_of curve load n demand) → T (tests_of curve load (suc n) demand)
unfolding demand_meets
demand_meets-worse curve load n demand h k t =
    let v : ℕ = flow_rate_of load demand in
    (letter_at-le-iff curve v (suc n) (omega arith) (omega arith)).0 (omega (arith, (letter_at-le-iff curve v n h (omega arith)).1 t))

-- no volume is above that of the next worse letter
pub volume-next : (curve : Curve) (load : Load) (n : ℕ) → 1 ≤ n → n ≤ 4 → searched_volume curve load n ≤ searched_volume curve load (suc n)
volume-next curve load n h k =
    greatest-mono (tests_of curve load n) (tests_of curve load (suc n)) greatest_demand
    (λ demand. demand_meets-worse curve load n demand h k)

-- ---- the searches in turn
-- no search goes past the greatest demand
pub search_end-le : (test : ℕ → ℕ → Bool) (n : ℕ) → search_end test n ≤ greatest_demand
unfolding search_end
search_end-le test n = cond-le (ltb n 5) (greatest-le (test (suc n)) greatest_demand) (le_refl greatest_demand)

search_end-next : (test : ℕ → ℕ → Bool) (n : ℕ) → n ≤ 4 → search_end test n ≡ greatest (test (suc n)) greatest_demand
unfolding search_end
search_end-next test n h = simp (lt-ltb n 5 (omega arith))

search_end-last : (test : ℕ → ℕ → Bool) (n : ℕ) → 5 ≤ n → search_end test n ≡ greatest_demand
unfolding search_end
search_end-last test n h = simp (le-ltb n 5 h)

-- how many demands are tried, letter by letter
pub tried_from-suc : (test : ℕ → ℕ → Bool) (n : ℕ)
    → length (tried_from test (suc n)) ≡ length (tried_for test (suc n)) + length (tried_from test n)
unfolding tried_from
tried_from-suc test n = length-append (tried_for test (suc n)) (tried_from test n)

module _ (curve : Curve) (load : Load) (ok : WellFormed curve) (pos : 0 < load.divisor) where
  abbrev tests : ℕ → ℕ → Bool
  tests = tests_of curve load

  -- a search up to the volume of the next worse letter finds what one up to the greatest demand would
  volume-within : (n : ℕ) → 1 ≤ n → n ≤ 4 → greatest (tests n) (searched_volume curve load (suc n)) ≡ searched_volume curve load n
  volume-within n h k =
      greatest-within (tests n) (searched_volume curve load (suc n)) greatest_demand (demand_meets-zero curve load (density_limit n) ok pos)
      (greatest-le (tests (suc n)) greatest_demand) (volume-next curve load n h k)

  -- so it is with a search that is found up to that volume, and what it tries is tried for its letter
  in-turn : (n : ℕ) (r : Counted ℕ) (end : ℕ) → 1 ≤ n → n ≤ 4 → end ≡ searched_volume curve load (suc n) → r ≡ found (tests n) end
      → (r.value ≡ searched_volume curve load n) × (r.tries ≡ length (tried_for tests n))
  in-turn n r end h k e f =
      (ap (λ r. r.value) f ∙ rw e (volume-within n h k), ap (λ r. r.tries) f ∙ rw (e, search_end-next tests n k) refl)

  -- the five searches, each up to what the one before found
  pub found_volumes-in-turn : (e d c b a : Counted ℕ) → e ≡ found (tests 5) greatest_demand → d ≡ found (tests 4) e.value
      → c ≡ found (tests 3) d.value → b ≡ found (tests 2) c.value → a ≡ found (tests 1) b.value
      → record {
        value = record { a = a.value; b = b.value; c = c.value; d = d.value; e = e.value };
        tries = e.tries + d.tries + c.tries + b.tries + a.tries;
      }
      ≡ found_volumes curve load
  unfolding tried_from search_end
  found_volumes-in-turn e d c b a found-e found-d found-c found-b found-a =
      let value-e : e.value ≡ searched_volume curve load 5 = ap (λ r. r.value) found-e in
      let tries-e : e.tries ≡ length (tried_for tests 5) = ap (λ r. r.tries) found-e in
      let of-d = in-turn 4 d e.value (omega arith) (omega arith) value-e found-d in
      let of-c = in-turn 3 c d.value (omega arith) (omega arith) of-d.0 found-c in
      let of-b = in-turn 2 b c.value (omega arith) (omega arith) of-c.0 found-b in
      let of-a = in-turn 1 a b.value (omega arith) (omega arith) of-b.0 found-a in
      let count : e.tries + d.tries + c.tries + b.tries + a.tries ≡ length (tried_from tests 5) =
      omega (
        arith,
        tries-e,
        of-d.1,
        of-c.1,
        of-b.1,
        of-a.1,
        tried_from-suc tests 4,
        tried_from-suc tests 3,
        tried_from-suc tests 2,
        tried_from-suc tests 1,
        tried_from-suc tests 0,
      ) in
      simp (value-e, of-d.0, of-c.0, of-b.0, of-a.0, count)

-- for tactics: the last
pub ruleset search_laws = (found_volumes-in-turn)

-- ---- what is tried is meeting the letter
module _ (t u : ℕ → ℕ → Bool) (same : (n demand : ℕ) → 1 ≤ n → n ≤ 5 → demand ≤ greatest_demand → t n demand ≡ u n demand) where
  search_end-cong : (n : ℕ) → n ≤ 5 → search_end t n ≡ search_end u n
  unfolding search_end
  search_end-cong n k = go (dec_le (suc n) 5)
    where
      go : Dec (suc n ≤ 5) → search_end t n ≡ search_end u n
      go (yes l) =
          simp (lt-ltb n 5 l, greatest-cong (t (suc n)) (u (suc n)) greatest_demand (λ demand. same (suc n) demand (omega arith) l))
      go (no l) = simp (le-ltb n 5 (omega arith))

  tried_for-cong : (n : ℕ) → 1 ≤ n → n ≤ 5 → tried_for t n ≡ tried_for u n
  tried_for-cong n h k =
      tried_up_to-cong (t n) (u n) (search_end t n) (λ demand l. same n demand h k (le_trans l (search_end-le t n)))
      ∙ ap (tried_up_to (u n)) (search_end-cong n k)

  tried_from-cong : (n : ℕ) → n ≤ 5 → tried_from t n ≡ tried_from u n
  unfolding tried_from
  tried_from-cong zero k = refl
  tried_from-cong (suc n) k = simp (tried_for-cong (suc n) (omega arith) k, tried_from-cong n (omega arith))

-- on the curve of an accepted case, with its load, these are its service volumes, and what is tried is the
-- case's
pub found_volumes-case : (case : Case) → Accepted case
    → found_volumes (case_curve case) (load_of case case.lanes)
    ≡ record { value = service_volumes case; tries = length (demands_tried case) }
found_volumes-case case a =
    simp (
      searched_volumes-case case a,
      tried_from-cong (tests_of (case_curve case) (load_of case case.lanes)) (meets_with case)
          (λ n demand h k l. sym (meets-demand case n a h k demand l)) 5 (omega arith),
    )

-- for tactics: the last
pub ruleset found_laws = (found_volumes-case)

-- ---- the count of an answer
module _ (case : Case) where
  -- tries-accepted, tries-refused: the count of an accepted case, and of a refused one
  pub tries-accepted : Accepted case → (counted_answer case).tries ≡ length (demands_tried case)
  tries-accepted a = unless_refused-none (refusal case) (length (demands_tried case)) (λ number. 0) a

  pub tries-refused : 0 < refusal case → (counted_answer case).tries ≡ 0
  tries-refused p = unless_refused-some (refusal case) (length (demands_tried case)) (λ number. 0) p

  -- answered-accepted, answered-refused: the answer and its count, as code hands them back
  pub counted-refused : (r : Refusal) → number r ≡ refusal case → record { value = Err r; tries = 0 } ≡ counted_answer case
  counted-refused r e =
      let above : 0 < refusal case = rw (sym e) (number-above r) in
      simp (ok_unless-err r (refusal case) (graded case) e, tries-refused above)

pub ruleset counted_laws = (counted-refused)
