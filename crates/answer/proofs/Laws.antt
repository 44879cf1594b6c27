-- The laws of specs/Laws, proved.
use Rattle.std.proofs.Common.{◌⊎◌, lit≤, Ok, Bool, true, false, cond, ltb, inl, inr, ◌<◌, le_trans, ◌≡◌, refl, sym, ap, ◌∙◌, ⊎_elim, [], ◌∷◌, ℕ, suc, ◌*◌, ◌≤◌, arith, eq-zero-or-pos}
use Rattle.std.proofs.Common.{mul-le-mul, mul-le-mul_left, T, leb, leb→le, length, get_or, zero-le}
use Rattle.numbers.specs.Search.{greatest}
use Rattle.numbers.proofs.DivisionLaws.{div_up-le-iff, le-div_up}
use Rattle.numbers.proofs.SearchLaws.{greatest-passes, greatest-within, least-le}
use Rattle.numbers.proofs.BoolLaws.{and-left}
use Rattle.refusals.specs.Refusals.{first_refusal}
use Rattle.refusals.proofs.RefusalLaws.{first_refusal-some, first_refusal-le, first_refusal-ge, first_refusal-lacks, inside}
use Rattle.refusals.specs.Numbers.{in_order, refusal_of, refusal_number}
use Rattle.refusals.proofs.NumberLaws.{refusal_number-ok_unless, ok_unless-by}
use Rattle.curve.specs.declared.Curve.{Curve}
use Rattle.curve.specs.Kinds.{most_lanes}
use Rattle.curve.specs.Service.{density, meets_limit, density_limit, performance}
use Rattle.curve.proofs.KindLaws.{kind-ends}
use Rattle.curve.proofs.ServiceLaws.{letter_number-le, shown_speed-le, shown_density-le}
use Rattle.road.specs.declared.Case.{Case}
use Rattle.road.specs.Refusals.{greatest_demand, weather_unfit, road_refusals, load_refusals, field_refusals}
use Rattle.road.specs.Cases.{with_demand}
use Rattle.road.proofs.RefusalLaws.{load-ends}
use Rattle.method.specs.declared.flow.Load.{Load}
use Rattle.method.specs.Refusals.{speed_refusals, refusals, Accepted}
use Rattle.method.specs.Checked.{case_curve}
use Rattle.method.specs.Flow.{load_of, flow_rate_of, case_flow_rate, LoadSized}
use Rattle.method.specs.Assess.{measures}
use Rattle.method.proofs.RefusalLaws.{refusals-fields, accepted-fields, refusal-le}
use Rattle.method.proofs.CheckedLaws.{case_curve-well_formed, case_curve-sized}
use Rattle.method.proofs.FlowLaws.{case_load-sized}
use Rattle.answer.specs.Volumes.{meets, service_volume}
use Rattle.answer.specs.Answers.{graded}
use Rattle.answer.specs.Lanes.{lanes_meet, lanes_found, count_refusals, lanes_refusals, lanes_answer, lanes_figures}
use Rattle.answer.specs.Search.{demand_meets}
use Rattle.answer.specs.Laws.{FiguresWithinEnds, RefusedByTheList, RefusalsWithinEnds, RefusalsReachEnds, LanesRefusalsInOrder}
use Rattle.answer.specs.Laws.{LanesRefusedAsTheCase, NothingBut14RefusesFitFields, CountsAreDigits, VolumesUpToAnyEnd}
use Rattle.answer.proofs.VolumeLaws.{case_meets, case_meets-zero, meets-demand, service_volume-eq}
use Rattle.answer.proofs.AnswerLaws.{answer_to-accepted, answer_to-number}
use Rattle.answer.proofs.LanesLaws.{asked-last}

-- ---- figures
-- what keeps to a capacity of at most 240,000 is at most 19,200 vehicles, each at least a passenger car, on
-- at most 8 lanes
demand_meets-le : (case : Case) (limit demand : ℕ) → Accepted case → T (case_meets case limit demand) → demand ≤ 19200
unfolding demand_meets meets_limit flow_rate_of
demand_meets-le case limit demand a t =
    let curve : Curve = case_curve case in
    let load : Load = load_of case case.lanes in
    let fits : LoadSized load = case_load-sized case (accepted-fields case a) in
    let v : ℕ = flow_rate_of load demand in
    let within : 100 * flow_rate_of load demand ≤ curve.capacity =
    leb→le (100 * v) curve.capacity (and-left (leb (100 * v) curve.capacity) (leb (density curve v) limit) t) in
    let cars : demand * load.heavy_factor ≤ flow_rate_of load demand * load.divisor =
    le-div_up (demand * load.heavy_factor) load.divisor fits.divisor-pos in
    let high : curve.capacity ≤ 240000 = (case_curve-sized case a).capacity-le in
    let most : flow_rate_of load demand * load.divisor ≤ 2400 * 8000 = mul-le-mul {n₂ = 2400} {m₂ = 8000} (omega arith) fits.divisor-le in
    let least : demand * 1000 ≤ demand * load.heavy_factor = mul-le-mul_left demand fits.heavy-ge in
    omega arith

-- no service volume is above 19,200
pub service_volume-le : (case : Case) (n : ℕ) → Accepted case → 1 ≤ n → n ≤ 5 → service_volume case n ≤ 19200
service_volume-le case n a h k =
    let test : ℕ → Bool = case_meets case (density_limit n) in
    rw (service_volume-eq case n a h k)
    (demand_meets-le case (density_limit n) (greatest test greatest_demand) a
    (greatest-passes test greatest_demand (case_meets-zero case (density_limit n) a)))

pub volumes-up-to-any-end : VolumesUpToAnyEnd
unfolding service_volume
volumes-up-to-any-end case n end a h k low high =
    let test : ℕ → Bool = λ demand. meets (with_demand case demand) n in
    let zero : T (test 0) = rw (meets-demand case n a h k 0 zero-le) (case_meets-zero case (density_limit n) a) in
    greatest-within test end greatest_demand zero high (le_trans (service_volume-le case n a h k) low)

-- H is at least 250, and there are at least 2 lanes
flow_rate_of-le : (case : Case) → Accepted case → case_flow_rate case ≤ 6 * greatest_demand
unfolding flow_rate_of
flow_rate_of-le case a =
    let fits : LoadSized (load_of case case.lanes) = case_load-sized case (accepted-fields case a) in
    let ends = load-ends case (accepted-fields case a) in
    let least : 250 * 2 ≤ case.peak_hour_factor * case.lanes =
    mul-le-mul {n₁ = 250} {m₁ = 2} ends.factor-low (omega (arith, ends.lanes-low, (kind-ends case.road.kind).lanes-ge)) in
    let cars = mul-le-mul {n₂ = greatest_demand} {m₂ = 3000} ends.demand-high fits.heavy-le in
    (div_up-le-iff _ _ (6 * greatest_demand) fits.divisor-pos).1 (le_trans cars (omega (arith, mul-le-mul_left (6 * greatest_demand) least)))

pub figures-within-ends : FiguresWithinEnds
unfolding graded measures performance
figures-within-ends case a =
    let v : ℕ = case_flow_rate case in
    let ok = case_curve-well_formed case a in
    let sized = case_curve-sized case a in
    let volume : (n : ℕ) → 1 ≤ n → n ≤ 5 → service_volume case n ≤ 19200 = λ n h k. service_volume-le case n a h k in
    rw (answer_to-accepted case a) (
      letter_number-le (graded case).letter,
      (
        sized.speed-le,
        (
          sized.capacity-le,
          (
            flow_rate_of-le case a,
            (
              le_trans (shown_speed-le (case_curve case) v ok) sized.speed-le,
              (
                shown_density-le (case_curve case) v ok,
                (
                  volume 1 (omega arith) (omega arith),
                  (
                    volume 2 (omega arith) (omega arith),
                    (
                      volume 3 (omega arith) (omega arith),
                      (volume 4 (omega arith) (omega arith), (volume 5 (omega arith) (omega arith), tt)),
                    ),
                  ),
                ),
              ),
            ),
          ),
        ),
      ),
    )

-- ---- refusals and counts
lanes_refusals-le : (case : Case) (n : ℕ) → first_refusal (lanes_refusals case n) ≤ 19
unfolding road_refusals load_refusals field_refusals lanes_refusals
lanes_refusals-le case n = first_refusal-le 19 (lanes_refusals case n) tt

-- the number of the answer to the lanes question is the first of its list
pub lanes_answer-number : (case : Case) (n : ℕ) → refusal_number (lanes_answer case n) ≡ first_refusal (lanes_refusals case n)
lanes_answer-number case n =
    refusal_number-ok_unless (first_refusal (lanes_refusals case n)) (lanes_found case n) (le_trans (lanes_refusals-le case n) (lit≤ tt))

pub refused-by-the-list : RefusedByTheList
refused-by-the-list = answer_to-number

pub refusals-within-ends : RefusalsWithinEnds
refusals-within-ends case n = (
  omega (arith, answer_to-number case, refusal-le case),
  omega (arith, lanes_answer-number case n, lanes_refusals-le case n),
)

pub refusals-reach-ends : RefusalsReachEnds
unfolding in_order refusal_of weather_unfit road_refusals load_refusals field_refusals refusals lanes_refusals
refusals-reach-ends = (refl, refl)

pub lanes-refusals-in-order : LanesRefusalsInOrder
unfolding road_refusals load_refusals field_refusals lanes_refusals
lanes-refusals-in-order case n = refl

-- what refuses the fields refuses the question
lanes_answer-fields : (case : Case) (n : ℕ) → 1 ≤ n → n ≤ 5 → 0 < first_refusal (field_refusals case)
    → refusal_number (lanes_answer case n) ≡ first_refusal (field_refusals case)
unfolding lanes_refusals
lanes_answer-fields case n h k p =
    lanes_answer-number case n ∙ rw (inside 1 5 n h k) (first_refusal-some (field_refusals case) (count_refusals case n) p)

-- 10 alone is behind the fields, and they come first in both lists
pub lanes-refused-as-the-case : LanesRefusedAsTheCase
unfolding speed_refusals refusals
lanes-refused-as-the-case case n h k some not_ten =
    let speed = speed_refusals case.road case.weather case.lanes in
    let number = answer_to-number case in
    ⊎_elim
    (λ z.
    let last = number ∙ refusals-fields case z in
    absurd (not_ten (omega (
      arith,
      last,
      first_refusal-le 10 speed tt,
      first_refusal-ge 10 speed tt (omega (arith, last, some)),
    ))))
    (λ p. lanes_answer-fields case n h k p ∙ sym (first_refusal-some (field_refusals case) speed p) ∙ sym number)
    (eq-zero-or-pos (first_refusal (field_refusals case)))

pub nothing-but-14-refuses-fit-fields : NothingBut14RefusesFitFields
unfolding road_refusals load_refusals field_refusals
nothing-but-14-refuses-fit-fields case n h k = (
  λ z. met (ltb (most_lanes case.road.kind) (lanes_found case n)) (lanes_answer-number case n ∙ asked-last case n h k z),
  λ answered. ⊎_elim (λ z. z) (λ p. absurd (unfit p answered)) (eq-zero-or-pos (first_refusal (field_refusals case))),
)
  where
    number : ℕ
    number = refusal_number (lanes_answer case n)

    met : (b : Bool) → number ≡ cond b 14 0 → (number ≡ 0) ⊎ (number ≡ 14)
    met true e = inr e
    met false e = inl e

    unfit : 0 < first_refusal (field_refusals case) → (number ≡ 0) ⊎ (number ≡ 14) → ⊥
    unfit p answered =
        let own = lanes_answer-fields case n h k p in
        ⊎_elim (λ z. omega (arith, own, z, p))
        (λ e. first_refusal-lacks 14 (field_refusals case) tt (omega arith) (sym own ∙ e)) answered

pub counts-are-digits : CountsAreDigits
unfolding lanes_found
counts-are-digits case n count e =
    ok_unless-by (first_refusal (lanes_refusals case n)) (lanes_found case n)
    (λ a. lanes_figures a ≡ count ∷ [] → count ≤ 9)
    (λ z l. omega (
      arith,
      ap (λ vs. get_or vs 0 0) l,
      least-le (lanes_meet case n) (suc (most_lanes case.road.kind)),
      (kind-ends case.road.kind).lanes-le,
    ))
    (λ p l. absurd (omega (arith, ap length l)))
    e

-- the same of a count that is answered
pub found-digit : (case : Case) (n count : ℕ) → lanes_answer case n ≡ Ok count → count ≤ 9
found-digit case n count e = counts-are-digits case n count (ap lanes_figures e)
