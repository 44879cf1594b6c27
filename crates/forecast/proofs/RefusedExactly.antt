-- Exactly when each number refuses a forecast (specs/Promises RefusedExactly), proved.
use Rattle.std.proofs.Common.{◌≡◌, refl, sym, ◌∙◌, Bool, true, false, cond, true≢false, ◌↔◌, ⊎_elim, List, ◌∷◌, ◌++◌, ℕ, suc, ◌≤◌, ◌<◌, arith}
use Rattle.std.proofs.Common.{eq-zero-or-pos, subst, lit<, T}
use Rattle.refusals.specs.Numbers.{refusal_number}
use Rattle.refusals.specs.Refusals.{Condition, refuses, first_refusal}
use Rattle.refusals.proofs.RefusalLaws.{numbered, first_refusal-none, first_refusal-some, up_to, first_refusal-le, at_least, first_refusal-ge}
use Rattle.road.specs.declared.Case.{Case}
use Rattle.road.specs.Refusals.{road_refusals, section_refusals, load_refusals, SectionFits}
use Rattle.road.proofs.RefusalLaws.{section-numbered, load-numbered, loads-exactly}
use Rattle.method.specs.Refusals.{speed_refusals, refusal}
use Rattle.forecast.specs.declared.Forecast.{Forecast}
use Rattle.forecast.specs.Forecasts.{range_refusals, forecast_refusals, forecast_answer}
use Rattle.forecast.specs.Promises.{Ordered, DemandPasses, FactorPasses, SharePasses, RefusedExactly}
use Rattle.forecast.proofs.RangeLaws.{some-reversed, over-demand, unfit-factor, over-share}
use Rattle.forecast.proofs.RangeLaws.{none-reversed, demand-passes, factor-passes, share-passes, range-tests}
use Rattle.forecast.proofs.ForecastLaws.{best_case, last_refusals, forecast-number, plain-joined}

-- two lists that begin alike with numbers up to 6, and go on with greater ones, agree on these
small-alike : (rs xs ys : List Condition) → T (up_to 6 rs) → T (numbered rs) → T (at_least 7 xs) → T (at_least 7 ys) → (n : ℕ) → 1 ≤ n → n ≤ 6
    → first_refusal (rs ++ xs) ≡ n → first_refusal (rs ++ ys) ≡ n
small-alike rs xs ys u t a b n h k e =
    ⊎_elim
    (λ z. absurd (let is = sym (first_refusal-none rs xs t z) ∙ e in omega (arith, first_refusal-ge 7 xs a (omega (arith, is)), is)))
    (λ p. first_refusal-some rs ys p ∙ sym (first_refusal-some rs xs p) ∙ e) (eq-zero-or-pos (first_refusal rs))

-- a list whose numbers are all above n does not find n
above : (n : ℕ) (rs : List Condition) → T (at_least (suc n) rs) → 0 < n → first_refusal rs ≡ n → ⊥
above n rs t p e = omega (arith, first_refusal-ge (suc n) rs t (omega (arith, e)), e)

-- a number n with a test b before what comes later, P being what passes the test
module _ (b : Bool) (n later : ℕ) {P : Type 0} (passes : (b ≡ false) ↔ P) where
  -- where n does not come later, it is found exactly where P does not hold
  exactly-here : (later ≡ n → ⊥) → (cond b n later ≡ n) ↔ (P → ⊥)
  exactly-here other = go b passes
    where
      go : (v : Bool) → (v ≡ false) ↔ P → (cond v n later ≡ n) ↔ (P → ⊥)
      go true p = (λ _ x. true≢false (p.1 x), λ _. refl)
      go false p = (λ e. absurd (other e), λ none. absurd (none (p.0 refl)))

  -- another number is found exactly where P holds and it comes later
  exactly-later : (m : ℕ) → (n ≡ m → ⊥) → (cond b n later ≡ m) ↔ (P × (later ≡ m))
  exactly-later m other = go b passes
    where
      go : (v : Bool) → (v ≡ false) ↔ P → (cond v n later ≡ m) ↔ (P × (later ≡ m))
      go true p = (λ e. absurd (other e), λ (x, _). absurd (true≢false (p.1 x)))
      go false p = (λ e. (p.0 refl, e), λ (_, e). e)

module _ (case : Case) (forecast : Forecast) where
  abbrev number : ℕ
  number = refusal_number (forecast_answer case forecast)

  abbrev rest : List Condition
  rest = last_refusals case

  joined : number ≡ first_refusal (section_refusals case ++ (range_refusals case forecast ++ rest))
  unfolding forecast_refusals
  joined = forecast-number case forecast

  -- ---- 1 to 6 come first, whatever the ends are
  first : (n : ℕ) → 1 ≤ n → n ≤ 6 → (number ≡ n) ↔ (refusal case ≡ n)
  unfolding road_refusals load_refusals speed_refusals range_refusals
  first n h k = (
    λ e.
        plain-joined case
        ∙ small-alike (section_refusals case) (range_refusals case forecast ++ rest) (load_refusals case ++ rest) tt tt tt tt n h k
        (sym joined ∙ e),
    λ e.
        joined
        ∙ small-alike (section_refusals case) (load_refusals case ++ rest) (range_refusals case forecast ++ rest) tt tt tt tt n h k
        (sym (plain-joined case) ∙ e),
  )

  -- a number above 6 is none of them
  beyond : 6 < number → SectionFits case
  unfolding road_refusals
  beyond h =
      ⊎_elim (λ z. z)
      (λ p. absurd (omega (
        arith,
        joined ∙ first_refusal-some (section_refusals case) (range_refusals case forecast ++ rest) p,
        first_refusal-le 6 (section_refusals case) tt,
      )))
      (eq-zero-or-pos (first_refusal (section_refusals case)))

  -- ---- 22, 7, 8 and 9, each with its test, and then 19 and 10
  abbrev from-9 : List Condition
  from-9 = refuses 9 (over-share forecast) ∷ rest

  abbrev from-8 : List Condition
  from-8 = refuses 8 (unfit-factor forecast) ∷ from-9

  abbrev from-7 : List Condition
  from-7 = refuses 7 (over-demand forecast) ∷ from-8

  by-tests : SectionFits case → number ≡ first_refusal (refuses 22 (some-reversed forecast) ∷ from-7)
  by-tests section =
      joined
      ∙ first_refusal-none (section_refusals case) (range_refusals case forecast ++ rest) (section-numbered case) section
      ∙ range-tests case forecast rest

  exactly-22 : (number ≡ 22) ↔ (SectionFits case × (Ordered forecast → ⊥))
  unfolding speed_refusals
  exactly-22 =
      let here = exactly-here (some-reversed forecast) 22 (first_refusal from-7) (none-reversed forecast)
      (λ e. omega (arith, e, first_refusal-le 19 from-7 tt)) in (
        λ e. let section = beyond (omega (arith, e)) in (section, here.0 (sym (by-tests section) ∙ e)),
        λ (section, reverses). by-tests section ∙ here.1 reverses,
      )

  module _ (section : SectionFits case) (ordered : Ordered forecast) where
    by-loads : number ≡ first_refusal from-7
    by-loads = by-tests section ∙ rw ((none-reversed forecast).1 ordered)

    exactly-7 : (first_refusal from-7 ≡ 7) ↔ (DemandPasses forecast → ⊥)
    unfolding speed_refusals
    exactly-7 = exactly-here (over-demand forecast) 7 (first_refusal from-8) (demand-passes forecast) (above 7 from-8 tt (lit< tt))

    behind-7 : (m : ℕ) → 7 < m → (first_refusal from-7 ≡ m) ↔ (DemandPasses forecast × (first_refusal from-8 ≡ m))
    behind-7 m h = exactly-later (over-demand forecast) 7 (first_refusal from-8) (demand-passes forecast) m (λ e. omega (arith, e))

    exactly-8 : (first_refusal from-7 ≡ 8) ↔ (DemandPasses forecast × (FactorPasses forecast → ⊥))
    unfolding speed_refusals
    exactly-8 =
        let behind = behind-7 8 (lit< tt) in
        let here = exactly-here (unfit-factor forecast) 8 (first_refusal from-9) (factor-passes forecast) (above 8 from-9 tt (lit< tt)) in
        (λ e. let (d, k) = behind.0 e in (d, here.0 k), λ (d, f). behind.1 (d, here.1 f))

    exactly-9 : (first_refusal from-7 ≡ 9) ↔ (DemandPasses forecast × FactorPasses forecast × (SharePasses forecast → ⊥))
    unfolding speed_refusals
    exactly-9 =
        let behind = behind-7 9 (lit< tt) in
        let then = exactly-later (unfit-factor forecast) 8 (first_refusal from-9) (factor-passes forecast) 9 (λ e. omega (arith, e)) in
        let here = exactly-here (over-share forecast) 9 (first_refusal rest) (share-passes forecast) (above 9 rest tt (lit< tt)) in (
          λ e.
              let (d, k) = behind.0 e in
              let (f, l) = then.0 k in
              (d, f, here.0 l),
          λ (d, f, s). behind.1 (d, then.1 (f, here.1 s)),
        )

    -- where none of them refuses, what refuses the case at its best decides
    none-of-them : DemandPasses forecast → FactorPasses forecast → SharePasses forecast → first_refusal from-7 ≡ refusal (best_case case forecast)
    none-of-them d f s =
        let best = best_case case forecast in
        rw ((demand-passes forecast).1 d, (factor-passes forecast).1 f, (share-passes forecast).1 s)
        (sym (
        plain-joined best
        ∙ first_refusal-none (section_refusals case) (load_refusals best ++ rest) (section-numbered case) section
        ∙ first_refusal-none (load_refusals best) rest (load-numbered best) ((loads-exactly best).1 (d.0, f.1, f.2.1, s.0))))

    abbrev ExactlyByLoads : ℕ → Type 0
    ExactlyByLoads m =
        ((m ≡ 7) ↔ (DemandPasses forecast → ⊥)) × ((m ≡ 8) ↔ (DemandPasses forecast × (FactorPasses forecast → ⊥)))
        × ((m ≡ 9) ↔ (DemandPasses forecast × FactorPasses forecast × (SharePasses forecast → ⊥)))
        × (DemandPasses forecast → FactorPasses forecast → SharePasses forecast → m ≡ refusal (best_case case forecast))

    exactly-loads : ExactlyByLoads number
    exactly-loads = subst ExactlyByLoads (sym by-loads) (exactly-7, exactly-8, exactly-9, none-of-them)

pub refused-exactly : RefusedExactly
refused-exactly case forecast = (first case forecast, exactly-22 case forecast, exactly-loads case forecast)
