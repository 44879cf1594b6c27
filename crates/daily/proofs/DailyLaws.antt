-- The answer by its refusals (specs/Daily), and the daily service volumes by those in the engine's answer,
-- which is that of crates/answer with the hourly demand.
use Rattle.std.proofs.Common.{◌≡◌, refl, sym, ap, subst, ◌∙◌, ◌↔◌, ℕ, zero, suc, ◌+◌, ◌≤◌, ◌<◌, List, [], ◌∷◌, ◌++◌, T, leb, Result, Ok, Err}
use Rattle.std.proofs.Common.{⊎_elim, eq-zero-or-pos, arith, rules, le_refl, le_trans, leb→le, lit≤, get_or}
use native.Mathlib.Decide.{dec_le}
use Rattle.numbers.specs.Bounds.{AllAtMost}
use Rattle.numbers.proofs.BoolLaws.{leb-test}
use Rattle.numbers.proofs.SearchLaws.{greatest-cong}
use Rattle.numbers.proofs.TableLaws.{every_up_to-at}
use Rattle.refusals.specs.declared.Refusal.{Refusal}
use Rattle.refusals.specs.Refusals.{first_refusal}
use Rattle.refusals.specs.Numbers.{number, refusal_number, refusal_of}
use Rattle.refusals.proofs.RefusalLaws.{numbered, first_refusal-none, first_refusal-join, unless_refused-none, unless_refused-some}
use Rattle.refusals.proofs.NumberLaws.{number-above, number-refusal_of, refusal_of-number, first_refusal-err}
use Rattle.road.specs.declared.Case.{Case}
use Rattle.road.specs.Cases.{with_demand}
use Rattle.road.specs.Refusals.{greatest_demand}
use Rattle.road.proofs.RefusalLaws.{load-ends}
use Rattle.method.specs.Refusals.{refusals, refusal, Accepted}
use Rattle.method.proofs.RefusalLaws.{accepted-fields, refusal-le}
use Rattle.answer.specs.declared.evaluate.Volumes.{Volumes}
use Rattle.answer.specs.declared.evaluate.Grade.{Grade}
use Rattle.answer.specs.Volumes.{meets}
use Rattle.answer.specs.Answers as answers
use Rattle.answer.specs.Answers.{graded, answer_to}
use Rattle.answer.specs.Laws.{figure_ends}
use Rattle.answer.specs.Promises as engine
use Rattle.answer.specs.Promises.{Meets, volume_in}
use Rattle.answer.proofs.AnswerLaws.{answer_to-accepted, answer_to-number, Meets-iff}
use Rattle.answer.proofs.Laws.{figures-within-ends}
use Rattle.answer.proofs.PromiseLaws.{meets-up-to-the-service-volume}
use Rattle.daily.specs.declared.Shares.{Shares}
use Rattle.daily.specs.declared.DailyGrade.{DailyGrade}
use Rattle.daily.specs.Daily.{greatest_daily_traffic, traffic_refusals, TrafficFits, hourly_demand, hourly_case, daily_volume}
use Rattle.daily.specs.Daily.{volumes_by, daily_volumes, with_volumes, daily_answer, daily_figures}
use Rattle.daily.specs.Within.{traffic_within, VolumesFit, volumes_within}
use Rattle.daily.specs.Promises.{AcceptedTraffic, letter_in, MeetsByDay}
use Rattle.daily.proofs.WithinLaws.{fits-ends}

-- ---- refusals
volumes-number : (a : Result Grade Refusal) (volumes : Volumes) → refusal_number (with_volumes a volumes) ≡ refusal_number a
volumes-number (Ok grade) volumes = refl
volumes-number (Err r) volumes = refl

module _ (case : Case) (shares : Shares) (daily : ℕ) where
  abbrev hourly : Case
  hourly = hourly_case case shares daily

  abbrev asked : ℕ
  asked = first_refusal (traffic_refusals shares daily)

  abbrev refused : ℕ
  refused = first_refusal (traffic_refusals shares daily ++ refusals hourly)

  abbrev answered : Result DailyGrade Refusal
  answered = with_volumes (answer_to hourly) (daily_volumes case shares)

  traffic-numbered : T (numbered (traffic_refusals shares daily))
  unfolding traffic_refusals
  traffic-numbered = tt

  refused-le : refused ≤ 21
  unfolding traffic_refusals
  refused-le = let engine = refusal-le hourly in search rules

  asked-le : asked ≤ 21
  unfolding traffic_refusals
  asked-le = search rules

  -- where 20 and 21 do not refuse: the engine's refusal decides
  pub number-fits : TrafficFits shares daily → refused ≡ refusal hourly
  number-fits fits = first_refusal-none (traffic_refusals shares daily) (refusals hourly) traffic-numbered fits

  -- what 20 and 21 leave to the engine, and what they stop
  fitting : TrafficFits shares daily → daily_answer case shares daily ≡ answered
  fitting fits = unless_refused-none asked answered (λ n. Err (refusal_of n)) fits

  stopped : 0 < asked → daily_answer case shares daily ≡ Err (refusal_of asked)
  stopped p = unless_refused-some asked answered (λ n. Err (refusal_of n)) p

  -- the refusals as one list
  pub in-order : refusal_number (daily_answer case shares daily) ≡ refused
  in-order =
      ⊎_elim
      (λ fits. ap refusal_number (fitting fits) ∙ volumes-number (answer_to hourly) (daily_volumes case shares) ∙ answer_to-number hourly
      ∙ sym (number-fits fits))
      (λ p.
      let own = number-refusal_of asked p (le_trans asked-le (lit≤ tt)) in
      ap refusal_number (stopped p) ∙ first_refusal-err (traffic_refusals shares daily) (refusals hourly) (refusal_of asked) own)
      (eq-zero-or-pos asked)

  -- no refusal has a number above 21
  pub number-le : refusal_number (daily_answer case shares daily) ≤ 21
  number-le = omega (arith, in-order, refused-le)

  -- what is accepted: neither 20 nor 21 nor the engine refuses it
  pub accepted-parts : AcceptedTraffic case shares daily → TrafficFits shares daily × Accepted hourly
  accepted-parts z = first_refusal-join (traffic_refusals shares daily) (refusals hourly) traffic-numbered (sym in-order ∙ z)

  -- and the converse
  pub accepted-of : TrafficFits shares daily → Accepted hourly → AcceptedTraffic case shares daily
  accepted-of fits a = in-order ∙ number-fits fits ∙ a

  -- what is accepted gets the engine's grade and the daily service volumes
  pub answer-accepted : AcceptedTraffic case shares daily
      → daily_answer case shares daily ≡ Ok (record { grade = graded hourly; volumes = daily_volumes case shares })
  answer-accepted z =
      let parts = accepted-parts z in
      fitting parts.0 ∙ ap (λ a. with_volumes a (daily_volumes case shares)) (answer_to-accepted hourly parts.1)

  -- its letter is that of the engine's answer
  pub letter-accepted : AcceptedTraffic case shares daily → letter_in (daily_answer case shares daily) ≡ engine.letter_in (answer_to hourly)
  letter-accepted z = rw (answer-accepted z, answer_to-accepted hourly (accepted-parts z).1) refl

  -- where 20 and 21 do not refuse: a daily traffic meets a letter exactly when its hourly demand does
  pub meets-hour : TrafficFits shares daily → (n : ℕ) → MeetsByDay case shares daily n ↔ Meets hourly n
  meets-hour fits n = (
    λ m. (answer_to-number hourly ∙ (accepted-parts m.0).1, rw (letter-accepted m.0) at m.1),
    λ m. let z = accepted-of fits (sym (answer_to-number hourly) ∙ m.0) in (z, rw (letter-accepted z) m.1),
  )

-- a refusal has no value
pub refused-values : (a : Result DailyGrade Refusal) → 0 < refusal_number a → daily_figures a ≡ []
refused-values (Ok daily) p = absurd (omega arith)
refused-values (Err r) p = refl

-- volumes are equal where those of each letter are
volumes_by-cong : (f g : ℕ → ℕ) → ((n : ℕ) → 1 ≤ n → n ≤ 5 → f n ≡ g n) → volumes_by f ≡ volumes_by g
volumes_by-cong f g same =
    rw (same 1 (lit≤ tt) (lit≤ tt), same 2 (lit≤ tt) (lit≤ tt), same 3 (lit≤ tt) (lit≤ tt), same 4 (lit≤ tt) (lit≤ tt), same 5 (lit≤ tt) (lit≤ tt))

-- ---- the engine's volumes are within their ends, by FiguresWithinEnds
module _ (c : Case) (grade : Grade) (e : Ok grade ≡ answer_to c) where
  -- what has a grade is accepted
  grade-accepted : Accepted c
  grade-accepted = sym (ap refusal_number e ∙ answer_to-number c)

  -- the volumes of a grade that the engine answers
  pub grade-fits : VolumesFit grade.volumes
  grade-fits =
      let figures = subst (λ answer. AllAtMost (answers.grade_figures answer) figure_ends) (sym e) (figures-within-ends c grade-accepted) in
      figures.1.1.1.1.1.1

-- numbers that are at most others place by place, at one place
at-place : (ms ns : List ℕ) → AllAtMost ms ns → (i : ℕ) → get_or ms i 0 ≤ get_or ns i 0
at-place [] [] h i = le_refl _
at-place [] (n ∷ ns) h i = absurd h
at-place (m ∷ ms) [] h i = absurd h
at-place (m ∷ ms) (n ∷ ns) h zero = h.0
at-place (m ∷ ms) (n ∷ ns) h (suc i) = at-place ms ns h.1 i

-- of the ends of figures those of density and of the volumes are at most the greatest demand
end-le : (n : ℕ) → n ≤ 5 → get_or figure_ends (5 + n) 0 ≤ greatest_demand
end-le n k = leb→le _ greatest_demand (every_up_to-at (λ i. leb (get_or figure_ends (5 + i) 0) greatest_demand) 5 tt n k)

-- the service volumes in the engine's answer to an accepted case
module _ (c : Case) (a : Accepted c) where
  volume-le : (n : ℕ) → n ≤ 5 → volume_in (answer_to c) n ≤ greatest_demand
  volume-le n k = le_trans (at-place _ figure_ends (figures-within-ends c a) (5 + n)) (end-le n k)

  -- a demand of any size meets a letter exactly when it is at most the service volume in the engine's answer
  pub meets-iff : (n : ℕ) → 1 ≤ n → n ≤ 5 → (demand : ℕ) → Meets (with_demand c demand) n ↔ (demand ≤ volume_in (answer_to c) n)
  meets-iff n h k demand = go (dec_le demand greatest_demand)
    where
      within : Accepted (with_demand c demand) → demand ≤ greatest_demand
      within accepted = (load-ends (with_demand c demand) (accepted-fields (with_demand c demand) accepted)).demand-high

      go : Dec (demand ≤ greatest_demand) → Meets (with_demand c demand) n ↔ (demand ≤ volume_in (answer_to c) n)
      go (yes l) = meets-up-to-the-service-volume c a n h k demand l
      go (no l) = (
        λ m. absurd (l (within (sym (answer_to-number (with_demand c demand)) ∙ m.0))),
        λ m. absurd (l (le_trans m (volume-le n k))),
      )

-- ---- daily service volumes
module _ (case : Case) (shares : Shares) (asked : ℕ) where
  -- a daily service volume is the greatest daily traffic within the service volume in the engine's answer
  pub daily_volume-eq : Accepted (hourly_case case shares asked) → (n : ℕ) → 1 ≤ n → n ≤ 5
      → daily_volume case shares n ≡ traffic_within shares (volume_in (answer_to (hourly_case case shares asked)) n)
  unfolding daily_volume traffic_within
  daily_volume-eq a n h k =
      let volume : ℕ = volume_in (answer_to (hourly_case case shares asked)) n in
      greatest-cong (λ daily. meets (hourly_case case shares daily) n) (λ daily. leb (hourly_demand shares daily) volume) greatest_daily_traffic
      (λ daily most.
      let met = Meets-iff (hourly_case case shares daily) n in
      let within = meets-iff (hourly_case case shares asked) a n h k (hourly_demand shares daily) in
      sym (leb-test (hourly_demand shares daily) volume (meets (hourly_case case shares daily) n)
      (λ l. met.0 (within.1 l), λ t. within.0 (met.1 t))))

  -- the five of them, by the grade of the hour
  pub volumes-eq : (grade : Grade) → Ok grade ≡ answer_to (hourly_case case shares asked)
      → volumes_within shares grade.volumes ≡ daily_volumes case shares
  volumes-eq grade e =
      let a = grade-accepted (hourly_case case shares asked) grade e in
      volumes_by-cong (λ n. traffic_within shares (volume_in (Ok grade) n)) (daily_volume case shares)
      (λ n h k. sym (rw (sym e) at (daily_volume-eq a n h k)))

-- ---- what is answered
module _ (case : Case) (shares : Shares) (daily : ℕ) where
  -- where 20 or 21 refuses
  pub answer-stopped : (r : Refusal) → number r ≡ first_refusal (traffic_refusals shares daily) → Err r ≡ daily_answer case shares daily
  answer-stopped r e =
      sym (stopped case shares daily (omega (arith, e, number-above r)) ∙ ap (λ n. Err (refusal_of n)) (sym e) ∙ ap Err (refusal_of-number r))

  -- where the engine has a grade
  pub answer-graded : TrafficFits shares daily → (grade : Grade) → Ok grade ≡ answer_to (hourly case shares daily)
      → Ok (record { grade = grade; volumes = volumes_within shares grade.volumes }) ≡ daily_answer case shares daily
  answer-graded fits grade e =
      sym (fitting case shares daily fits ∙ ap (λ a. with_volumes a (daily_volumes case shares)) (sym e)
      ∙ ap (λ vs. Ok (record { grade = grade; volumes = vs })) (sym (volumes-eq case shares daily grade e)))

-- what a grade of the engine's asks and gives, for tactics
pub ruleset by_engine = (fits-ends, grade-fits, answer-graded)
