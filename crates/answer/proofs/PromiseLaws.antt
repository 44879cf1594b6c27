-- The shape of the method (SHAPE-1 to SHAPE-3), proved.
use Rattle.std.proofs.Common.{◌≡◌, refl, sym, ap, ◌∙◌, ◌↔◌, ⊎_elim, inl, [], ◌∷◌, ℕ, suc, ◌≤◌, ◌<◌, arith, T, length, get_or, Ok, Err}
use Rattle.std.proofs.Math.Decide.{dec_le}
use Rattle.refusals.specs.declared.Refusal.{Refusal}
use Rattle.refusals.specs.Numbers.{refusal_number}
use Rattle.curve.specs.Kinds.{most_lanes}
use Rattle.curve.specs.Curves.{curve_at}
use Rattle.curve.specs.Weather.{clear}
use Rattle.curve.specs.Service.{letter_at, letter_number, performance}
use Rattle.curve.proofs.WeatherLaws.{curve_under-clear}
use Rattle.curve.proofs.ServiceLaws.{by-letter, letter_at-flow, letter_at-mono}
use Rattle.road.specs.declared.Terrain.{Terrain}
use Rattle.road.specs.declared.Case.{Case}
use Rattle.road.specs.Cases.{with_demand, with_lanes, SameRoad}
use Rattle.road.specs.FreeFlowSpeed.{free_flow_speed_of}
use Rattle.road.specs.Refusals.{FieldsFit}
use Rattle.road.proofs.FreeFlowSpeedLaws.{free_flow_speed_of-mono, free_flow_speed_of-le, free_flow_speed_of-given}
use Rattle.method.specs.Refusals.{Accepted}
use Rattle.method.specs.Checked.{curve_of, case_curve}
use Rattle.method.specs.Flow.{truck_equivalent, case_flow_rate}
use Rattle.method.specs.Assess.{measures}
use Rattle.method.proofs.RefusalLaws.{accepted-fields, accepted-speed}
use Rattle.method.proofs.CheckedLaws.{case_curve-well_formed}
use Rattle.method.proofs.FlowLaws.{case_flow_rate-mono}
use Rattle.answer.specs.Volumes.{meets, service_volume}
use Rattle.answer.specs.Answers.{graded, answer_to}
use Rattle.answer.specs.Lanes.{lanes_found, lanes_answer, lanes_figures}
use Rattle.answer.specs.Promises.{letter_in, volume_in, Meets, AcceptedCount, hardness, NoBetterUnderMoreLoad}
use Rattle.answer.specs.Promises.{NoBetterInClearWeather, MeetsUpToTheServiceVolume, LeastAcceptedCount, ShapeOfTheMethod}
use Rattle.answer.proofs.VolumeLaws.{meets-only-accepted, service_volume-iff}
use Rattle.answer.proofs.AnswerLaws.{answer_to-accepted, Meets-iff}
use Rattle.answer.proofs.LanesLaws.{meets-of-kind, lanes_found-eq, lanes_found-meets, lanes_found-le, lanes_found-none, lanes_answer-none}
use Rattle.answer.proofs.LanesLaws.{lanes_answer-found}

-- ---- SHAPE-1
-- the letter in the answer to an accepted case
letter_in-accepted : (case : Case) → Accepted case → letter_in (answer_to case) ≡ letter_number (letter_at (case_curve case) (case_flow_rate case))
unfolding graded measures performance
letter_in-accepted case a = ap letter_in (answer_to-accepted case a)

harder-equivalent : (s t : Terrain) → hardness s ≤ hardness t → truck_equivalent s ≤ truck_equivalent t
harder-equivalent Terrain.Level Terrain.Level h = omega arith
harder-equivalent Terrain.Level Terrain.Rolling h = omega arith
harder-equivalent Terrain.Rolling Terrain.Level h = absurd (omega arith)
harder-equivalent Terrain.Rolling Terrain.Rolling h = omega arith

-- two cases of one road under one weather, the second with the greater flow rate
module _ (c d : Case) (ac : Accepted c) (ad : Accepted d) (same : SameRoad c d) (weather : c.weather ≡ d.weather)
    (flow : case_flow_rate c ≤ case_flow_rate d) where
  abbrev NoBetter : Type 0
  NoBetter = letter_in (answer_to c) ≤ letter_in (answer_to d)

  -- on one curve
  on-one-curve : case_curve c ≡ case_curve d → NoBetter
  on-one-curve one =
      rw (letter_in-accepted c ac, letter_in-accepted d ad, one)
      (letter_at-flow (case_curve d) (case_flow_rate c) (case_flow_rate d) (case_curve-well_formed d ad) flow)

  -- with an F of one value
  at-one-speed : free_flow_speed_of d.road c.lanes ≡ free_flow_speed_of d.road d.lanes → NoBetter
  unfolding curve_of
  at-one-speed e = on-one-curve (rw (same, weather, e))

  -- in clear weather, at two free-flow speeds
  in-clear-weather : c.weather ≡ clear → d.lanes ≤ c.lanes → NoBetter
  unfolding curve_of
  in-clear-weather z hn =
      let mine : case_curve c ≡ curve_at d.road.kind (free_flow_speed_of d.road c.lanes) = rw (z, same) (curve_under-clear _ _) in
      let other : case_curve d ≡ curve_at d.road.kind (free_flow_speed_of d.road d.lanes) =
      rw (sym weather ∙ z) (curve_under-clear _ _) in
      rw (letter_in-accepted c ac, letter_in-accepted d ad, mine, other)
      (letter_at-mono d.road.kind (free_flow_speed_of d.road d.lanes) (free_flow_speed_of d.road c.lanes) (case_flow_rate c)
      (case_flow_rate d)
      (accepted-speed d ad) (free_flow_speed_of-mono d.road d.lanes c.lanes hn) (free_flow_speed_of-le d.road c.lanes) flow)

-- SHAPE-1
pub no-better-under-more-load : NoBetterUnderMoreLoad
no-better-under-more-load c d ac ad same weather comparable hd hs ht hf hn =
    let flow : case_flow_rate c ≤ case_flow_rate d =
    case_flow_rate-mono c d (accepted-fields d ad) hd hs (harder-equivalent c.terrain d.terrain ht) hf hn in
    ⊎_elim (λ z. in-clear-weather c d ac ad same weather flow z hn)
    (⊎_elim (λ given. at-one-speed c d ac ad same weather flow
    (free_flow_speed_of-given d.road c.lanes d.lanes (sym (ap (λ road. road.way) same) ∙ given)))
    (λ equal. at-one-speed c d ac ad same weather flow (ap (free_flow_speed_of d.road) equal)))
    comparable

-- what it says of clear weather
pub no-better-in-clear-weather : NoBetterInClearWeather
no-better-in-clear-weather c d ac ad same zc zd = no-better-under-more-load c d ac ad same (zc ∙ sym zd) (inl zc)

-- ---- SHAPE-2
-- the service volumes in the answer to an accepted case, by the letter's number
pub volume_in-accepted : (case : Case) (n : ℕ) → Accepted case → 1 ≤ n → n ≤ 5 → volume_in (answer_to case) n ≡ service_volume case n
unfolding graded
volume_in-accepted case n a h k =
    ap (λ answer. volume_in answer n) (answer_to-accepted case a)
    ∙ by-letter (λ n. volume_in (Ok (graded case)) n ≡ service_volume case n) refl refl refl refl refl n h k

-- SHAPE-2
pub meets-up-to-the-service-volume : MeetsUpToTheServiceVolume
meets-up-to-the-service-volume c a n h k demand d =
    let met = Meets-iff (with_demand c demand) n in
    let volume = service_volume-iff c n a h k demand d in
    let same : volume_in (answer_to c) n ≡ service_volume c n = volume_in-accepted c n a h k in
    (λ m. rw same (volume.0 (met.0 m)), λ l. met.1 (volume.1 (rw same at l)))

-- ---- SHAPE-3
-- a count that meets a letter is accepted
accepted-count : (case : Case) (n lanes : ℕ) → T (meets (with_lanes case lanes) n) → AcceptedCount case lanes
accepted-count case n lanes t =
    let kind = meets-of-kind (with_lanes case lanes) n t in
    (kind.0, kind.1, meets-only-accepted (with_lanes case lanes) n t)

module _ (case : Case) (n : ℕ) (h : 1 ≤ n) (k : n ≤ 5) (z : FieldsFit case) where
  abbrev Least : ℕ → Type 0
  Least lanes =
      AcceptedCount case lanes
      × Meets (with_lanes case lanes) n
      × ((fewer : ℕ) → AcceptedCount case fewer → fewer < lanes → Meets (with_lanes case fewer) n → ⊥)

  -- the count that is found is the least
  found-least : lanes_found case n ≤ most_lanes case.road.kind → Least (lanes_found case n)
  found-least l =
      let t = lanes_found-meets case n l in (
        accepted-count case n (lanes_found case n) t,
        (Meets-iff (with_lanes case (lanes_found case n)) n).1 t,
        λ fewer a f m. omega (arith, lanes_found-le case n fewer ((Meets-iff (with_lanes case fewer) n).0 m)),
      )

  -- the least is found
  least-found : (lanes : ℕ) → Least lanes → lanes_found case n ≡ lanes
  least-found lanes least =
      lanes_found-eq case n lanes least.0.1 ((Meets-iff (with_lanes case lanes) n).0 least.1)
      (λ fewer f t. least.2 fewer (accepted-count case n fewer t) f ((Meets-iff (with_lanes case fewer) n).1 t))

  -- what is answered: a count, or 14
  found : lanes_found case n ≤ most_lanes case.road.kind → lanes_answer case n ≡ Ok (lanes_found case n)
  found l = lanes_answer-found case n h k z l

  none : (lanes_found case n ≤ most_lanes case.road.kind → ⊥) → lanes_answer case n ≡ Err Refusal.NoLaneCount
  none l = lanes_answer-none case n h k z (omega arith)

  answers : (count : ℕ) → (lanes_figures (lanes_answer case n) ≡ count ∷ []) ↔ Least count
  answers count = (to (dec_le (lanes_found case n) (most_lanes case.road.kind)), from)
    where
      to : Dec (lanes_found case n ≤ most_lanes case.road.kind) → lanes_figures (lanes_answer case n) ≡ count ∷ [] → Least count
      to (yes l) e =
          let same : lanes_found case n ≡ count = ap (λ xs. get_or xs 0 0) (sym (ap lanes_figures (found l)) ∙ e) in
          rw same at (found-least l)
      to (no l) e = absurd (let o : ◌≡◌ {A = ℕ} 0 1 = ap length (sym (ap lanes_figures (none l)) ∙ e) in omega arith)

      from : Least count → lanes_figures (lanes_answer case n) ≡ count ∷ []
      from least =
          let same : lanes_found case n ≡ count = least-found count least in
          ap lanes_figures (found (rw same least.0.1)) ∙ ap (λ c. c ∷ []) same

  refuses-14 : (refusal_number (lanes_answer case n) ≡ 14) ↔ ((count : ℕ) → AcceptedCount case count → Meets (with_lanes case count) n → ⊥)
  refuses-14 = (to (dec_le (lanes_found case n) (most_lanes case.road.kind)), from)
    where
      to : Dec (lanes_found case n ≤ most_lanes case.road.kind) → refusal_number (lanes_answer case n) ≡ 14
          → (count : ℕ) → AcceptedCount case count → Meets (with_lanes case count) n → ⊥
      to (yes l) e count a m = let o : ◌≡◌ {A = ℕ} 0 14 = sym (ap refusal_number (found l)) ∙ e in omega arith
      to (no l) e count a m = omega (arith, a.1, lanes_found-le case n count ((Meets-iff (with_lanes case count) n).0 m))

      from : ((count : ℕ) → AcceptedCount case count → Meets (with_lanes case count) n → ⊥) → refusal_number (lanes_answer case n) ≡ 14
      from nothing =
          let past : lanes_found case n ≡ suc (most_lanes case.road.kind) =
          lanes_found-none case n (λ count l t. nothing count (accepted-count case n count t) ((Meets-iff (with_lanes case count) n).1 t)) in
          ap refusal_number (none (λ l. omega arith))

-- SHAPE-3
pub least-accepted-count : LeastAcceptedCount
least-accepted-count case n h k z = (answers case n h k z, refuses-14 case n h k z)

-- the three together
pub shape-of-the-method : ShapeOfTheMethod
shape-of-the-method = (no-better-under-more-load, meets-up-to-the-service-volume, least-accepted-count)
