-- Meeting a letter and service volumes (specs/Volumes), and what the search tries (specs/Search).
use Rattle.std.proofs.Common.{◌≡◌, refl, Bool, false, ◌↔◌, ℕ, ◌*◌, ◌≤◌, ◌<◌, T, leb, eqb, eqb→eq, arith, le_refl, ne_eqb}
use Rattle.numbers.specs.Search.{greatest, DownwardClosed}
use Rattle.numbers.proofs.SearchLaws.{greatest-iff, greatest-cong}
use Rattle.numbers.proofs.BoolLaws.{and-left, leb-test}
use Rattle.curve.specs.declared.Curve.{Curve}
use Rattle.curve.specs.Curves.{WellFormed}
use Rattle.curve.specs.Service.{letter_at, letter_number, performance, meets_limit, density_limit}
use Rattle.curve.proofs.ServiceLaws.{letter_at-le-iff, meets_limit-zero, meets_limit-down}
use Rattle.road.specs.declared.Case.{Case}
use Rattle.road.specs.Cases.{with_demand}
use Rattle.road.specs.Refusals.{greatest_demand}
use Rattle.method.specs.declared.flow.Load.{Load}
use Rattle.method.specs.Refusals.{refusal, Accepted}
use Rattle.method.specs.Checked.{case_curve}
use Rattle.method.specs.Flow.{heavy_factor_of, load_of, flow_rate_of, case_flow_rate}
use Rattle.method.specs.Assess.{measures}
use Rattle.method.proofs.RefusalLaws.{accepted-fields, accepted-with_demand}
use Rattle.method.proofs.CheckedLaws.{case_curve-well_formed}
use Rattle.method.proofs.FlowLaws.{case_load-sized, flow_rate_of-mono, flow_rate_of-zero}
use Rattle.answer.specs.Volumes.{meets, service_volume, service_volumes}
use Rattle.answer.specs.Search.{demand_meets, searched_volumes}

-- ---- meeting a letter
-- an accepted case meets a letter exactly when its flow rate keeps to the letter's density
pub meets-accepted : (case : Case) (l : ℕ) → Accepted case → 1 ≤ l → l ≤ 5
    → meets case l ≡ meets_limit (case_curve case) (case_flow_rate case) (density_limit l)
unfolding meets measures performance
meets-accepted case l a h k =
    rw a (leb-test (letter_number (letter_at (case_curve case) (case_flow_rate case))) l _
    (letter_at-le-iff (case_curve case) (case_flow_rate case) l h k))

-- meets-refused, meets-only-accepted: a refused case meets no letter
pub meets-refused : (case : Case) (l : ℕ) → 0 < refusal case → meets case l ≡ false
unfolding meets
meets-refused case l p = simp (ne_eqb (refusal case) 0 (λ e. omega arith))

-- what meets a letter is accepted
pub meets-only-accepted : (case : Case) (l : ℕ) → T (meets case l) → Accepted case
unfolding meets
meets-only-accepted case l t = eqb→eq (refusal case) 0
    (and-left (eqb (refusal case) 0) (leb (letter_number (measures case).performance.letter) l) t)

-- ---- what the search tries
module _ (curve : Curve) (load : Load) (limit : ℕ) (ok : WellFormed curve) (pos : 0 < load.divisor) where
  -- demand_meets-zero, demand_meets-down: no demand keeps to every density; less demand keeps to what more
  -- keeps to
  pub demand_meets-zero : T (demand_meets curve load limit 0)
  unfolding demand_meets
  demand_meets-zero = rw (flow_rate_of-zero load 0 pos refl) (meets_limit-zero curve limit ok)

  pub demand_meets-down : DownwardClosed (demand_meets curve load limit)
  unfolding demand_meets
  demand_meets-down m n h t =
      meets_limit-down curve (flow_rate_of load m) (flow_rate_of load n) limit ok
      (flow_rate_of-mono load load m n pos h (le_refl load.heavy_factor) (le_refl load.divisor)) t

-- case_meets, case_meets-zero, case_meets-down: what the search tries of a case; the two of an accepted case
abbrev pub case_meets : Case → ℕ → ℕ → Bool
case_meets case limit = demand_meets (case_curve case) (load_of case case.lanes) limit

module _ (case : Case) (limit : ℕ) (a : Accepted case) where
  pos : 0 < case.peak_hour_factor * case.lanes
  pos = (case_load-sized case (accepted-fields case a)).divisor-pos

  pub case_meets-zero : T (case_meets case limit 0)
  case_meets-zero = demand_meets-zero (case_curve case) (load_of case case.lanes) limit (case_curve-well_formed case a) pos

  pub case_meets-down : DownwardClosed (case_meets case limit)
  case_meets-down = demand_meets-down (case_curve case) (load_of case case.lanes) limit (case_curve-well_formed case a) pos

-- ---- the service volume
-- they are the same whatever the case's own demand is
pub service_volumes-with_demand : (case : Case) (demand : ℕ) → service_volumes (with_demand case demand) ≡ service_volumes case
unfolding service_volume
service_volumes-with_demand case demand = refl

module _ (case : Case) (l : ℕ) (a : Accepted case) (h : 1 ≤ l) (k : l ≤ 5) where
  -- what the search tries at a demand is meeting the letter with that demand
  pub meets-demand : (demand : ℕ) → demand ≤ greatest_demand → meets (with_demand case demand) l ≡ case_meets case (density_limit l) demand
  unfolding demand_meets heavy_factor_of
  meets-demand demand d = meets-accepted (with_demand case demand) l (accepted-with_demand case demand a d) h k

  -- the service volume of an accepted case is the greatest demand that the search's test passes
  pub service_volume-eq : service_volume case l ≡ greatest (case_meets case (density_limit l)) greatest_demand
  unfolding service_volume
  service_volume-eq =
      greatest-cong (λ demand. meets (with_demand case demand) l) (case_meets case (density_limit l)) greatest_demand meets-demand

  -- a demand meets a letter exactly when it is at most the service volume
  pub service_volume-iff : (demand : ℕ) → demand ≤ greatest_demand → T (meets (with_demand case demand) l) ↔ (demand ≤ service_volume case l)
  service_volume-iff demand d =
      rw (meets-demand demand d, service_volume-eq)
      (greatest-iff (case_meets case (density_limit l)) greatest_demand demand (case_meets-zero case (density_limit l) a)
      (case_meets-down case (density_limit l) a) d)

-- what is searched for on the curve of an accepted case, with its load, are its service volumes
pub searched_volumes-case : (case : Case) → Accepted case → searched_volumes (case_curve case) (load_of case case.lanes) ≡ service_volumes case
searched_volumes-case case a =
    simp (
      service_volume-eq case 1 a (omega arith) (omega arith),
      service_volume-eq case 2 a (omega arith) (omega arith),
      service_volume-eq case 3 a (omega arith) (omega arith),
      service_volume-eq case 4 a (omega arith) (omega arith),
      service_volume-eq case 5 a (omega arith) (omega arith),
    )

-- for tactics: the last
pub ruleset volume_laws = (searched_volumes-case)
