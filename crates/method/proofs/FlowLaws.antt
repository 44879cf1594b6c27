-- The flow rate (specs/Flow).
use Rattle.std.proofs.Common.{◌≡◌, ap, ◌∙◌, ℕ, ◌*◌, ◌-◌, ◌≤◌, ◌<◌, arith, mul-le-mul, mul-pos, zero-mul}
use Rattle.numbers.specs.Division.{div_up}
use Rattle.numbers.proofs.DivisionLaws.{div_up-mono, div_up-zero}
use Rattle.curve.proofs.KindLaws.{kind-ends}
use Rattle.road.specs.declared.Terrain.{Terrain}
use Rattle.road.specs.declared.Case.{Case}
use Rattle.curve.specs.Kinds.{fewest_lanes, most_lanes}
use Rattle.road.specs.Refusals.{LoadFits, FieldsFit}
use Rattle.road.proofs.RefusalLaws.{loads-exactly, lanes-low, lanes-high, fields-load}
use Rattle.method.specs.declared.flow.Load.{Load}
use Rattle.method.specs.Flow.{truck_equivalent, heavy_factor_of, load_of, flow_rate_of, case_flow_rate, LoadSized}

-- E is 2 or 3
pub truck_equivalent-ends : (t : Terrain) → (2 ≤ truck_equivalent t) × (truck_equivalent t ≤ 3)
truck_equivalent-ends Terrain.Level = (omega arith, omega arith)
truck_equivalent-ends Terrain.Rolling = (omega arith, omega arith)

-- what the heavy vehicles add
pub heavy-le : (case : Case) → LoadFits case → case.heavy_share * (truck_equivalent case.terrain - 1) ≤ 2000
heavy-le case l =
    let ends = truck_equivalent-ends case.terrain in
    let (demand, factor-low, factor-high, share) = (loads-exactly case).0 l in
    mul-le-mul {n₂ = 1000} {m₂ = 2} share (omega arith)

-- 64 bits hold the products with the load of a case that 7 to 9 do not refuse, with each lane count of its
-- kind
pub load_of-sized : (case : Case) (n : ℕ) → LoadFits case → fewest_lanes case.road.kind ≤ n → n ≤ most_lanes case.road.kind
    → LoadSized (load_of case n)
unfolding heavy_factor_of
load_of-sized case n l few most =
    let (demand, factor-low, factor-high, share) = (loads-exactly case).0 l in
    let kind = kind-ends case.road.kind in
    record {
      heavy-ge = omega arith;
      heavy-le = omega (arith, heavy-le case l);
      divisor-pos = mul-pos (omega (arith, factor-low)) (omega (arith, few, kind.lanes-ge));
      divisor-le = mul-le-mul {n₂ = 1000} {m₂ = 8} factor-high (omega (arith, most, kind.lanes-le));
    }

-- for tactics: the three
pub ruleset load_laws = (truck_equivalent-ends, heavy-le, load_of-sized)

-- the same of a case that 1 to 9 and 19 do not refuse, with its own lanes
pub case_load-sized : (case : Case) → FieldsFit case → LoadSized (load_of case case.lanes)
case_load-sized case z = load_of-sized case case.lanes (fields-load case z) (lanes-low case z) (lanes-high case z)

-- it rises with demand and heavy factor, and falls with the divisor
pub flow_rate_of-mono : (l m : Load) (a b : ℕ) → 0 < m.divisor → a ≤ b → l.heavy_factor ≤ m.heavy_factor → m.divisor ≤ l.divisor
    → flow_rate_of l a ≤ flow_rate_of m b
unfolding flow_rate_of
flow_rate_of-mono l m a b p hd hh hn = div_up-mono (a * l.heavy_factor) l.divisor (b * m.heavy_factor) m.divisor p
    (mul-le-mul hd hh) hn

heavy_factor_of-mono : (c d : Case) → c.heavy_share ≤ d.heavy_share → truck_equivalent c.terrain ≤ truck_equivalent d.terrain
    → heavy_factor_of c ≤ heavy_factor_of d
unfolding heavy_factor_of
heavy_factor_of-mono c d hs he =
    let heavy : c.heavy_share * (truck_equivalent c.terrain - 1) ≤ d.heavy_share * (truck_equivalent d.terrain - 1) =
    mul-le-mul hs (omega arith) in
    omega arith

-- it rises with demand, share and equivalent, and falls with peak-hour factor and lanes
pub case_flow_rate-mono : (c d : Case) → FieldsFit d → c.demand ≤ d.demand → c.heavy_share ≤ d.heavy_share
    → truck_equivalent c.terrain ≤ truck_equivalent d.terrain
    → d.peak_hour_factor ≤ c.peak_hour_factor
    → d.lanes ≤ c.lanes
    → case_flow_rate c ≤ case_flow_rate d
case_flow_rate-mono c d z hd hs he hh hn =
    flow_rate_of-mono (load_of c c.lanes) (load_of d d.lanes) c.demand d.demand (case_load-sized d z).divisor-pos hd
    (heavy_factor_of-mono c d hs he) (mul-le-mul hh hn)

-- of no demand it is 0
pub flow_rate_of-zero : (load : Load) (demand : ℕ) → 0 < load.divisor → demand ≡ 0 → flow_rate_of load demand ≡ 0
unfolding flow_rate_of
flow_rate_of-zero load demand p e =
    let none : demand * load.heavy_factor ≡ 0 = ap (λ d. d * load.heavy_factor) e ∙ zero-mul load.heavy_factor in
    ap (λ n. div_up n load.divisor) none ∙ div_up-zero load.divisor p
