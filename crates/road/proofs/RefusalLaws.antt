-- Refusals 1 to 9 and 19 (specs/Refusals).
use Rattle.std.proofs.Common.{arith, ◌≡◌, ◌∙◌, false, ◌++◌, ◌↔◌, ℕ, ◌≤◌, T}
use Rattle.std.proofs.lemmas.Bool.Decides.{nat_tests}
use Rattle.refusals.specs.Refusals.{outside}
use Rattle.refusals.proofs.RefusalLaws.{numbered, first_refusal-none, first_refusal-join, none-met, none-of, within}
use Rattle.refusals.proofs.RefusalLaws.{inside}
use Rattle.refusals.proofs.NumberLaws.{number-above, in_turn}
use Rattle.curve.specs.declared.kind.Kind.{Kind}
use Rattle.curve.specs.declared.Weather.{Weather}
use Rattle.curve.specs.Kinds.{fewest_lanes, most_lanes}
use Rattle.curve.specs.Weather.{FactorsFit}
use Rattle.road.specs.declared.Road.{Road}
use Rattle.road.specs.declared.Case.{Case}
use Rattle.road.specs.Cases.{with_lanes, with_load}
use Rattle.road.specs.Refusals.{greatest_demand, weather_unfit, road_refusals, lane_refusals, section_refusals, load_refusals}
use Rattle.road.specs.Refusals.{weather_refusals, field_refusals, RoadFits, SectionFits, LoadFits, WeatherFits, FieldsFit}

-- ---- the parts of the list
-- road-numbered, section-numbered, load-numbered, fields-numbered: every number is above 0
pub road-numbered : (road : Road) → T (numbered (road_refusals road))
unfolding road_refusals
road-numbered road = tt

pub section-numbered : (case : Case) → T (numbered (section_refusals case))
unfolding road_refusals
section-numbered case = tt

pub load-numbered : (case : Case) → T (numbered (load_refusals case))
unfolding load_refusals
load-numbered case = tt

pub fields-numbered : (case : Case) → T (numbered (field_refusals case))
unfolding field_refusals road_refusals load_refusals
fields-numbered case = tt

-- section_in_turn, fields_in_turn: for tactics: of code that asks one part after another
pub ruleset section_in_turn = (in_turn, road-numbered, nat_tests)

-- a case that none of 1 to 9 nor 19 refuses: neither 1 to 6 nor 7 to 9 nor 19 do; and the converse
pub fields-parts : (case : Case) → FieldsFit case → SectionFits case × LoadFits case × WeatherFits case
unfolding field_refusals
fields-parts case z =
    let p = first_refusal-join (section_refusals case) (load_refusals case ++ weather_refusals case) (section-numbered case) z in
    let q = first_refusal-join (load_refusals case) (weather_refusals case) (load-numbered case) p.1 in
    (p.0, q.0, q.1)

pub fields-of : (case : Case) → SectionFits case → LoadFits case → WeatherFits case → FieldsFit case
unfolding field_refusals
fields-of case s l w =
    first_refusal-none (section_refusals case) (load_refusals case ++ weather_refusals case) (section-numbered case) s
    ∙ first_refusal-none (load_refusals case) (weather_refusals case) (load-numbered case) l
    ∙ w

pub ruleset fields_in_turn = (in_turn, section-numbered, load-numbered, fields-of)

section-parts : (case : Case) → SectionFits case
    → RoadFits case.road × (outside (fewest_lanes case.road.kind) (most_lanes case.road.kind) case.lanes ≡ false)
section-parts case s =
    let p = first_refusal-join (road_refusals case.road) (lane_refusals case) (road-numbered case.road) s in
    (p.0, (none-met (lane_refusals case) tt p.1).0)

-- section-road, fields-road: a case that none of 1 to 6 refuses, or none of them: 1 to 5 do not refuse its
-- road
pub section-road : (case : Case) → SectionFits case → RoadFits case.road
section-road case s = (section-parts case s).0

pub fields-road : (case : Case) → FieldsFit case → RoadFits case.road
fields-road case z = section-road case (fields-parts case z).0

-- for tactics: the last
pub ruleset fit_road = (fields-road)

-- ---- the ends that they leave
-- road-speed-low, freeway-ramps-high, multilane-access-high: the ends that 1 and 5 leave to a road
pub road-speed-low : (road : Road) → RoadFits road → 30000 ≤ road.speed
unfolding road_refusals
road-speed-low road z = grind (arith, nat_tests)

pub freeway-ramps-high : (road : Road) → RoadFits road → road.kind ≡ Kind.Freeway → road.access ≤ 48
unfolding road_refusals
freeway-ramps-high road z e = grind (arith, nat_tests)

pub multilane-access-high : (road : Road) → RoadFits road → road.kind ≡ Kind.Multilane → road.access ≤ 200
unfolding road_refusals
multilane-access-high road z e = grind (arith, nat_tests)

-- for tactics: the three
pub ruleset road_ends = (road-speed-low, freeway-ramps-high, multilane-access-high)

-- a load that 7 to 9 let pass, by its ends
pub loads-exactly : (case : Case)
    → LoadFits case
    ↔ ((case.demand ≤ greatest_demand) × (250 ≤ case.peak_hour_factor) × (case.peak_hour_factor ≤ 1000)
    × (case.heavy_share ≤ 1000))
unfolding load_refusals
loads-exactly case = (
  λ z. (grind (arith, nat_tests), grind (arith, nat_tests), grind (arith, nat_tests), grind (arith, nat_tests)),
  λ (demand, low, high, share). grind (arith, nat_tests),
)

-- LoadEnds, load-ends: the ends that 6 to 9 leave to a case
pub record LoadEnds (case : Case) : Type 0 where
  pub lanes-low : fewest_lanes case.road.kind ≤ case.lanes
  pub lanes-high : case.lanes ≤ most_lanes case.road.kind
  pub demand-high : case.demand ≤ greatest_demand
  pub factor-low : 250 ≤ case.peak_hour_factor
  pub factor-high : case.peak_hour_factor ≤ 1000
  pub share-high : case.heavy_share ≤ 1000

pub load-ends : (case : Case) → FieldsFit case → LoadEnds case
load-ends case z =
    let (section, loads, weather) = fields-parts case z in
    let lanes = within (fewest_lanes case.road.kind) (most_lanes case.road.kind) case.lanes (section-parts case section).1 in
    let (demand, factor-low, factor-high, share) = (loads-exactly case).0 loads in
    record {
      lanes-low = lanes.0;
      lanes-high = lanes.1;
      demand-high = demand;
      factor-low = factor-low;
      factor-high = factor-high;
      share-high = share;
    }

-- fit-demand, lanes-low, lanes-high: its demand is up to the greatest, and its lanes are of the kind
pub fit-demand : (case : Case) → FieldsFit case → case.demand ≤ greatest_demand
fit-demand case z = (load-ends case z).demand-high

pub lanes-low : (case : Case) → FieldsFit case → fewest_lanes case.road.kind ≤ case.lanes
lanes-low case z = (load-ends case z).lanes-low

pub lanes-high : (case : Case) → FieldsFit case → case.lanes ≤ most_lanes case.road.kind
lanes-high case z = (load-ends case z).lanes-high

-- weather-exactly, weather-fits, fields-weather: the factors that 19 lets pass
pub weather-exactly : (kind : Kind) (weather : Weather) → (weather_unfit kind weather ≡ false) ↔ FactorsFit kind weather
unfolding weather_unfit
weather-exactly kind weather = (
  λ e.
      record {
        speed-low = grind (arith, nat_tests);
        speed-high = grind (arith, nat_tests);
        capacity-low = grind (arith, nat_tests);
        capacity-high = grind (arith, nat_tests);
      },
  λ fit. grind (arith, nat_tests),
)

pub weather-fits : (case : Case) → WeatherFits case → FactorsFit case.road.kind case.weather
weather-fits case w = (weather-exactly case.road.kind case.weather).0 (none-met (weather_refusals case) tt w).0

pub fields-weather : (case : Case) → FieldsFit case → FactorsFit case.road.kind case.weather
fields-weather case z = weather-fits case (fields-parts case z).2

-- nor is its load refused
pub fields-load : (case : Case) → FieldsFit case → LoadFits case
fields-load case z = (fields-parts case z).1

-- for tactics: the last
pub ruleset fit_load = (fields-load)

-- ---- a case with another lane count
-- a case that none of them refuses is so with every lane count of the kind
pub fields-with_lanes : (case : Case) (n : ℕ) → FieldsFit case → fewest_lanes case.road.kind ≤ n → n ≤ most_lanes case.road.kind
    → FieldsFit (with_lanes case n)
unfolding load_refusals
fields-with_lanes case n z h k =
    let (section, loads, weather) = fields-parts case z in
    fields-of (with_lanes case n)
    (first_refusal-none (road_refusals case.road) (lane_refusals (with_lanes case n)) (road-numbered case.road)
    (section-road case section)
    ∙ none-of (lane_refusals (with_lanes case n)) (inside (fewest_lanes case.road.kind) (most_lanes case.road.kind) n h k, tt))
    loads weather

-- ---- a case with another load
-- nor does any of them refuse it with another load that 7 to 9 let pass
pub fields-with_load : (case : Case) (demand factor share : ℕ) → FieldsFit case → LoadFits (with_load case demand factor share)
    → FieldsFit (with_load case demand factor share)
fields-with_load case demand factor share z l =
    let (section, loads, weather) = fields-parts case z in fields-of (with_load case demand factor share) section l weather
