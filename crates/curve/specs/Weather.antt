-- The curve under weather: a speed factor and a capacity factor, in thousandths. A product is rounded down at
-- its end alone.
use Rattle.std.specs.Prelude.{ℕ, ◌≤◌}
use Rattle.numbers.specs.Fraction.{over, whole, times, squared, rounded_down}
use Rattle.curve.specs.declared.kind.Kind.{Kind}
use Rattle.curve.specs.declared.Curve.{Curve}
use Rattle.curve.specs.declared.Weather.{Weather}
use Rattle.curve.specs.Kinds.{lowest_factor}
use Rattle.curve.specs.Curves.{capacity, breakpoint}

-- WEATHER-1: the weather with these two factors
abbrev pub factors : (speed capacity : ℕ) → Weather
factors speed capacity = record { speed_factor = speed; capacity_factor = capacity }

-- WEATHER-1: both factors 1,000
abbrev pub clear : Weather
clear = factors 1000 1000

-- WEATHER-1, KIND-1: both factors are within the kind's ends
pub record FactorsFit (kind : Kind) (weather : Weather) : Type 0 where
  pub speed-low : lowest_factor kind ≤ weather.speed_factor
  pub speed-high : weather.speed_factor ≤ 1000
  pub capacity-low : lowest_factor kind ≤ weather.capacity_factor
  pub capacity-high : weather.capacity_factor ≤ 1000

-- WEATHER-2: F after its factor
unfoldable pub adjusted_speed : Weather → ℕ → ℕ
adjusted_speed weather f = rounded_down (times (whole f) (over weather.speed_factor 1000))

-- WEATHER-3: c after its factor
unfoldable pub adjusted_capacity : Weather → ℕ → ℕ
adjusted_capacity weather c = rounded_down (times (whole c) (over weather.capacity_factor 1000))

-- WEATHER-3: b after the square of that factor
unfoldable pub adjusted_breakpoint : Weather → ℕ → ℕ
adjusted_breakpoint weather b = rounded_down (times (whole b) (squared (over weather.capacity_factor 1000)))

-- WEATHER-2, WEATHER-3: the curve of a kind at free-flow speed f, which is before its factor; c and b are
-- worked from F after it
unfoldable pub curve_under : Weather → Kind → ℕ → Curve
curve_under weather kind f =
    record {
      kind = kind;
      free_flow_speed = adjusted_speed weather f;
      capacity = adjusted_capacity weather (capacity kind (adjusted_speed weather f));
      breakpoint = adjusted_breakpoint weather (breakpoint kind (adjusted_speed weather f));
    }
