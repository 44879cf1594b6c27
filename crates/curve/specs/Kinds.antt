-- What each kind carries: the ends of F in thousandths of mi/h, of the weather's factors in thousandths, of
-- the lane count, and of capacity in hundredths of passenger cars per hour per lane. The curve exponents, 2
-- and 1.31, are in Speed and Power.
use Rattle.std.specs.Prelude.{ℕ}
use Rattle.curve.specs.declared.kind.Kind.{Kind}

-- KIND-1, REFUSAL-10: the lower end of F before the speed factor
abbrev pub lowest_speed : Kind → ℕ
lowest_speed Kind.Freeway = 55000
lowest_speed Kind.Multilane = 45000

-- KIND-1, FFS-10: the upper end of F
abbrev pub highest_speed : Kind → ℕ
highest_speed Kind.Freeway = 75000
highest_speed Kind.Multilane = 70000

-- KIND-1, REFUSAL-10: the lower end of F after the speed factor
abbrev pub lowest_adjusted_speed : Kind → ℕ
lowest_adjusted_speed Kind.Freeway = 50000
lowest_adjusted_speed Kind.Multilane = 45000

-- KIND-1, WEATHER-1, REFUSAL-19: the lower end of the weather's factors
abbrev pub lowest_factor : Kind → ℕ
lowest_factor Kind.Freeway = 500
lowest_factor Kind.Multilane = 1000

-- KIND-1, REFUSAL-6: fewest_lanes, most_lanes: the ends of the lane count
abbrev pub fewest_lanes : Kind → ℕ
fewest_lanes Kind.Freeway = 2
fewest_lanes Kind.Multilane = 2

abbrev pub most_lanes : Kind → ℕ
most_lanes Kind.Freeway = 8
most_lanes Kind.Multilane = 3

-- KIND-1, CURVE-1: lowest_capacity, highest_capacity: the ends of capacity in clear weather, at the ends of F
abbrev pub lowest_capacity : Kind → ℕ
lowest_capacity Kind.Freeway = 225000
lowest_capacity Kind.Multilane = 190000

abbrev pub highest_capacity : Kind → ℕ
highest_capacity Kind.Freeway = 240000
highest_capacity Kind.Multilane = 230000
