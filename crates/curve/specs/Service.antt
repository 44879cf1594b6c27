-- Density and letter on a curve at flow rate v. Density is in tenths of a passenger car per mile per lane.
use Rattle.std.specs.Prelude.{ℕ, ◌*◌, Bool, if◌then◌else◌, ◌&&◌, nat_le, ◌==◌}
use Rattle.numbers.specs.Fraction.{whole, divided_by, rounded_up}
use Rattle.curve.specs.declared.Curve.{Curve}
use Rattle.curve.specs.declared.service.Letter.{Letter}
use Rattle.curve.specs.declared.service.Performance.{Performance}
use Rattle.curve.specs.Speed.{speed, shown_speed}

-- CURVE-7: 10,000v / S rounded up, for v up to capacity; S is not rounded
unfoldable pub density : Curve → ℕ → ℕ
density curve v = rounded_up (divided_by (whole (10000 * v)) (speed curve v))

-- CURVE-7, LETTER-2: density as it is shown; 0 above capacity
unfoldable pub shown_density : Curve → ℕ → ℕ
shown_density curve v = if nat_le (100 * v) curve.capacity then density curve v else 0

-- LETTER-1: the greatest density of letter number n from 1 to 5 (any other number has E's)
unfoldable pub density_limit : ℕ → ℕ
density_limit n = if n == 1 then 110
    else if n == 2 then 180
    else if n == 3 then 260
    else if n == 4 then 350 else 450

-- LETTER-1: the letter of a density up to capacity, where none gets F
unfoldable pub density_letter : ℕ → Letter
density_letter d =
    if nat_le d (density_limit 1) then Letter.A
    else if nat_le d (density_limit 2) then Letter.B
    else if nat_le d (density_limit 3) then Letter.C
    else if nat_le d (density_limit 4) then Letter.D
    else if nat_le d (density_limit 5) then Letter.E else Letter.F

-- LETTER-1, LETTER-2: the letter; F above capacity
unfoldable pub letter_at : Curve → ℕ → Letter
letter_at curve v = if nat_le (100 * v) curve.capacity then density_letter (density curve v) else Letter.F

-- VOLUME-1, LETTER-1: v is up to capacity, and its density at most the limit
unfoldable pub meets_limit : Curve → ℕ → ℕ → Bool
meets_limit curve v limit = nat_le (100 * v) curve.capacity && nat_le (density curve v) limit

-- LETTER-3: A is 1, the best, F is 6, the worst
abbrev pub letter_number : Letter → ℕ
letter_number Letter.A = 1
letter_number Letter.B = 2
letter_number Letter.C = 3
letter_number Letter.D = 4
letter_number Letter.E = 5
letter_number Letter.F = 6

-- CURVE-6, CURVE-7, LETTER-1, LETTER-2: speed and density as they are shown, and the letter
unfoldable pub performance : Curve → ℕ → Performance
performance curve v =
    record { speed = shown_speed curve v; density = shown_density curve v; letter = letter_at curve v }
