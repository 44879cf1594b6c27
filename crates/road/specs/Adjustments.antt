-- What is taken off a base speed, in thousandths of mi/h. Lengths are tenths of a foot.
use Rattle.std.specs.Prelude.{ℕ, ◌+◌, ◌*◌, ◌-◌, min, if◌then◌else◌, List, [], ◌∷◌, nat_le}
use Rattle.road.specs.Interpolation.{interpolated}
use Rattle.road.specs.declared.Median.{Median}

-- FFS-3: what lane width w takes off
unfoldable pub lane_width_adjustment : ℕ → ℕ
lane_width_adjustment w = if nat_le 120 w then 0
    else if nat_le 110 w then 1900 else 6600

-- FFS-4: kind F: what each foot takes off that the right clearance is short of 6, with n lanes
unfoldable pub per_missing_foot : ℕ → ℕ
per_missing_foot n = if nat_le n 2 then 600
    else if nat_le n 3 then 400
    else if nat_le n 4 then 200 else 100

-- FFS-4: kind F: the row for 6, 5, 4, 3, 2, 1, 0 feet, with p for each missing foot
unfoldable pub right_clearance_row : ℕ → List ℕ
right_clearance_row p = 0 ∷ p ∷ 2 * p ∷ 3 * p ∷ 4 * p ∷ 5 * p ∷ 6 * p ∷ []

-- FFS-4, FFS-9: kind F: what right clearance r takes off with n lanes; the row has an entry a foot
unfoldable pub right_clearance_adjustment : ℕ → ℕ → ℕ
right_clearance_adjustment r n = interpolated (right_clearance_row (per_missing_foot n)) 10 (60 - min 60 r)

-- FFS-5: kind M: the left clearance that counts, by the median: 60 with U and T
abbrev pub counted_left_clearance : Median → ℕ → ℕ
counted_left_clearance Median.Undivided l = 60
counted_left_clearance Median.Divided l = min 60 l
counted_left_clearance Median.TwoWayLeftTurnLane l = 60

-- FFS-5: kind M: the sum of both sides, each cut to 60
unfoldable pub total_clearance : Median → ℕ → ℕ → ℕ
total_clearance m r l = min 60 r + counted_left_clearance m l

-- FFS-5: kind M: two_lane_row, three_lane_row, total_clearance_row n: the row for 12, 10, 8, 6, 4, 2, 0 feet
abbrev pub two_lane_row : List ℕ
two_lane_row = 0 ∷ 400 ∷ 900 ∷ 1300 ∷ 1800 ∷ 3600 ∷ 5400 ∷ []

abbrev pub three_lane_row : List ℕ
three_lane_row = 0 ∷ 400 ∷ 900 ∷ 1300 ∷ 1700 ∷ 2800 ∷ 3900 ∷ []

unfoldable pub total_clearance_row : ℕ → List ℕ
total_clearance_row n = if nat_le n 2 then two_lane_row else three_lane_row

-- FFS-5, FFS-9: kind M: what total clearance s takes off with n lanes; the row has an entry every two feet
unfoldable pub total_clearance_adjustment : ℕ → ℕ → ℕ
total_clearance_adjustment n s = interpolated (total_clearance_row n) 20 (120 - s)

-- FFS-6: kind M: what the median takes off
abbrev pub median_adjustment : Median → ℕ
median_adjustment Median.Undivided = 1600
median_adjustment Median.Divided = 0
median_adjustment Median.TwoWayLeftTurnLane = 0

-- FFS-7: kind M: what p access points per mile take off
unfoldable pub access_adjustment : ℕ → ℕ
access_adjustment p = min 10000 (250 * p)
