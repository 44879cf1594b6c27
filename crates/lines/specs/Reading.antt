-- A line as a case or its refusal.
use Rattle.std.specs.Prelude.{ℕ, if◌then◌else◌, Option, Some, None, Result, Ok, Err, List, [], ◌∷◌, ◌==◌, nat_lt, length, get_or}
use Prim.Native.Char.{code}
use Rattle.text.specs.Bytes.{tab}
use Rattle.text.specs.Parts.{parts}
use Rattle.curve.specs.declared.kind.Kind.{Kind}
use Rattle.curve.specs.Weather.{factors}
use Rattle.road.specs.declared.Way.{Way}
use Rattle.road.specs.declared.Median.{Median}
use Rattle.road.specs.declared.Terrain.{Terrain}
use Rattle.road.specs.declared.Case.{Case}
use Rattle.road.specs.Cases.{road, loaded}
use Rattle.refusals.specs.declared.Refusal.{Refusal}
use Rattle.lines.specs.Fields.{Field, layout, completed, values_of}

-- LINE-6: the kind that a byte stands for
abbrev pub kind_of : ℕ → Kind
kind_of b = if b == code "F" then Kind.Freeway else Kind.Multilane

-- LINE-6: the way that a byte stands for
abbrev pub way_of : ℕ → Way
way_of b = if b == code "E" then Way.Estimated else Way.Given

-- LINE-6: the median that a byte stands for
abbrev pub median_of : ℕ → Median
median_of b = if b == code "U" then Median.Undivided
    else if b == code "D" then Median.Divided else Median.TwoWayLeftTurnLane

-- LINE-6: the terrain that a byte stands for
abbrev pub terrain_of : ℕ → Terrain
terrain_of b = if b == code "L" then Terrain.Level else Terrain.Rolling

-- LINE-6: the case of the 15 values of a line
unfoldable pub case_of : List ℕ → Case
case_of vs =
    let at : ℕ → ℕ = λ i. get_or vs i 0 in
    loaded (road (kind_of (at 0)) (way_of (at 1)) (at 2) (at 3) (at 4) (at 5) (median_of (at 6)) (at 7))
    (at 8) (at 9) (at 10) (at 11) (terrain_of (at 12)) (factors (at 13) (at 14))

-- LINE-6, REFUSAL-15: the case of a line's values, 15 where there are none
unfoldable pub read_values : Option (List ℕ) → Result Case Refusal
read_values None = Err Refusal.LineMalformed
read_values (Some vs) = Ok (case_of vs)

-- LINE-5: the most bytes of a line that is not malformed for its length
abbrev pub longest_line : ℕ
longest_line = 80

-- LINE-6, LINE-5, REFUSAL-15: the case of a line whose fields are these, or its refusal
abbrev pub read_by : List Field → List ℕ → Result Case Refusal
read_by fields bs =
    if nat_lt longest_line (length bs) then Err Refusal.LineMalformed
    else read_values (values_of fields (completed (parts tab bs)))

-- LINE-6, REFUSAL-15: the case of a line, or its refusal; refusals/specs/Numbers.refusal_number has its
-- number
unfoldable pub read_line : List ℕ → Result Case Refusal
read_line bs = read_by layout bs

-- LINE-6: the byte of a kind
abbrev pub kind_byte : Kind → ℕ
kind_byte Kind.Freeway = code "F"
kind_byte Kind.Multilane = code "M"

-- LINE-6: the byte of a way
abbrev pub way_byte : Way → ℕ
way_byte Way.Estimated = code "E"
way_byte Way.Given = code "G"

-- LINE-6: the byte of a median
abbrev pub median_byte : Median → ℕ
median_byte Median.Undivided = code "U"
median_byte Median.Divided = code "D"
median_byte Median.TwoWayLeftTurnLane = code "T"

-- LINE-6: the byte of a terrain
abbrev pub terrain_byte : Terrain → ℕ
terrain_byte Terrain.Level = code "L"
terrain_byte Terrain.Rolling = code "R"

-- LINE-6, FORM-10: the 15 values of a case; of a refusal no value
abbrev pub case_values : Result Case Refusal → List ℕ
case_values (Ok c) =
    kind_byte c.road.kind ∷ way_byte c.road.way ∷ c.road.speed ∷ c.road.lane_width ∷ c.road.right_clearance
    ∷ c.road.left_clearance ∷ median_byte c.road.median ∷ c.road.access ∷ c.lanes ∷ c.demand
    ∷ c.peak_hour_factor ∷ c.heavy_share ∷ terrain_byte c.terrain
    ∷ c.weather.speed_factor ∷ c.weather.capacity_factor ∷ []
case_values (Err r) = []
