-- What has been read of a line so far, field by field, and what is left of it.
use Rattle.std.specs.Prelude.{◌≡◌, ℕ, if◌then◌else◌, Option, None, Some, List, [], ◌∷◌, ◌++◌, take, length, ◌==◌}
use Rattle.std.specs.Borrow.{Bor}
use Rattle.text.specs.Bytes.{tab}
use Rattle.text.specs.Parts.{parts, count_before}
use Rattle.curve.specs.declared.Weather.{Weather}
use Rattle.road.specs.declared.Road.{Road}
use Rattle.road.specs.declared.Case.{Case}
use Rattle.lines.specs.declared.field.Fields.{Fields}
use Rattle.lines.specs.Fields.{Field, clear_factors, one_of, joined, values_of}
use Rattle.lines.specs.Reading.{kind_byte, way_byte, median_byte, terrain_byte}

-- LINE-1: the bytes of the first field of bs, which ends before a tab or with bs
abbrev pub first_field : List ℕ → List ℕ
first_field bs = take (count_before tab bs) bs

-- LINE-1: the parts of the bytes that are left, if any are
abbrev pub parts_left : Option (Bor (List ℕ)) → List (List ℕ)
parts_left None = []
parts_left (Some bs) = parts tab bs.now

-- LINE-1: the parts that are left of a line
abbrev pub left : Fields → List (List ℕ)
left fields = parts_left fields.rest

-- LINE-1: the values vs of some fields, before those of the fields behind them
abbrev pub before : Option (List ℕ) → Option (List ℕ) → Option (List ℕ)
before None ws = None
before (Some vs) None = None
before (Some vs) (Some ws) = Some (vs ++ ws)

-- LINE-1: the fields fs have been read off the parts ps: they have the values vs, none where they are
-- malformed, and qs are left for whatever fields stand behind them
abbrev pub Reads : (fs : List Field) (vs : Option (List ℕ)) (ps qs : List (List ℕ)) → Type 0
Reads fs vs ps qs = (behind : List Field) → values_of (fs ++ behind) ps ≡ before vs (values_of behind qs)

-- LINE-1: the field f has been read off the parts ps: it has the value v, none where it is malformed, and qs
-- are left for whatever fields stand behind it
abbrev pub ReadsOne : Field → Option ℕ → (ps qs : List (List ℕ)) → Type 0
ReadsOne f v ps qs = (behind : List Field) → values_of (f ∷ behind) ps ≡ joined v (values_of behind qs)

-- LINE-3: the byte b, where it is one of ls
abbrev pub letter_among : List ℕ → ℕ → Option ℕ
letter_among ls b = if one_of b ls then Some b else None

-- LINE-6: the values of a road
abbrev pub road_values : Road → List ℕ
road_values r =
    kind_byte r.kind ∷ way_byte r.way ∷ r.speed ∷ r.lane_width ∷ r.right_clearance ∷ r.left_clearance
    ∷ median_byte r.median ∷ r.access ∷ []

-- LINE-6: the values of a case, its weather's aside
abbrev pub clear_values : Case → List ℕ
clear_values c =
    road_values c.road
    ++ (c.lanes ∷ c.demand ∷ c.peak_hour_factor ∷ c.heavy_share ∷ terrain_byte c.terrain ∷ [])

-- LINE-6: the values of the weather
abbrev pub weather_values : Weather → List ℕ
weather_values w = w.speed_factor ∷ w.capacity_factor ∷ []

-- LINE-4: the parts ps, or those of clear weather where there are none
abbrev pub or_clear : List (List ℕ) → List (List ℕ)
or_clear ps = if length ps == 0 then clear_factors else ps
