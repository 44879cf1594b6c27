-- What lines are read as: one list, which marehour's takes in.
use Rattle.std.specs.Prelude.{ℕ, Result, List, [], ◌∷◌, ◌++◌, length, map, replicate}
use mathlib.Core.List.{flat_map}
use Prim.Native.String.{String, ◌++◌ as ◌then◌}
use Rattle.text.specs.Bytes.{bytes_of}
use Rattle.refusals.specs.declared.Refusal.{Refusal}
use Rattle.refusals.specs.Numbers.{refusal_number}
use Rattle.refusals.specs.Facts.{Fact, fact}
use Rattle.road.specs.declared.Case.{Case}
use Rattle.lines.specs.Reading.{read_line, case_values}
use Rattle.lines.specs.Laws.{longest_well_formed, longest, older_read_line}

-- LINE-1: the printed line with another demand and another terrain, tabs as blanks: F E 75400 110 20 0 D 24 2
-- V 920 50, and the terrain
abbrev pub printed_line_with : String → String → String
printed_line_with demand terrain =
    "F\tE\t75400\t110\t20\t0\tD\t24\t2\t" then (demand then ("\t920\t50\t" then terrain))

-- LINE-1, LINE-4: the printed line, of 13 fields
abbrev pub printed_line : String
printed_line = printed_line_with "2000" "R"

-- LINE-1, LINE-4: the printed line with two factors, or with any other fields, behind it
abbrev pub printed_line_under : String → String
printed_line_under factors = printed_line then ("\t" then factors)

-- LINE-1, REFUSAL-19: a line with a speed factor of 499
abbrev pub line_under_499 : String
line_under_499 = "F\tG\t75000\t120\t60\t60\tD\t0\t2\t0\t1000\t0\tL\t499\t1000"

-- LINE-6, FORM-10: the number of the refusal of what was read, 0 for none, and its values
abbrev pub told : Result Case Refusal → List ℕ
told r = refusal_number r ∷ case_values r

-- LINE-6: what a line is read as
abbrev pub read_as : String → List ℕ
read_as line = told (read_line (bytes_of line))

-- LINE-7: what an older reader reads a line as
abbrev pub read_before : String → List ℕ
read_before line = told (older_read_line (bytes_of line))

-- LINE-6: what the printed line with another demand and with two factors is read as
abbrev pub printed_values : ℕ → (speed_factor capacity_factor : ℕ) → List ℕ
printed_values demand speed_factor capacity_factor =
    0 ∷ 70 ∷ 69 ∷ 75400 ∷ 110 ∷ 20 ∷ 0 ∷ 68 ∷ 24 ∷ 2 ∷ demand ∷ 920 ∷ 50 ∷ 82
    ∷ speed_factor ∷ capacity_factor ∷ []

-- LINE-2, LINE-3, LINE-4, REFUSAL-15: an empty line, and a line of one field; with no demand, with a leading
-- zero in a demand of two to seven digits, with seven digits; with six digits in each other number; with an
-- unknown terrain, with a leading zero in a factor; with 14 fields, of which the last is empty or not, and
-- with 16
abbrev pub malformed_lines : List String
malformed_lines =
    "" ∷ "F"
    ∷ map (λ demand. printed_line_with demand "R")
    ("" ∷ "00" ∷ "007" ∷ "0100" ∷ "02000" ∷ "099999" ∷ "0999999" ∷ "1000000" ∷ [])
    ++ (
    "F\tE\t100000\t110\t20\t0\tD\t24\t2\t2000\t920\t50\tR"
    ∷ "F\tE\t75400\t100000\t20\t0\tD\t24\t2\t2000\t920\t50\tR"
    ∷ "F\tE\t75400\t110\t100000\t0\tD\t24\t2\t2000\t920\t50\tR"
    ∷ "F\tE\t75400\t110\t20\t100000\tD\t24\t2\t2000\t920\t50\tR"
    ∷ "F\tE\t75400\t110\t20\t0\tD\t100000\t2\t2000\t920\t50\tR"
    ∷ "F\tE\t75400\t110\t20\t0\tD\t24\t100000\t2000\t920\t50\tR"
    ∷ "F\tE\t75400\t110\t20\t0\tD\t24\t2\t2000\t100000\t50\tR"
    ∷ "F\tE\t75400\t110\t20\t0\tD\t24\t2\t2000\t920\t100000\tR"
    ∷ printed_line_under "100000\t1000"
    ∷ printed_line_under "1000\t100000"
    ∷ printed_line_with "2000" "M"
    ∷ printed_line_under "0950\t1000"
    ∷ printed_line_under ""
    ∷ printed_line_under "1000"
    ∷ printed_line_under "1000\t1000\t1000"
    ∷ []
    )

-- LINE-1 to LINE-7, REFUSAL-15, FIGURE-1: the printed line; with the factors of snow, and with a factor of
-- 99999; a line with one of 499 (19 refuses both later); with a demand of six digits, by an older reader too,
-- and by that with five; the lines that are refused; the longest line
unfoldable pub line_facts : List Fact
line_facts =
    fact (read_as printed_line) (printed_values 2000 1000 1000)
    ∷ fact (read_as (printed_line_under "860\t780")) (printed_values 2000 860 780)
    ∷ fact (read_as (printed_line_under "99999\t1000")) (printed_values 2000 99999 1000)
    ∷ fact (read_as line_under_499)
    (0 ∷ 70 ∷ 71 ∷ 75000 ∷ 120 ∷ 60 ∷ 60 ∷ 68 ∷ 0 ∷ 2 ∷ 0 ∷ 1000 ∷ 0 ∷ 76 ∷ 499 ∷ 1000 ∷ [])
    ∷ fact (read_as (printed_line_with "100000" "R")) (printed_values 100000 1000 1000)
    ∷ fact (read_before (printed_line_with "100000" "R")) (15 ∷ [])
    ∷ fact (read_before (printed_line_with "99999" "R")) (printed_values 99999 1000 1000)
    ∷ fact (flat_map read_as malformed_lines) (replicate (length malformed_lines) 15)
    ∷ fact (length (bytes_of longest) ∷ read_as longest)
    (longest_well_formed ∷ 0 ∷ 77 ∷ 71 ∷ 99999 ∷ 99999 ∷ 99999 ∷ 99999 ∷ 84 ∷ 99999 ∷ 99999 ∷ 999999
    ∷ 99999 ∷ 99999 ∷ 76 ∷ 99999 ∷ 99999 ∷ [])
    ∷ []
