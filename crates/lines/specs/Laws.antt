-- Laws of lines, stated; proofs/Laws proves them.
use Rattle.std.specs.Prelude.{ℕ, ◌≤◌, ◌<◌, ◌≡◌, Some, Result, Ok, Err, IsOk, List, [], ◌++◌, length, get_or, set}
use Prim.Native.String.{String}
use Rattle.text.specs.Bytes.{bytes_of, tab}
use Rattle.text.specs.Parts.{parts}
use Rattle.text.specs.Decimal.{decimal}
use Rattle.road.specs.declared.Case.{Case}
use Rattle.road.specs.Cases.{with_demand}
use Rattle.road.specs.Refusals.{greatest_demand}
use Rattle.refusals.specs.declared.Refusal.{Refusal}
use Rattle.refusals.specs.Numbers.{number, refusal_number}
use Rattle.lines.specs.Fields.{Field, digits, layout, completed, values_of}
use Rattle.lines.specs.Reading.{read_values, read_by, read_line, case_values}

-- LINE-5: a line is read by its fields: none of more than 80 bytes has well-formed ones
abbrev pub LengthNeverDecidesAlone : Type 0
LengthNeverDecidesAlone =
    (bs : List ℕ) → read_line bs ≡ read_values (values_of layout (completed (parts tab bs)))

-- LINE-5: the most bytes of a line that is read: four letters, ten numbers of five digits and one of six, and
-- fourteen tabs
abbrev pub longest_well_formed : ℕ
longest_well_formed = 74

-- LINE-5: no line that is read has more than 74 bytes
abbrev pub WellFormedLinesAreShort : Type 0
WellFormedLinesAreShort =
    (bs : List ℕ) (case : Case) → read_line bs ≡ Ok case → length bs ≤ longest_well_formed

-- LINE-5: a line with every field as long as it may be
abbrev pub longest : String
longest = "M\tG\t99999\t99999\t99999\t99999\tT\t99999\t99999\t999999\t99999\t99999\tL\t99999\t99999"

-- LINE-5: the longest line has 74 bytes and is read, so that no smaller number is the most
abbrev pub LongestIsRead : Type 0
LongestIsRead = (length (bytes_of longest) ≡ longest_well_formed) × IsOk (read_line (bytes_of longest))

-- LINE-4: a line of 13 fields reads as the same line with 1000 and 1000
abbrev pub ClearWeatherMayBeLeftOut : Type 0
ClearWeatherMayBeLeftOut =
    (bs : List ℕ) → length (parts tab bs) ≡ 13 → read_line (bs ++ bytes_of "\t1000\t1000") ≡ read_line bs

-- LINE-4, REFUSAL-15: fewer than 13 fields, 14, or more than 15 are malformed
abbrev pub OtherCountsAreMalformed : Type 0
OtherCountsAreMalformed =
    (bs : List ℕ) → (length (parts tab bs) ≡ 13 → ⊥) → (length (parts tab bs) ≡ 15 → ⊥)
    → read_line bs ≡ Err Refusal.LineMalformed

-- LINE-6, LINE-1: the values of a line that is read are those of its fields, in their order
abbrev pub ValuesAreTheFields : Type 0
ValuesAreTheFields =
    (bs vs : List ℕ) → values_of layout (completed (parts tab bs)) ≡ Some vs → case_values (read_line bs) ≡ vs

-- FORM-10, ORDER-1: the number of a refused line is that of its refusal, and it has no values
abbrev pub RefusalHasItsNumber : Type 0
RefusalHasItsNumber =
    (r : Refusal) → (refusal_number {A = Case} (Err r) ≡ number r) × (case_values (Err r) ≡ [])

-- LINE-2, REFUSAL-7: no line can hold a demand that 7 refuses
abbrev pub DemandOnALine : Type 0
DemandOnALine = (bs : List ℕ) (case : Case) → read_line bs ≡ Ok case → case.demand ≤ greatest_demand

-- LINE-6: a line that is read, with the digits of a demand in the place of its tenth field, reads as its case
-- with that demand
abbrev pub TenthFieldIsTheDemand : Type 0
TenthFieldIsTheDemand =
    (bs other : List ℕ) (case : Case) (demand : ℕ) → read_line bs ≡ Ok case → demand ≤ greatest_demand
    → parts tab other ≡ set (parts tab bs) 9 (decimal demand) → read_line other ≡ Ok (with_demand case demand)

-- LINE-7: the fields of an older reader, the demand with at most five digits as every number
abbrev pub older_layout : List Field
older_layout = set layout 9 (digits 5)

-- LINE-7: what an older reader reads a line as
abbrev pub older_read_line : List ℕ → Result Case Refusal
older_read_line bs = read_by older_layout bs

-- LINE-7: the bytes of the tenth field of a line, the demand
abbrev pub demand_field : List ℕ → List ℕ
demand_field bs = get_or (parts tab bs) 9 []

-- LINE-7: with at most five bytes in the tenth field a line reads as by an older reader
abbrev pub FiveDigitsReadAsBefore : Type 0
FiveDigitsReadAsBefore = (bs : List ℕ) → length (demand_field bs) ≤ 5 → read_line bs ≡ older_read_line bs

-- LINE-7, REFUSAL-15: with more than five bytes in the tenth field an older reader refuses a line with 15
abbrev pub OlderReaderRefusesMore : Type 0
OlderReaderRefusesMore =
    (bs : List ℕ) → 5 < length (demand_field bs) → older_read_line bs ≡ Err Refusal.LineMalformed
