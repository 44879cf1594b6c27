-- The shape of the method as a host meets it, stated over lines and lent buffers; proofs/Shape proves it.
use Rattle.std.specs.Prelude.{ℕ, ◌+◌, ◌≤◌, ◌<◌, ◌≡◌, ◌↔◌, Ok, List, ◌∷◌, ◌++◌, pos, neg_ℤ, length, drop, get_or}
use Prim.Native.Char.{code}
use Rattle.text.specs.Bytes.{bytes_of, newline}
use Rattle.text.specs.Decimal.{row_text}
use Rattle.road.specs.declared.Case.{Case}
use Rattle.road.specs.Cases.{with_demand, with_lanes, SameRoad}
use Rattle.road.specs.Refusals.{FieldsFit}
use Rattle.method.specs.Refusals.{Accepted}
use Rattle.answer.specs.Promises.{Meets, AcceptedCount, LanesComparable, hardness}
use Rattle.lines.specs.Reading.{read_line}
use Rattle.lines.specs.Boundary.{printed_line, printed_line_with}
use Rattle.replies.specs.Texts.{letter_byte, longest_answer}
use Rattle.marehour.specs.Calls.{answer_call, lanes_call, call_result, content}

-- SHAPE-4, CALL-1: the buffer after the call for the answer to a line, if it held old
abbrev pub answered : List ℕ → List ℕ → List ℕ
answered line old = content (answer_call line (length old)) old

-- SHAPE-4: the first byte of the buffer after the call for the answer to a line: the letter
abbrev pub letter_written : List ℕ → List ℕ → ℕ
letter_written line old = get_or (answered line old) 0 0

-- SHAPE-4, SHAPE-1: c has no more load than d: no more demand, no greater share, no harder terrain, no lower
-- peak-hour factor and no fewer lanes
abbrev pub NoMoreLoad : Case → Case → Type 0
NoMoreLoad c d =
    (c.demand ≤ d.demand) × (c.heavy_share ≤ d.heavy_share) × (hardness c.terrain ≤ hardness d.terrain)
    × (d.peak_hour_factor ≤ c.peak_hour_factor) × (d.lanes ≤ c.lanes)

-- SHAPE-4, SHAPE-1: two lines of accepted cases, of the same road under one weather, where lanes are
-- comparable: the one with no less load is not answered with the better letter
abbrev pub NoBetterLetterWritten : Type 0
NoBetterLetterWritten =
    (line other old kept : List ℕ) (c d : Case) → longest_answer ≤ length old → longest_answer ≤ length kept
    → read_line line ≡ Ok c → read_line other ≡ Ok d → Accepted c → Accepted d
    → SameRoad c d → c.weather ≡ d.weather → LanesComparable c d → NoMoreLoad c d
    → letter_written line old ≤ letter_written other kept

-- SHAPE-4, VOLUME-1: the call for the answer to a line is not refused, and writes letter number n or a better
-- one
abbrev pub LineMeets : List ℕ → List ℕ → ℕ → Type 0
LineMeets line old n =
    (count : ℕ)
    × ((call_result (answer_call line (length old)) ≡ pos count) × (letter_written line old ≤ letter_byte n))

-- SHAPE-4, SHAPE-2: the answer to a line of an accepted case is a letter and ten numbers, of which the last
-- five say up to which demand a line of that case with another demand meets each letter, A to E
abbrev pub MeetsUpToTheWrittenVolume : Type 0
MeetsUpToTheWrittenVolume =
    (line old : List ℕ) (c : Case) → longest_answer ≤ length old → read_line line ≡ Ok c → Accepted c
    → (numbers : List ℕ)
    × ((length numbers ≡ 10)
    × (let text = row_text (letter_written line old) numbers in
    answered line old ≡ text ++ drop (length text) old)
    × ((other kept : List ℕ) (demand n : ℕ)
    → longest_answer ≤ length kept → read_line other ≡ Ok (with_demand c demand) → 1 ≤ n → n ≤ 5
    → LineMeets other kept n ↔ (demand ≤ get_or numbers (4 + n) 0)))

-- SHAPE-4, SHAPE-3: count is accepted and meets letter number n, and no smaller accepted count does
abbrev pub LeastCount : Case → ℕ → ℕ → Type 0
LeastCount case n count =
    AcceptedCount case count × Meets (with_lanes case count) n
    × ((fewer : ℕ) → AcceptedCount case fewer → fewer < count → Meets (with_lanes case fewer) n → ⊥)

-- SHAPE-4, SHAPE-3: a line whose fields fit, and a letter A to E: the lanes question writes the digit of a
-- count exactly where it is the least accepted count that meets the letter, and is refused with 14 exactly
-- where none does
abbrev pub LanesDigitIsTheLeastCount : Type 0
LanesDigitIsTheLeastCount =
    (line old : List ℕ) (case : Case) (n : ℕ) → longest_answer ≤ length old → read_line line ≡ Ok case
    → 1 ≤ n → n ≤ 5 → FieldsFit case
    → let reply = lanes_call line n (length old) in
    ((count : ℕ)
    → ((call_result reply ≡ pos 2) × (content reply old ≡ (code "0" + count) ∷ newline ∷ drop 2 old))
    ↔ LeastCount case n count)
    × ((call_result reply ≡ neg_ℤ (pos 14))
    ↔ ((count : ℕ) → AcceptedCount case count → Meets (with_lanes case count) n → ⊥))

-- SHAPE-4, SHAPE-2, SHAPE-3: the printed line is answered C, and with demand 2,643 D; it meets C with 2,642
-- and not with 2,643, with which C takes 3 lanes; with 999,999 no lane count meets C
abbrev pub PrintedLineMeetsUpTo2642 : Type 0
PrintedLineMeetsUpTo2642 =
    (old : List ℕ) → longest_answer ≤ length old
    → let more = bytes_of (printed_line_with "2643" "R") in
    (letter_written (bytes_of printed_line) old ≡ code "C") × (letter_written more old ≡ code "D")
    × LineMeets (bytes_of (printed_line_with "2642" "R")) old 3 × (LineMeets more old 3 → ⊥)
    × (content (lanes_call more 3 (length old)) old ≡ code "3" ∷ newline ∷ drop 2 old)
    × (call_result (lanes_call (bytes_of (printed_line_with "999999" "R")) 3 (length old)) ≡ neg_ℤ (pos 14))
