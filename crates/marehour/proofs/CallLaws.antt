-- The calls of a host in C (specs/Calls): lent memory that is long enough, and what each call writes.
use Rattle.std.proofs.Common.{◌≡◌, ℕ, ◌+◌, ◌≤◌, ◌<◌, Ok, List, [], ◌∷◌, length, length-set, set, refl, sym, ap, subst, arith, lt-ltb, le-ltb}
use native.Mathlib.Decide.{dec_le}
use Rattle.refusals.specs.Refusals.{first_refusal}
use Rattle.text.specs.Bytes.{newline}
use Rattle.text.specs.Buffer.{written, Wrote}
use Rattle.text.proofs.DigitLaws.{decimal-small}
use Rattle.text.proofs.BufferLaws.{nothing, then-byte}
use Rattle.road.specs.declared.Case.{Case}
use Rattle.answer.specs.declared.evaluate.Grade.{Grade}
use Rattle.answer.specs.Answers.{answer_to}
use Rattle.answer.specs.Lanes.{lanes_answer}
use Rattle.answer.proofs.Laws.{found-digit}
use Rattle.answer.proofs.SearchOrder.{tries-le}
use Rattle.day.specs.Days.{most_demands, lent_refusals}
use Rattle.day.proofs.DayLaws.{day_figures-count}
use Rattle.day.proofs.PromiseLaws.{lent-fits-exactly}
use Rattle.replies.specs.Texts.{answer_text, longest_answer}
use Rattle.replies.proofs.TextsLaws.{answer_text-le}
use Rattle.marehour.specs.Calls.{writes, refusal, count_text, figures_reply, buffer_refusals}

-- ---- an answer buffer
-- a buffer that 17 refuses
pub buffer-short : (least room : ℕ) → room < least → 17 ≡ first_refusal (buffer_refusals least room)
unfolding buffer_refusals
buffer-short least room h = rw (lt-ltb room least h)

-- one that it does not
pub buffer-fits : (least room : ℕ) → least ≤ room → first_refusal (buffer_refusals least room) ≡ 0
unfolding buffer_refusals
buffer-fits least room h = rw (le-ltb room least h)

-- a buffer that was checked and not refused
pub buffer-room : (least room : ℕ) → 0 ≡ first_refusal (buffer_refusals least room) → least ≤ room
buffer-room least room z = go (dec_le least room)
  where
    go : Dec (least ≤ room) → least ≤ room
    go (yes h) = h
    go (no h) = absurd (omega (arith, z, buffer-short least room (omega arith)))

-- ---- an answer in figures
-- an answer in figures: so many, or a refusal
pub record FiguresFit (count last number : ℕ) (values : List ℕ) : Type 0 where
  pub some : number ≡ 0 → length values ≡ count
  pub none : 0 < number → values ≡ []
  pub most : number ≤ last

-- its reply, where there is one figure at least
pub figures-written : (number : ℕ) (values : List ℕ) → 1 ≤ length values → figures_reply number values ≡ writes values
figures-written number [] h = absurd (omega arith)
figures-written number (v ∷ vs) h = refl

-- the reply of a refusal
pub figures-refused : (number : ℕ) (values : List ℕ) → values ≡ [] → figures_reply number values ≡ refusal number
figures-refused number values e = ap (figures_reply number) e

-- ---- what each call writes
-- a grade's text has room in a lent buffer
pub grade-le : (case : Case) (grade : Grade) → Ok grade ≡ answer_to case → length (answer_text (Ok grade)) ≤ longest_answer
grade-le case grade e = subst (λ a. length (answer_text a) ≤ longest_answer) (sym e) (answer_text-le case)

-- a lane count is one digit
pub count-le : (case : Case) (n count : ℕ) → Ok count ≡ lanes_answer case n → count ≤ 9
count-le case n count e = found-digit case n count (sym e)

-- so its text has two bytes
pub count-length : (count : ℕ) → count ≤ 9 → length (count_text (count ∷ [])) ≡ 2
unfolding count_text
count-length count h = rw (decimal-small count (omega arith))

-- which are written so
pub count-written : (count : ℕ) (old : List ℕ) → count ≤ 9 → longest_answer ≤ length old
    → set (set old 0 (48 + count)) 1 newline ≡ written (count_text (count ∷ [])) old
unfolding count_text
count-written count old h room =
    let digit : Wrote ((48 + count) ∷ []) old (set old 0 (48 + count)) 1 = then-byte nothing (48 + count) (omega arith) in
    rw (decimal-small count (omega arith)) (then-byte digit newline (omega arith)).content

-- a day has at most 24 demands
pub day-le : (demands room : ℕ) → 0 ≡ first_refusal (lent_refusals demands room) → demands ≤ most_demands
day-le demands room fits = ((lent-fits-exactly demands room).0 (sym fits)).1

-- for tactics
pub ruleset call_laws = (buffer-room, length-set, count-le, count-length, count-written, day-le, day_figures-count, tries-le)
