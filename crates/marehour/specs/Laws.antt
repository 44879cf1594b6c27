-- Laws of the calls, stated; proofs/Laws proves them.
use Rattle.std.specs.Prelude.{ℕ, ◌*◌, ◌≤◌, ◌<◌, ◌≡◌, Ok, Err, List, [], ◌++◌, pos, neg_ℤ, length, drop, get_or}
use Rattle.text.specs.Bytes.{bytes_of}
use Rattle.road.specs.declared.Case.{Case}
use Rattle.road.specs.Cases.{with_demand}
use Rattle.answer.specs.Answers.{answer_to}
use Rattle.answer.specs.Lanes.{lanes_answer, lanes_figures}
use Rattle.day.specs.Days.{most_demands, figure_count, answer_figures, LentFits, day_answer, day_content, count_figures}
use Rattle.day.specs.Promises.{position}
use Rattle.daily.specs.declared.Shares.{Shares}
use Rattle.daily.specs.Daily as daily
use Rattle.daily.specs.Daily.{daily_answer}
use Rattle.daily.specs.Instances.{urban}
use Rattle.forecast.specs.declared.Forecast.{Forecast}
use Rattle.forecast.specs.Forecasts as forecasts
use Rattle.forecast.specs.Forecasts.{forecast_of, forecast_answer}
use Rattle.refusals.specs.declared.Refusal.{Refusal}
use Rattle.refusals.specs.Numbers.{refusal_number}
use Rattle.lines.specs.Reading.{read_line}
use Rattle.lines.specs.Boundary.{line_under_499}
use Rattle.replies.specs.Texts.{answer_text, longest_answer}
use Rattle.marehour.specs.Calls.{Reply, writes, refusal, answer_reply, count_text, answer_call, lanes_call, day_call}
use Rattle.marehour.specs.Calls.{daily_call, forecast_call, call_result, day_result, content, result_of}

-- CALL-3: the greatest number that refuses a call over a line, those with a daily traffic or a forecast
-- aside
abbrev pub last_refusal : ℕ
last_refusal = 19

-- CALL-3, CALL-8: the greatest number that refuses a call with a daily traffic
abbrev pub last_daily_refusal : ℕ
last_daily_refusal = 21

-- CALL-3, CALL-9: the greatest number that refuses a call with a forecast
abbrev pub last_forecast_refusal : ℕ
last_forecast_refusal = 22

-- CALL-3: so many bytes or numbers at least and at most; or a refusal from 1 to the greatest
abbrev pub WithinEnds : (least most last : ℕ) → Reply → Type 0
WithinEnds least most last (writes ns) = (least ≤ length ns) × (length ns ≤ most)
WithinEnds least most last (refusal n) = (1 ≤ n) × (n ≤ last)

-- CALL-3, TEXT-4: every call over a line that writes replies with 1 to 64 bytes, 1 to 24 answers of twelve
-- numbers, or sixteen or eight numbers, or with a refusal up to the last; 0 is never handed back
abbrev pub RepliesWithinEnds : Type 0
RepliesWithinEnds =
    (line : List ℕ) (letter room : ℕ) (demands : List ℕ) (shares : Shares) (traffic : ℕ) (forecast : Forecast)
    → WithinEnds 1 longest_answer last_refusal (answer_call line room)
    × WithinEnds 1 longest_answer last_refusal (lanes_call line letter room)
    × WithinEnds figure_count (most_demands * figure_count) last_refusal (day_call line demands room)
    × WithinEnds daily.figure_count daily.figure_count last_daily_refusal
    (daily_call line shares traffic room)
    × WithinEnds forecasts.figure_count forecasts.figure_count last_forecast_refusal
    (forecast_call line forecast room)

-- REFUSAL-17: a buffer of 63 bytes gets 17, and so do 15 numbers for daily figures and 7 for a forecast,
-- whatever the line
abbrev pub BufferTooShort : Type 0
BufferTooShort =
    (line : List ℕ) (letter : ℕ) (shares : Shares) (traffic : ℕ) (forecast : Forecast)
    → (answer_call line 63 ≡ refusal 17) × (lanes_call line letter 63 ≡ refusal 17)
    × (daily_call line shares traffic 15 ≡ refusal 17) × (forecast_call line forecast 7 ≡ refusal 17)

-- REFUSAL-18: no demand gets 18, whatever the line and the room
abbrev pub NoDemandIsRefused : Type 0
NoDemandIsRefused = (line : List ℕ) (room : ℕ) → day_call line [] room ≡ refusal 18

-- CALL-3, REFUSAL-19, REFUSAL-21, REFUSAL-22: a line with a speed factor of 499 gets 19, asked for its answer
-- and for its lanes, 21 with a daily traffic of 4,000,000,001, and 22 with a forecast whose demand is from 1
-- to 0
abbrev pub LastRefusalIsReached : Type 0
LastRefusalIsReached =
    let line = bytes_of line_under_499 in
    (answer_call line 64 ≡ refusal last_refusal) × (lanes_call line 1 64 ≡ refusal last_refusal)
    × (daily_call line urban 4000000001 16 ≡ refusal last_daily_refusal)
    × (forecast_call line (forecast_of 1 0 0 0 1000 1000) 8 ≡ refusal last_forecast_refusal)

-- CALL-7, CALL-4, CALL-5: minus 18 where the lent memory does not fit; else minus 15 where the line is
-- malformed, and what was lent stays; else the count of the demands
abbrev pub DayHandsBack : Type 0
DayHandsBack =
    (line demands old : List ℕ)
    → let fit = LentFits (length demands) (length old) in
    let reply = day_call line demands (length old) in
    ((fit → ⊥) → (day_result reply ≡ neg_ℤ (pos 18)) × (content reply old ≡ old))
    × (fit → (r : Refusal) → read_line line ≡ Err r
    → (day_result reply ≡ neg_ℤ (pos 15)) × (content reply old ≡ old))
    × (fit → (case : Case) → read_line line ≡ Ok case → day_result reply ≡ pos (length demands))

-- CALL-7, DAY-1: a line that is read: the call's result and the lent numbers afterwards are those of the day
-- of its case
abbrev pub DayCallIsTheDay : Type 0
DayCallIsTheDay =
    (line : List ℕ) (case : Case) → read_line line ≡ Ok case → (demands old : List ℕ)
    → let answer = day_answer (length demands) (length old) in
    (day_result (day_call line demands (length old))
    ≡ result_of (refusal_number answer) (count_figures answer))
    × (content (day_call line demands (length old)) old ≡ day_content case demands old)

-- DAY-1, CALL-7: position i and the reply to a line with demand i are those of one answer
abbrev pub PositionIsTheLinesAnswer : Type 0
PositionIsTheLinesAnswer =
    (line : List ℕ) (case : Case) (demands old : List ℕ) (i : ℕ)
    → read_line line ≡ Ok case → LentFits (length demands) (length old) → i < length demands
    → let asked = with_demand case (get_or demands i 0) in
    (position i (content (day_call line demands (length old)) old) ≡ answer_figures (answer_to asked))
    × ((other : List ℕ) (room : ℕ) → read_line other ≡ Ok asked → longest_answer ≤ room
    → answer_call other room ≡ answer_reply (answer_to asked))

-- CALL-3, CALL-5: minus n is handed back, and nothing is written
abbrev pub RefusedWith : ℕ → Reply → List ℕ → Type 0
RefusedWith n reply old = (call_result reply ≡ neg_ℤ (pos n)) × (content reply old ≡ old)

-- CALL-3, CALL-4, CALL-5: what a call over a line hands back: minus 17 where less is lent than so much; else
-- minus 15 where the line is malformed; else minus the number that refuses its case; else the count of the
-- text, which stands from the start on, before what stood there
abbrev pub HandsBack : (least : ℕ) (number : Case → ℕ) (text : Case → List ℕ) (count : Case → ℕ)
    (call : List ℕ → ℕ → Reply) → Type 0
HandsBack least number text count call =
    (line old : List ℕ)
    → let reply = call line (length old) in
    (length old < least → RefusedWith 17 reply old)
    × (least ≤ length old → (r : Refusal) → read_line line ≡ Err r → RefusedWith 15 reply old)
    × (least ≤ length old → (case : Case) → read_line line ≡ Ok case
    → ((n : ℕ) → number case ≡ n → 0 < n → RefusedWith n reply old)
    × (number case ≡ 0
    → (call_result reply ≡ pos (count case)) × (content reply old ≡ text case ++ drop (count case) old)))

-- CALL-1: the call for the answer hands back what HandsBack says, with at least 64 bytes lent and the text
-- of the answer
abbrev pub AnswerHandsBack : Type 0
AnswerHandsBack =
    HandsBack longest_answer (λ case. refusal_number (answer_to case)) (λ case. answer_text (answer_to case))
    (λ case. length (answer_text (answer_to case))) answer_call

-- CALL-2: the call for the lanes question hands back what HandsBack says, with at least 64 bytes lent and
-- the two bytes of the count
abbrev pub LanesHandBack : Type 0
LanesHandBack =
    (letter : ℕ)
    → HandsBack longest_answer (λ case. refusal_number (lanes_answer case letter))
    (λ case. count_text (lanes_figures (lanes_answer case letter))) (λ case. 2)
    (λ line room. lanes_call line letter room)

-- CALL-8: the call with a daily traffic hands back what HandsBack says, with at least sixteen numbers lent
-- and the daily answer
abbrev pub DailyHandsBack : Type 0
DailyHandsBack =
    (shares : Shares) (traffic : ℕ)
    → HandsBack daily.figure_count (λ case. refusal_number (daily_answer case shares traffic))
    (λ case. daily.daily_figures (daily_answer case shares traffic)) (λ case. daily.figure_count)
    (λ line room. daily_call line shares traffic room)

-- CALL-9: the call with a forecast hands back what HandsBack says, with at least eight numbers lent and the
-- forecast's answer
abbrev pub ForecastHandsBack : Type 0
ForecastHandsBack =
    (forecast : Forecast)
    → HandsBack forecasts.figure_count (λ case. refusal_number (forecast_answer case forecast))
    (λ case. forecasts.outcome_figures (forecast_answer case forecast)) (λ case. forecasts.figure_count)
    (λ line room. forecast_call line forecast room)

-- REFUSAL-16, LANES-3: a letter number outside 1 to 5 is refused with 16, whatever the line's case
abbrev pub LetterOutsideIsRefused : Type 0
LetterOutsideIsRefused =
    (line old : List ℕ) (case : Case) (letter : ℕ) → longest_answer ≤ length old → read_line line ≡ Ok case
    → ((1 ≤ letter) × (letter ≤ 5) → ⊥) → RefusedWith 16 (lanes_call line letter (length old)) old
