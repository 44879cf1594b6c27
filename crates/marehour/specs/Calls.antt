-- What the calls of a host in C hand back, and what the lent memory then holds.
use Rattle.std.specs.Prelude.{ℕ, ◌/◌, ◌^◌, ◌<◌, Result, Ok, Err, IfOk, List, [], ◌∷◌, ◌++◌, ℤ, pos, neg_ℤ, nat_lt, length}
use Rattle.refusals.specs.declared.Refusal.{Refusal}
use Rattle.refusals.specs.Refusals.{Condition, refuses, first_refusal, unless_refused}
use Rattle.refusals.specs.Numbers.{number, refusal_number}
use Rattle.text.specs.Bytes.{newline}
use Rattle.text.specs.Decimal.{decimal}
use Rattle.text.specs.Buffer.{written}
use Rattle.road.specs.declared.Case.{Case}
use Rattle.answer.specs.declared.evaluate.Grade.{Grade}
use Rattle.answer.specs.Answers as answers
use Rattle.answer.specs.Answers.{answer_to}
use Rattle.answer.specs.Lanes as lanes
use Rattle.answer.specs.Lanes.{lanes_answer}
use Rattle.day.specs.Days.{figure_count, day_figures, lent_refusals}
use Rattle.daily.specs.declared.Shares.{Shares}
use Rattle.daily.specs.Daily as daily
use Rattle.daily.specs.Daily.{daily_answer}
use Rattle.forecast.specs.declared.Forecast.{Forecast}
use Rattle.forecast.specs.Forecasts as forecasts
use Rattle.forecast.specs.Forecasts.{forecast_answer}
use Rattle.survey.specs.Survey as survey
use Rattle.lines.specs.Reading.{read_line}
use Rattle.replies.specs.Texts.{answer_text, longest_answer}

-- CALL-3: what is written from the start of the lent memory on, or a refusal's number
pub data Reply : Type 0 where
  writes : List ℕ → Reply
  refusal : ℕ → Reply

-- CALL-3: the reply of an answer with number n and values vs: its text, or the refusal where it has no values
abbrev pub reply_of : ℕ → List ℕ → List ℕ → Reply
reply_of number [] text = refusal number
reply_of number (v ∷ vs) text = writes text

-- CALL-1: the reply of an answer: its text, or its refusal
abbrev pub answer_reply : Result Grade Refusal → Reply
answer_reply a = reply_of (refusal_number a) (answers.grade_figures a) (answer_text a)

-- CALL-2: the text of a lane count: its digits and a newline
unfoldable pub count_text : List ℕ → List ℕ
count_text [] = []
count_text (count ∷ vs) = decimal count ++ (newline ∷ [])

-- CALL-2: the reply of an answer to the lanes question
abbrev pub count_reply : Result ℕ Refusal → Reply
count_reply a = reply_of (refusal_number a) (lanes.lanes_figures a) (count_text (lanes.lanes_figures a))

-- CALL-1: the reply to a case
abbrev pub case_reply : Case → Reply
case_reply case = answer_reply (answer_to case)

-- CALL-2: the reply to a case for the lanes question and letter number n
abbrev pub lanes_reply : ℕ → Case → Reply
lanes_reply n case = count_reply (lanes_answer case n)

-- CALL-7, DAY-2: the reply to a case for a day of demands: twelve numbers each, whatever refuses the case
abbrev pub day_reply : List ℕ → Case → Reply
day_reply demands case = writes (day_figures case demands)

-- CALL-3, TEXT-5: the reply of an answer with number n and values vs: its values as they are, or the refusal
-- where it has none
abbrev pub figures_reply : ℕ → List ℕ → Reply
figures_reply number values = reply_of number values values

-- CALL-8, DAILY-3: the reply to a case for a daily traffic and its shares
abbrev pub daily_reply : Shares → ℕ → Case → Reply
daily_reply shares traffic case =
    let answer = daily_answer case shares traffic in
    figures_reply (refusal_number answer) (daily.daily_figures answer)

-- CALL-9, FORECAST-3: the reply to a case for a forecast
abbrev pub forecast_reply : Forecast → Case → Reply
forecast_reply forecast case =
    let answer = forecast_answer case forecast in
    figures_reply (refusal_number answer) (forecasts.outcome_figures answer)

-- CALL-4, REFUSAL-15: the reply to a line that was read, by the reply to its case: 15 before 16, 20 and 1
abbrev pub line_reply : (Case → Reply) → Result Case Refusal → Reply
line_reply reply (Ok case) = reply case
line_reply reply (Err r) = refusal (number r)

-- CALL-4: the reply of a call over a line, by the reply to its case: what refuses the lent memory comes first
abbrev pub line_call : (Case → Reply) → List ℕ → List Condition → Reply
line_call reply line lent = unless_refused (first_refusal lent) (line_reply reply (read_line line)) refusal

-- REFUSAL-17: what is asked of lent memory of room bytes or numbers that must have so many at least: 17
-- alone
unfoldable pub buffer_refusals : ℕ → ℕ → List Condition
buffer_refusals least room = refuses 17 (nat_lt room least) ∷ []

-- CALL-1, REFUSAL-17: the reply of the call for the answer to a line, with room for so many bytes
abbrev pub answer_call : List ℕ → ℕ → Reply
answer_call line room = line_call case_reply line (buffer_refusals longest_answer room)

-- CALL-2, REFUSAL-17: the reply of the call for the lanes question over a line with letter number n, with
-- room for so many bytes
abbrev pub lanes_call : List ℕ → ℕ → ℕ → Reply
lanes_call line n room = line_call (lanes_reply n) line (buffer_refusals longest_answer room)

-- CALL-7, REFUSAL-18: the reply of the call for a day of demands over a line, with room for so many numbers
abbrev pub day_call : List ℕ → List ℕ → ℕ → Reply
day_call line demands room = line_call (day_reply demands) line (lent_refusals (length demands) room)

-- CALL-8, DAILY-6, REFUSAL-17: the reply of the call for a daily traffic and its shares over a line, with
-- room for so many numbers
abbrev pub daily_call : List ℕ → Shares → ℕ → ℕ → Reply
daily_call line shares traffic room =
    line_call (daily_reply shares traffic) line (buffer_refusals daily.figure_count room)

-- CALL-9, FORECAST-4, REFUSAL-17: the reply of the call for a forecast over a line, with room for so many
-- numbers
abbrev pub forecast_call : List ℕ → Forecast → ℕ → Reply
forecast_call line forecast room =
    line_call (forecast_reply forecast) line (buffer_refusals forecasts.figure_count room)

-- CALL-3: what a call hands back: a count or a speed that was found, or minus a refusal's number
abbrev pub handed_back : Result ℕ Refusal → ℤ
handed_back (Ok n) = pos n
handed_back (Err r) = neg_ℤ (pos (number r))

-- CALL-3, SAFE-1: what was found fits the number that is handed back
abbrev pub CanBeHandedBack : Result ℕ Refusal → Type 0
CanBeHandedBack found = IfOk found (λ n. n < 2 ^ 31)

-- CALL-3: what a call hands back with a reply, by how it counts what is written
abbrev pub counted : (List ℕ → ℕ) → Reply → ℤ
counted count (writes ns) = pos (count ns)
counted count (refusal number) = neg_ℤ (pos number)

-- CALL-3: what a call hands back with a reply: the count of bytes, newline included, or of numbers; or minus
-- the refusal's number
abbrev pub call_result : Reply → ℤ
call_result = counted length

-- CALL-7, DAY-2: how many answers so many numbers are
abbrev pub answer_count : List ℕ → ℕ
answer_count ns = length ns / figure_count

-- CALL-7: what the call for a day hands back with a reply: the count of answers, or minus the refusal's
-- number
abbrev pub day_result : Reply → ℤ
day_result = counted answer_count

-- CALL-5, TEXT-5: what the lent memory holds afterwards, if it held old
abbrev pub content : Reply → List ℕ → List ℕ
content (writes ns) old = written ns old
content (refusal number) old = old

-- CALL-3: the value of an answer with number n and values vs, or minus the number
abbrev pub result_of : ℕ → List ℕ → ℤ
result_of number [] = neg_ℤ (pos number)
result_of number (v ∷ vs) = pos v

-- CALL-6: what a survey call hands back: the speed, or minus the refusal's number
abbrev pub survey_result : Result ℕ Refusal → ℤ
survey_result a = result_of (refusal_number a) (survey.survey_figures a)
