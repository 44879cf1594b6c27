-- The laws of specs/Laws, proved.
use Rattle.std.proofs.Common.{◌≡◌, ℕ, ℤ, ◌*◌, ◌≤◌, ◌<◌, Result, Ok, Err, lit<, lit≤, List, length, pos, refl, sym, ap, subst, ◌∙◌, ⊎_elim, arith}
use Rattle.std.proofs.Common.{eq-zero-or-pos}
use Rattle.std.proofs.lemmas.Bool.Decides.{nat_tests}
use Rattle.refusals.specs.Refusals.{Condition, first_refusal}
use Rattle.refusals.proofs.RefusalLaws.{unless_refused-none, unless_refused-some, unless_refused-by, first_refusal-le, first_refusal-ge}
use Rattle.refusals.specs.declared.Refusal.{Refusal}
use Rattle.refusals.specs.Numbers as refusals
use Rattle.refusals.specs.Numbers.{in_order, refusal_of, refusal_number}
use Rattle.refusals.proofs.NumberLaws.{number-above, number-refusal_of, ok_unless-by, ok_unless-none, ok_unless-err}
use Rattle.std.proofs.Math.Nat.{le_trans}
use Rattle.text.specs.Bytes.{bytes_of}
use Rattle.text.specs.Buffer.{written}
use Rattle.road.specs.declared.Case.{Case}
use Rattle.road.specs.Refusals.{weather_unfit, road_refusals, load_refusals, field_refusals}
use Rattle.method.specs.Refusals.{refusals, refusal}
use Rattle.method.proofs.RefusalLaws.{refusal-le}
use Rattle.answer.specs.declared.evaluate.Grade.{Grade}
use Rattle.answer.specs.Answers.{graded, answer_to}
use Rattle.answer.specs.Boundary.{refused_by19}
use Rattle.answer.specs.Lanes.{lanes_found, lanes_refusals, lanes_answer, lanes_figures}
use Rattle.answer.proofs.AnswerLaws.{answer_to-accepted}
use Rattle.answer.proofs.Laws.{refusals-within-ends, counts-are-digits, found-digit, lanes_answer-number}
use Rattle.day.specs.Days.{most_demands, figure_count, lent_unfit, lent_refusals, LentFits, count_figures as day_values}
use Rattle.day.specs.Promises.{position}
use Rattle.day.proofs.DayLaws.{day_figures-length, day_figures-count, day-refused, day-answered}
use Rattle.day.proofs.PromiseLaws.{position-holds-the-answer, lent-fits-exactly}
use Rattle.daily.specs.declared.Shares.{Shares}
use Rattle.daily.specs.Daily as daily
use Rattle.daily.specs.Daily.{shares_unfit, traffic_refusals, daily_answer}
use Rattle.daily.proofs.DailyLaws as daily-laws
use Rattle.daily.proofs.PromiseLaws.{figures-of-the-hour}
use Rattle.forecast.specs.declared.Forecast.{Forecast}
use Rattle.forecast.specs.Forecasts as forecasts
use Rattle.forecast.specs.Forecasts.{range_refusals, forecast_refusals, forecast_answer}
use Rattle.forecast.proofs.ForecastLaws as forecast-laws
use Rattle.forecast.proofs.ForecastLaws.{refused-values}
use Rattle.forecast.proofs.PromiseLaws.{shown}
use Rattle.lines.specs.Reading.{read_line}
use Rattle.lines.specs.Boundary.{line_under_499, line_facts}
use Rattle.lines.proofs.Boundary.{lines-shown, read-told}
use Rattle.lines.proofs.ReadingLaws.{read_line-by, read_line-refused}
use Rattle.replies.specs.Texts.{answer_text, longest_answer}
use Rattle.replies.proofs.TextsLaws.{answer_text-le, answer_text-pos}
use Rattle.marehour.specs.Calls.{Reply, writes, refusal as refusal_reply, count_text, answer_reply, count_reply, case_reply, lanes_reply, day_reply, line_reply}
use Rattle.marehour.specs.Calls.{figures_reply, daily_reply, forecast_reply, line_call, buffer_refusals, lanes_call, day_call, call_result, day_result}
use Rattle.marehour.specs.Calls.{content, result_of}
use Rattle.marehour.specs.Laws.{last_refusal, last_daily_refusal, last_forecast_refusal, WithinEnds, RepliesWithinEnds, BufferTooShort}
use Rattle.marehour.specs.Laws.{NoDemandIsRefused, LastRefusalIsReached, RefusedWith, HandsBack, AnswerHandsBack, LanesHandBack}
use Rattle.marehour.specs.Laws.{DailyHandsBack, ForecastHandsBack, LetterOutsideIsRefused}
use Rattle.marehour.specs.Laws.{DayHandsBack, DayCallIsTheDay, PositionIsTheLinesAnswer}
use Rattle.marehour.proofs.CallLaws.{FiguresFit, figures-written, figures-refused, count-length, buffer-short, buffer-fits}

-- the refusal of a number that a list has
refused-ends : (n last : ℕ) → 0 < n → n ≤ last → last ≤ 22 → (1 ≤ refusals.number (refusal_of n)) × (refusals.number (refusal_of n) ≤ last)
refused-ends n last p h k = let e = number-refusal_of n p (le_trans h k) in (omega (arith, e, p), omega (arith, e, h))

answer-ends : (case : Case) → WithinEnds 1 longest_answer last_refusal (case_reply case)
answer-ends case =
    ok_unless-by (refusal case) (graded case) (λ a. WithinEnds 1 longest_answer last_refusal (answer_reply a))
    (λ z. (answer_text-pos (Ok (graded case)), rw (answer_to-accepted case z) at (answer_text-le case)))
    (λ p. refused-ends (refusal case) last_refusal p (refusal-le case) (lit≤ tt))

count-ends : (letter : ℕ) (case : Case) → WithinEnds 1 longest_answer last_refusal (lanes_reply letter case)
count-ends letter case =
    let number : ℕ = first_refusal (lanes_refusals case letter) in
    let most : number ≤ last_refusal = omega (arith, (refusals-within-ends case letter).1, lanes_answer-number case letter) in
    ok_unless-by number (lanes_found case letter) (λ a. WithinEnds 1 longest_answer last_refusal (count_reply a))
    (λ z. let long = count-length _ (counts-are-digits case letter _ (ap lanes_figures (ok_unless-none number (lanes_found case letter) z))) in
    (omega arith, omega arith))
    (λ p. refused-ends number last_refusal p most (lit≤ tt))

day-ends : (demands : List ℕ) (room : ℕ) → LentFits (length demands) room → (case : Case)
    → WithinEnds figure_count (most_demands * figure_count) last_refusal (day_reply demands case)
day-ends demands room z case =
    let fits = (lent-fits-exactly (length demands) room).0 z in
    (omega (arith, day_figures-length case demands, fits.0), omega (arith, day_figures-length case demands, fits.1))

-- an answer in figures, of which there is one at least
figures-ends : (count last : ℕ) → 1 ≤ count → (number : ℕ) (values : List ℕ) → FiguresFit count last number values
    → WithinEnds count count last (figures_reply number values)
figures-ends count last h number values fit =
    let ends : Reply → Type 0 = WithinEnds count count last in
    ⊎_elim
    (λ z. let long = fit.some z in subst ends (sym (figures-written number values (omega arith))) (omega arith, omega arith))
    (λ p. subst ends (sym (figures-refused number values (fit.none p))) (p, fit.most)) (eq-zero-or-pos number)

daily-fit : (shares : Shares) (traffic : ℕ) (case : Case)
    → let answer = daily_answer case shares traffic in
    FiguresFit daily.figure_count last_daily_refusal (refusal_number answer) (daily.daily_figures answer)
daily-fit shares traffic case =
    record {
      some = λ z. (figures-of-the-hour case shares traffic z).1;
      none = daily-laws.refused-values (daily_answer case shares traffic);
      most = daily-laws.number-le case shares traffic;
    }

forecast-fit : (forecast : Forecast) (case : Case)
    → let answer = forecast_answer case forecast in
    FiguresFit forecasts.figure_count last_forecast_refusal (refusal_number answer) (forecasts.outcome_figures answer)
forecast-fit forecast case =
    record {
      some = λ z. ap length (shown case forecast z);
      none = refused-values (forecast_answer case forecast);
      most = forecast-laws.number-le case forecast;
    }

-- lent memory that is refused, a line that is refused with 15, or a case
of-line : (least most last : ℕ) (reply : Case → Reply) (lent : List Condition) → 15 ≤ last → first_refusal lent ≤ last
    → (first_refusal lent ≡ 0 → (case : Case) → WithinEnds least most last (reply case)) → (line : List ℕ)
    → WithinEnds least most last (line_call reply line lent)
of-line least most last reply lent k h ends line =
    unless_refused-by (first_refusal lent) (line_reply reply (read_line line)) refusal_reply (WithinEnds least most last)
    (λ z. read_line-by (λ r. WithinEnds least most last (line_reply reply r)) (ends z) (omega arith, k) line) (λ p. (p, h))

pub replies-within-ends : RepliesWithinEnds
unfolding buffer_refusals lent_refusals
replies-within-ends line letter room demands shares traffic forecast =
    let buffer = buffer_refusals longest_answer room in
    let sixteen = buffer_refusals daily.figure_count room in
    let eight = buffer_refusals forecasts.figure_count room in
    let lent = lent_refusals (length demands) room in (
      of-line 1 longest_answer last_refusal case_reply buffer (omega arith) (first_refusal-le last_refusal buffer tt) (λ z. answer-ends) line,
      of-line 1 longest_answer last_refusal (lanes_reply letter) buffer (omega arith) (first_refusal-le last_refusal buffer tt)
          (λ z. count-ends letter) line,
      of-line figure_count (most_demands * figure_count) last_refusal (day_reply demands) lent (omega arith)
          (first_refusal-le last_refusal lent tt) (day-ends demands room) line,
      of-line daily.figure_count daily.figure_count last_daily_refusal (daily_reply shares traffic) sixteen (omega arith)
          (first_refusal-le last_daily_refusal sixteen tt)
          (λ z case. figures-ends daily.figure_count last_daily_refusal (omega arith) _ _ (daily-fit shares traffic case)) line,
      of-line forecasts.figure_count forecasts.figure_count last_forecast_refusal (forecast_reply forecast) eight (omega arith)
          (first_refusal-le last_forecast_refusal eight tt)
          (λ z case. figures-ends forecasts.figure_count last_forecast_refusal (omega arith) _ _ (forecast-fit forecast case)) line,
    )

pub buffer-too-short : BufferTooShort
unfolding buffer_refusals
buffer-too-short line letter shares traffic forecast = (refl, refl, refl, refl)

pub no-demand-is-refused : NoDemandIsRefused
unfolding lent_unfit lent_refusals
no-demand-is-refused line room = refl

-- the line whose speed factor is 499 is the case that 19 refuses
line-under-499 : read_line (bytes_of line_under_499) ≡ Ok refused_by19
unfolding line_facts
line-under-499 = read-told _ refused_by19 lines-shown.1.1.1.0

pub last-refusal-is-reached : LastRefusalIsReached
unfolding in_order refusal_of weather_unfit road_refusals load_refusals field_refusals refusals lanes_refusals buffer_refusals
    shares_unfit traffic_refusals range_refusals forecast_refusals
last-refusal-is-reached = (rw line-under-499, rw line-under-499, rw line-under-499, rw line-under-499)

-- ---- a day
-- lent memory that fits: the line decides
day-read : (line demands : List ℕ) (room : ℕ) → LentFits (length demands) room
    → day_call line demands room ≡ line_reply (day_reply demands) (read_line line)
day-read line demands room z = unless_refused-none _ (line_reply (day_reply demands) (read_line line)) refusal_reply z

lent-number : (n room : ℕ) → 0 < first_refusal (lent_refusals n room) → first_refusal (lent_refusals n room) ≡ 18
unfolding lent_refusals
lent-number n room p =
    omega (arith, first_refusal-le 18 (lent_refusals n room) tt, first_refusal-ge 18 (lent_refusals n room) tt p)

-- lent memory that does not
day-unfit : (line demands : List ℕ) (room : ℕ) → 0 < first_refusal (lent_refusals (length demands) room)
    → day_call line demands room ≡ refusal_reply 18
day-unfit line demands room p =
    unless_refused-some _ (line_reply (day_reply demands) (read_line line)) refusal_reply p
    ∙ ap refusal_reply (lent-number (length demands) room p)

day-case : (line demands : List ℕ) (room : ℕ) (case : Case) → LentFits (length demands) room → read_line line ≡ Ok case
    → day_call line demands room ≡ day_reply demands case
day-case line demands room case z e = day-read line demands room z ∙ ap (line_reply (day_reply demands)) e

pub day-hands-back : DayHandsBack
day-hands-back line demands old =
    let both : (reply : Reply) (n : ℕ) → reply ≡ refusal_reply n
    → (day_result reply ≡ day_result (refusal_reply n)) × (content reply old ≡ content (refusal_reply n) old) =
    λ reply n e. (ap day_result e, ap (λ r. content r old) e) in (
      λ unfit. ⊎_elim
          (λ z. absurd (unfit z))
          (λ p. both (day_call line demands (length old)) 18 (day-unfit line demands (length old) p))
          (eq-zero-or-pos _),
      λ z r e. both (day_call line demands (length old)) 15
          (day-read line demands (length old) z ∙ ap (line_reply (day_reply demands)) (read_line-refused line r e)),
      λ z case e. ap day_result (day-case line demands (length old) case z e) ∙ ap pos (day_figures-count case demands),
    )

pub day-call-is-the-day : DayCallIsTheDay
day-call-is-the-day line case e demands old =
    let told : Result ℕ Refusal → ℤ = λ a. result_of (refusal_number a) (day_values a) in
    ⊎_elim
    (λ z. (
      ap day_result (day-case line demands (length old) case z e) ∙ ap pos (day_figures-count case demands)
          ∙ ap told (sym (ok_unless-none _ (length demands) z)),
      ap (λ r. content r old) (day-case line demands (length old) case z e) ∙ day-answered case demands old z,
    ))
    (λ p.
    let own = lent-number (length demands) (length old) p in (
      ap day_result (day-unfit line demands (length old) p)
          ∙ ap told (ok_unless-err Refusal.DayUnfit _ (length demands) (sym own)),
      ap (λ r. content r old) (day-unfit line demands (length old) p) ∙ day-refused case demands old p,
    ))
    (eq-zero-or-pos (first_refusal (lent_refusals (length demands) (length old))))

pub position-is-the-lines-answer : PositionIsTheLinesAnswer
position-is-the-lines-answer line case demands old i e z h = (
  ap (position i) (day-call-is-the-day line case e demands old).1 ∙ position-holds-the-answer case demands old z i h,
  λ other room k long.
      unless_refused-none _ (line_reply case_reply (read_line other)) refusal_reply (buffer-fits longest_answer room long)
      ∙ ap (line_reply case_reply) k,
)

-- ---- what a call over a line hands back
-- the reply to a case: its text, of so many bytes or numbers, where its number is 0; else the refusal
abbrev RepliesBy : (number : Case → ℕ) (text : Case → List ℕ) (count : Case → ℕ) (reply : Case → Reply) → Type 0
RepliesBy number text count reply =
    (case : Case)
    → (number case ≡ 0 → (reply case ≡ writes (text case)) × (length (text case) ≡ count case))
    × (0 < number case → reply case ≡ refusal_reply (number case))

module _ (least : ℕ) (number : Case → ℕ) (text : Case → List ℕ) (count : Case → ℕ) (reply : Case → Reply)
    (by : RepliesBy number text count reply) where
  abbrev call : List ℕ → ℕ → Reply
  call line room = line_call reply line (buffer_refusals least room)

  hand-back : HandsBack least number text count call
  unfolding written
  hand-back line old = (
    λ short.
        let own = buffer-short least (length old) short in
        back (unless_refused-some _ on_line refusal_reply (omega (arith, own)) ∙ ap refusal_reply (sym own)),
    λ room r e. back (read room ∙ ap (line_reply reply) (read_line-refused line r e)),
    λ room case e. (
      λ n k p. back (read room ∙ ap (line_reply reply) e ∙ (by case).1 (omega (arith, k)) ∙ ap refusal_reply k),
      λ z.
          let wrote = read room ∙ ap (line_reply reply) e ∙ ((by case).0 z).0 in
          let long = ((by case).0 z).1 in
          (ap call_result wrote ∙ ap pos long, ap (λ r. content r old) wrote ∙ rw long),
    ),
  )
    where
      on_line : Reply
      on_line = line_reply reply (read_line line)

      read : least ≤ length old → call line (length old) ≡ on_line
      read room = unless_refused-none _ on_line refusal_reply (buffer-fits least (length old) room)

      back : {n : ℕ} → call line (length old) ≡ refusal_reply n → RefusedWith n (call line (length old)) old
      back e = (ap call_result e, ap (λ r. content r old) e)

-- an answer with a grade is its text, and one with a count its two bytes
answer-reply : (a : Result Grade Refusal)
    → (refusal_number a ≡ 0 → (answer_reply a ≡ writes (answer_text a)) × (length (answer_text a) ≡ length (answer_text a)))
    × (0 < refusal_number a → answer_reply a ≡ refusal_reply (refusal_number a))
answer-reply (Ok grade) = (λ z. (refl, refl), λ p. absurd (omega arith))
answer-reply (Err r) = (λ z. absurd (omega (arith, number-above r)), λ p. refl)

count-reply : (a : Result ℕ Refusal) → ((count : ℕ) → a ≡ Ok count → count ≤ 9)
    → (refusal_number a ≡ 0 → (count_reply a ≡ writes (count_text (lanes_figures a))) × (length (count_text (lanes_figures a)) ≡ 2))
    × (0 < refusal_number a → count_reply a ≡ refusal_reply (refusal_number a))
count-reply (Ok count) digit = (λ z. (refl, count-length count (digit count refl)), λ p. absurd (omega arith))
count-reply (Err r) digit = (λ z. absurd (omega (arith, number-above r)), λ p. refl)

figures-reply : (count last : ℕ) → 1 ≤ count → (number : Case → ℕ) (values : Case → List ℕ)
    → ((case : Case) → FiguresFit count last (number case) (values case))
    → RepliesBy number values (λ case. count) (λ case. figures_reply (number case) (values case))
figures-reply count last h number values fit case = (
  λ z. let long = (fit case).some z in (figures-written (number case) (values case) (omega arith), long),
  λ p. figures-refused (number case) (values case) ((fit case).none p),
)

pub answer-hands-back : AnswerHandsBack
answer-hands-back = hand-back longest_answer _ _ _ case_reply (λ case. answer-reply (answer_to case))

pub lanes-hand-back : LanesHandBack
lanes-hand-back letter =
    hand-back longest_answer _ _ _ (lanes_reply letter)
    (λ case. count-reply (lanes_answer case letter) (λ count e. found-digit case letter count e))

pub daily-hands-back : DailyHandsBack
daily-hands-back shares traffic =
    hand-back daily.figure_count _ _ _ (daily_reply shares traffic)
    (figures-reply daily.figure_count last_daily_refusal (omega arith) _ _ (daily-fit shares traffic))

pub forecast-hands-back : ForecastHandsBack
forecast-hands-back forecast =
    hand-back forecasts.figure_count _ _ _ (forecast_reply forecast)
    (figures-reply forecasts.figure_count last_forecast_refusal (omega arith) _ _ (forecast-fit forecast))

letter-outside : (case : Case) (letter : ℕ) → ((1 ≤ letter) × (letter ≤ 5) → ⊥) → first_refusal (lanes_refusals case letter) ≡ 16
unfolding lanes_refusals
letter-outside case letter out = grind (arith, nat_tests)

-- the reply to a line that is read is that to its case
pub lanes-read : (line old : List ℕ) (case : Case) (letter : ℕ) → longest_answer ≤ length old → read_line line ≡ Ok case
    → lanes_call line letter (length old) ≡ lanes_reply letter case
lanes-read line old case letter room e =
    unless_refused-none _ (line_reply (lanes_reply letter) (read_line line)) refusal_reply (buffer-fits longest_answer (length old) room)
    ∙ ap (line_reply (lanes_reply letter)) e

pub letter-outside-is-refused : LetterOutsideIsRefused
letter-outside-is-refused line old case letter room e out =
    (((lanes-hand-back letter line old).2 room case e).0 16 (lanes_answer-number case letter ∙ letter-outside case letter out) (lit< tt))
