-- The boundary sections (specs/Boundary), shown, with those of the layers below.
use Rattle.std.proofs.Common.{◌≡◌, Ok, [], ◌∷◌, ◌++◌, drop, get_or, replicate, refl, ap, ◌∙◌, lit≤}
use mathlib.Core.List.{flat_map}
use Prim.Native.String.{◌++◌ as ◌then◌}
use Rattle.text.specs.Bytes.{bytes_of}
use Rattle.text.specs.Parts.{on_first, parts}
use Rattle.text.specs.Decimal.{decimal_up_to, decimal, figures_text, row_text}
use Rattle.text.specs.Stream.{texts, last_line, without_empty_last, lines_of, output_of}
use Rattle.refusals.specs.Facts.{Shown}
use Rattle.refusals.specs.Numbers.{in_order, refusal_of, refusal_number}
use Rattle.refusals.proofs.FactLaws.{Shown-append}
use Rattle.curve.specs.Weather.{factors}
use Rattle.road.specs.Cases.{with_weather}
use Rattle.road.specs.Refusals.{weather_unfit, road_refusals, load_refusals, field_refusals}
use Rattle.method.specs.Refusals.{refusals}
use Rattle.method.specs.Boundary.{example}
use Rattle.answer.specs.Answers.{answer_to}
use Rattle.answer.specs.Boundary as answer
use Rattle.answer.specs.Boundary.{example_in_snow}
use Rattle.answer.proofs.Boundary as answer-proofs
use Rattle.day.specs.Instances.{example_demands, example_day}
use Rattle.day.proofs.Instances.{example-day}
use Rattle.daily.specs.Instances.{urban, printed_figures}
use Rattle.daily.proofs.Instances.{printed-accepted, printed-figures}
use Rattle.forecast.specs.Instances.{wide}
use Rattle.forecast.proofs.Instances.{wide-answered}
use Rattle.survey.specs.Boundary.{survey_facts}
use Rattle.survey.proofs.Boundary.{survey-shown}
use Rattle.lines.specs.Reading.{read_line}
use Rattle.lines.specs.Boundary.{printed_line, printed_line_under, line_facts}
use Rattle.lines.proofs.Boundary.{lines-shown, read-told, short-read}
use Rattle.replies.specs.Texts.{refusal_text, text_of, line_text}
use Rattle.replies.specs.Output.{line_texts}
use Rattle.replies.proofs.TextsLaws.{line_text-refused, line_text-case}
use Rattle.marehour.specs.Calls.{day_call, daily_call, forecast_call, content}
use Rattle.marehour.specs.Boundary.{printed_answer, snow_answer, added_facts, boundary_facts}
use Rattle.marehour.proofs.Laws.{day-call-is-the-day, daily-hands-back, forecast-hands-back}

-- the printed line is the printed case; in snow; and with a factor that 19 refuses
pub line-read : read_line (bytes_of printed_line) ≡ Ok example
unfolding line_facts
line-read = read-told _ example lines-shown.0

snow-read : read_line (bytes_of (printed_line_under "860\t780")) ≡ Ok (example_in_snow 2000)
unfolding line_facts
snow-read = read-told _ (example_in_snow 2000) lines-shown.1.0

factor-read : read_line (bytes_of (printed_line_under "99999\t1000")) ≡ Ok (with_weather example (factors 99999 1000))
unfolding line_facts
factor-read = read-told _ (with_weather example (factors 99999 1000)) lines-shown.1.1.0

-- what is printed for them
line-shown : line_text (bytes_of printed_line) ≡ bytes_of printed_answer
unfolding flat_map decimal_up_to decimal figures_text row_text text_of
line-shown = line_text-case (bytes_of printed_line) example line-read
    ∙ ap (text_of (refusal_number (answer_to example))) answer-proofs.example-figures

snow-shown : line_text (bytes_of (printed_line_under "860\t780")) ≡ bytes_of snow_answer
unfolding flat_map decimal_up_to decimal figures_text row_text text_of
snow-shown =
    line_text-case (bytes_of (printed_line_under "860\t780")) (example_in_snow 2000) snow-read
    ∙ ap (λ l. text_of (get_or l 0 0) (drop 1 l)) answer-proofs.example-in-snow

factor-shown : line_text (bytes_of (printed_line_under "99999\t1000")) ≡ bytes_of "X\t19\n"
unfolding in_order refusal_of flat_map decimal_up_to decimal figures_text row_text weather_unfit road_refusals load_refusals field_refusals refusals
    refusal_text text_of
factor-shown = line_text-case (bytes_of (printed_line_under "99999\t1000")) (with_weather example (factors 99999 1000)) factor-read

-- an empty line, and a line of one field
short-shown : (line_text [] ≡ refusal_text 15) × (line_text (bytes_of "F") ≡ refusal_text 15)
short-shown = (line_text-refused [] _ short-read.0, line_text-refused (bytes_of "F") _ short-read.1)

output-shown : output_of line_texts (bytes_of ("\n" then (printed_line then "\nF"))) ≡ bytes_of ("X\t15\n" then (printed_answer then "X\t15\n"))
unfolding flat_map on_first parts decimal_up_to decimal figures_text row_text refusal_text texts last_line without_empty_last lines_of output_of
output-shown =
    ap (λ x. x ++ (line_text (bytes_of printed_line) ++ (line_text (bytes_of "F") ++ []))) short-shown.0
    ∙ ap (λ x. refusal_text 15 ++ (x ++ (line_text (bytes_of "F") ++ []))) line-shown
    ∙ ap (λ x. refusal_text 15 ++ (bytes_of printed_answer ++ (x ++ []))) short-shown.1

empty-shown : output_of line_texts (bytes_of "") ≡ bytes_of ""
unfolding flat_map parts texts last_line without_empty_last lines_of output_of
empty-shown = refl

day-shown : content (day_call (bytes_of printed_line) example_demands 38) (replicate 38 9) ≡ example_day
day-shown = (day-call-is-the-day (bytes_of printed_line) example line-read example_demands (replicate 38 9)).1 ∙ example-day

daily-shown : content (daily_call (bytes_of printed_line) urban 40404 17) (replicate 17 9) ≡ printed_figures ++ (9 ∷ [])
daily-shown =
    (((daily-hands-back urban 40404 (bytes_of printed_line) (replicate 17 9)).2 (lit≤ tt) example line-read).1 printed-accepted).1
    ∙ ap (λ figures. figures ++ (9 ∷ [])) printed-figures

forecast-shown : content (forecast_call (bytes_of printed_line) wide 9) (replicate 9 9)
    ≡ 1 ∷ 1000 ∷ 0 ∷ 950 ∷ 6 ∷ 4000 ∷ 100 ∷ 850 ∷ 9 ∷ []
forecast-shown =
    (((forecast-hands-back wide (bytes_of printed_line) (replicate 9 9)).2 (lit≤ tt) example line-read).1 (ap (λ ns. get_or ns 0 0) wide-answered)).1
    ∙ ap (λ figures. drop 1 figures ++ (9 ∷ [])) wide-answered

added-shown : Shown added_facts
unfolding added_facts
added-shown =
    (line-shown, (output-shown, (empty-shown, (day-shown, (daily-shown, (forecast-shown, (snow-shown, (factor-shown, tt))))))))

-- each fact of the list is what is to be shown
pub boundary-shown : Shown boundary_facts
boundary-shown =
    Shown-append answer.boundary_facts (survey_facts ++ (line_facts ++ added_facts)) answer-proofs.boundary-shown
    (Shown-append survey_facts (line_facts ++ added_facts) survey-shown (Shown-append line_facts added_facts lines-shown added-shown))
