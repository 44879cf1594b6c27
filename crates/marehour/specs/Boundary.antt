-- Figures: one list, those of the layers below with what is printed and handed back.
use Rattle.std.specs.Prelude.{List, [], ◌∷◌, ◌++◌, replicate}
use Prim.Native.String.{String, ◌++◌ as ◌then◌}
use Rattle.text.specs.Bytes.{bytes_of}
use Rattle.text.specs.Stream.{output_of}
use Rattle.refusals.specs.Facts.{Fact, fact}
use Rattle.answer.specs.Boundary as answer
use Rattle.day.specs.Instances.{example_demands, example_day}
use Rattle.daily.specs.Instances.{urban, printed_figures}
use Rattle.forecast.specs.Instances.{wide}
use Rattle.survey.specs.Boundary.{survey_facts}
use Rattle.lines.specs.Boundary.{printed_line, printed_line_under, line_facts}
use Rattle.replies.specs.Texts.{line_text}
use Rattle.replies.specs.Output.{line_texts}
use Rattle.marehour.specs.Calls.{day_call, daily_call, forecast_call, content}

-- TEXT-2: what `los` prints for the printed line
abbrev pub printed_answer : String
printed_answer = "C\t60782\t230782\t1196\t60782\t197\t1117\t1829\t2642\t3360\t3858\n"

-- TEXT-2, WEATHER-1: what `los` prints for the printed line with the factors 860 and 780
abbrev pub snow_answer : String
snow_answer = "C\t52272\t173372\t1196\t52222\t230\t960\t1572\t2221\t2636\t2898\n"

-- LOS-1, LOS-2, TEXT-2, TEXT-3, CALL-5, CALL-7 to CALL-9, REFUSAL-15, REFUSAL-19, FIGURE-1: what is printed
-- for the printed line, and for it between an empty line and a last line without newline; for an empty
-- input; the printed line's day with 2,000, 1,000,000 and 2,643; its daily figures with 40,404 vehicles, K
-- 90 and D 550; its letters with a demand of 1,000 to 4,000, a share of 0 to 100 and a factor of 850 to 950;
-- what is printed for it in snow, and with a factor of 99999, which 19 refuses
unfoldable pub added_facts : List Fact
added_facts =
    fact (line_text (bytes_of printed_line)) (bytes_of printed_answer)
    ∷ fact (output_of line_texts (bytes_of ("\n" then (printed_line then "\nF"))))
    (bytes_of ("X\t15\n" then (printed_answer then "X\t15\n")))
    ∷ fact (output_of line_texts (bytes_of "")) (bytes_of "")
    ∷ fact (content (day_call (bytes_of printed_line) example_demands 38) (replicate 38 9)) example_day
    ∷ fact (content (daily_call (bytes_of printed_line) urban 40404 17) (replicate 17 9))
    (printed_figures ++ (9 ∷ []))
    ∷ fact (content (forecast_call (bytes_of printed_line) wide 9) (replicate 9 9))
    (1 ∷ 1000 ∷ 0 ∷ 950 ∷ 6 ∷ 4000 ∷ 100 ∷ 850 ∷ 9 ∷ [])
    ∷ fact (line_text (bytes_of (printed_line_under "860\t780"))) (bytes_of snow_answer)
    ∷ fact (line_text (bytes_of (printed_line_under "99999\t1000"))) (bytes_of "X\t19\n")
    ∷ []

-- FIGURE-1: the figures of this layer and of those below
abbrev pub boundary_facts : List Fact
boundary_facts = answer.boundary_facts ++ (survey_facts ++ (line_facts ++ added_facts))
