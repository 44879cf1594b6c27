-- `lines::promises::lines_are_their_fields`, by the laws of lines.
use Rattle.lines.proofs.Laws.{values-are-the-fields, clear-weather-may-be-left-out, other-counts-are-malformed, refusal-has-its-number}
use Rattle.lines.proofs.promises.lines_are_their_fields.Goals as goal

pub returns-clause-values : goal.returns-clause-values
returns-clause-values c = values-are-the-fields

pub returns-clause-clear_weather : goal.returns-clause-clear_weather
returns-clause-clear_weather c = clear-weather-may-be-left-out

pub returns-clause-other_counts : goal.returns-clause-other_counts
returns-clause-other_counts c = other-counts-are-malformed

pub returns-clause-refusal : goal.returns-clause-refusal
returns-clause-refusal c = refusal-has-its-number
