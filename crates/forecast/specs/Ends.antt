-- What the code works out of an accepted case; proofs/EndsLaws shows that at the two ends of a forecast it is
-- the best and the worst outcome.
use Rattle.road.specs.declared.Case.{Case}
use Rattle.method.specs.Assess.{measures}
use Rattle.forecast.specs.declared.Outcome.{Outcome}
use Rattle.forecast.specs.Forecasts.{combination_of}

-- FORECAST-3: the letter that the case gets, with its own demand, share and factor
abbrev pub outcome_of : Case → Outcome
outcome_of case =
    record {
      letter = (measures case).performance.letter;
      combination = combination_of case.demand case.heavy_share case.peak_hour_factor;
    }
