-- `curve::promises::weather`, by the laws.
use Rattle.curve.proofs.Laws.{clear-weather-changes-nothing, curve-under-is-well-formed}
use Rattle.curve.proofs.promises.weather.Goals as goal

pub returns-clause-clear : goal.returns-clause-clear
returns-clause-clear c = clear-weather-changes-nothing

pub returns-clause-well_formed : goal.returns-clause-well_formed
returns-clause-well_formed c = curve-under-is-well-formed
