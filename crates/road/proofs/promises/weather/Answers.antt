-- `road::promises::weather`, by the laws.
use Rattle.road.proofs.Laws.{weather-fits-exactly}
use Rattle.road.proofs.promises.weather.Goals as goal

pub returns : goal.returns
returns c = weather-fits-exactly
