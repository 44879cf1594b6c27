-- `road::promises::clearances`, by the laws.
use Rattle.road.proofs.Laws.{straight-between-entries, clearances-are-whole, right-clearance-by-tenths}
use Rattle.road.proofs.promises.clearances.Goals as goal

pub returns-clause-straight : goal.returns-clause-straight
returns-clause-straight c = straight-between-entries

pub returns-clause-whole : goal.returns-clause-whole
returns-clause-whole c = clearances-are-whole

pub returns-clause-by_tenths : goal.returns-clause-by_tenths
returns-clause-by_tenths c = right-clearance-by-tenths
