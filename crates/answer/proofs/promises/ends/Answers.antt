-- `answer::promises::ends`, by the laws.
use Rattle.answer.proofs.Laws.{figures-within-ends, volumes-up-to-any-end, counts-are-digits, refusals-within-ends, refusals-reach-ends}
use Rattle.answer.proofs.promises.ends.Goals as goal

pub returns-clause-figures : goal.returns-clause-figures
returns-clause-figures c = figures-within-ends

pub returns-clause-volumes : goal.returns-clause-volumes
returns-clause-volumes c = volumes-up-to-any-end

pub returns-clause-counts : goal.returns-clause-counts
returns-clause-counts c = counts-are-digits

pub returns-clause-refusals : goal.returns-clause-refusals
returns-clause-refusals c = refusals-within-ends

pub returns-clause-reached : goal.returns-clause-reached
returns-clause-reached c = refusals-reach-ends
