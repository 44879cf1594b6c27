-- `answer::promises::refused_by_the_list`, by the laws.
use Rattle.answer.proofs.Laws.{refused-by-the-list}
use Rattle.answer.proofs.promises.refused_by_the_list.Goals as goal

pub returns : goal.returns
returns c = refused-by-the-list
