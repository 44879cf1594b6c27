-- `day::promises::instances` meets its contract: the instances are shown in proofs/Instances.
use Rattle.day.proofs.Instances.{instances-shown, refused-shown, numbers-of-positions, no-better-with-2643, two-nines-kept}
use Rattle.day.proofs.promises.instances.Goals as goal

pub returns-clause-days : goal.returns-clause-days
returns-clause-days c = instances-shown

pub returns-clause-refused : goal.returns-clause-refused
returns-clause-refused c = refused-shown

pub returns-clause-numbers_of_positions : goal.returns-clause-numbers_of_positions
returns-clause-numbers_of_positions c = numbers-of-positions

pub returns-clause-no_better_with_2643 : goal.returns-clause-no_better_with_2643
returns-clause-no_better_with_2643 c = no-better-with-2643

pub returns-clause-two_nines_kept : goal.returns-clause-two_nines_kept
returns-clause-two_nines_kept c = two-nines-kept
