-- `forecast::promises::instances` meets its contract: the instances are shown in proofs/Computed and
-- proofs/Instances.
use Rattle.forecast.proofs.Instances.{letter-between, target-kept, target-missed, instances-shown}
use Rattle.forecast.proofs.Computed.{computed-shown, refusals-shown}
use Rattle.forecast.proofs.promises.instances.Goals as goal

pub returns-clause-letter_between : goal.returns-clause-letter_between
returns-clause-letter_between c = letter-between

pub returns-clause-target_kept : goal.returns-clause-target_kept
returns-clause-target_kept c = target-kept

pub returns-clause-target_missed : goal.returns-clause-target_missed
returns-clause-target_missed c = target-missed

pub returns-clause-letters_by_definition : goal.returns-clause-letters_by_definition
returns-clause-letters_by_definition c = computed-shown

pub returns-clause-refusals : goal.returns-clause-refusals
returns-clause-refusals c = refusals-shown

pub returns-clause-answers : goal.returns-clause-answers
returns-clause-answers c = instances-shown
