-- `day::promises::lent_numbers` meets its contract: the theorems are proved in proofs/PromiseLaws.
use Rattle.day.proofs.PromiseLaws.{past-the-demands-kept, refused-day-changes-nothing, lent-fits-exactly}
use Rattle.day.proofs.promises.lent_numbers.Goals as goal

pub returns-clause-past_the_demands_kept : goal.returns-clause-past_the_demands_kept
returns-clause-past_the_demands_kept c = past-the-demands-kept

pub returns-clause-refused_day_changes_nothing : goal.returns-clause-refused_day_changes_nothing
returns-clause-refused_day_changes_nothing c = refused-day-changes-nothing

pub returns-clause-lent_fits_exactly : goal.returns-clause-lent_fits_exactly
returns-clause-lent_fits_exactly c = lent-fits-exactly
