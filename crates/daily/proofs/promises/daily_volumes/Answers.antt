-- `daily::promises::daily_volumes` meets its contract: the theorems are proved in proofs/PromiseLaws.
use Rattle.daily.proofs.PromiseLaws.{meets-up-to-the-daily-volume, no-better-with-more-traffic}
use Rattle.daily.proofs.promises.daily_volumes.Goals as goal

pub returns-clause-meets_up_to_the_daily_volume : goal.returns-clause-meets_up_to_the_daily_volume
returns-clause-meets_up_to_the_daily_volume c = meets-up-to-the-daily-volume

pub returns-clause-no_better_with_more_traffic : goal.returns-clause-no_better_with_more_traffic
returns-clause-no_better_with_more_traffic c = no-better-with-more-traffic
