-- `accuracy::promises::shown_speed_just_below` meets its contract: the theorem is proved in
-- proofs/PromiseLaws.
use Rattle.accuracy.proofs.PromiseLaws.{shown-speed-just-below}
use Rattle.accuracy.proofs.promises.shown_speed_just_below.Goals as goal

pub returns : goal.returns
returns c = shown-speed-just-below
