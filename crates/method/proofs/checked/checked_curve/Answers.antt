-- `method::checked::checked_curve` meets its contract: 19 does not refuse a fit case.
use Rattle.road.proofs.RefusalLaws.{fields-weather}
use Rattle.method.proofs.checked.checked_curve.Goals as goal

pub checked_curve_under-requires-clause-weather : goal.checked_curve_under-requires-clause-weather
checked_curve_under-requires-clause-weather c = fields-weather c.args.fit.now.case c.args.fit.now.fits
