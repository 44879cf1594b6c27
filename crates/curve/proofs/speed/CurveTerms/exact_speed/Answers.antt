-- `curve::speed::CurveTerms::exact_speed` meets its contract: it is the speed of proofs/TermsLaws, whose
-- value is S.
use Rattle.curve.proofs.TermsLaws.{terms-exact}
use Rattle.curve.proofs.speed.CurveTerms.exact_speed.Goals as goal

pub returns : goal.returns
returns c =
    terms-exact c.args.self.now c.args.v c.share_numerator.result c.requires c.share_numerator.ensures
