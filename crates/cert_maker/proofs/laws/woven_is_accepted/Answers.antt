use Rattle.cert_maker.proofs.Accepted.{accepted}
use Rattle.cert_maker.proofs.laws.woven_is_accepted.Goals as goal

pub returns : goal.returns
returns c = record { accepted = accepted }
