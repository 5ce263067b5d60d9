use Rattle.cert_checker.proofs.Denied.{disobeys_at_once}
use Rattle.cert_checker.proofs.laws.denied_call_disobeys.Goals as goal

pub returns : goal.returns
returns c = record { disobeys = disobeys_at_once c.modes_differ.ensures.calls c.sees_the_first_call.ensures.sees }
