use Rattle.woven_linking.proofs.Told.{tell}
use Rattle.woven_linking.proofs.laws.origins_are_true.Goals as goal

pub returns : goal.returns
returns c = record { true_of = tell }
