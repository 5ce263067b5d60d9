use Rattle.woven_typing.proofs.Policies.{throwable_known}
use Rattle.woven_typing.proofs.laws.listings_know_throwable.Goals as goal

pub returns : goal.returns
returns c = throwable_known
