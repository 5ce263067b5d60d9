use Rattle.woven_typing.proofs.Policies.{policies_tell}
use Rattle.woven_typing.proofs.laws.policies_tell.Goals as goal

pub returns : goal.returns
returns c = policies_tell
