use Rattle.std.proofs.Common.{arith}
use Rattle.std.proofs.lemmas.Grind.{common_steps}
use Rattle.conspec_parse.specs.Policy.{policy_at}
use Rattle.conspec_parse.proofs.reading.policy_at.Goals as goal

pub returns : goal.returns
unfolding policy_at
returns c = grind (arith, common_steps)
