use Rattle.std.proofs.Common.{arith}
use Rattle.std.proofs.lemmas.Grind.{common_steps}
use Rattle.offset_patch.proofs.adding.name_and_type.Goals as goal

pub entry-requires-clause-names : goal.entry-requires-clause-names
entry-requires-clause-names c = grind (arith, common_steps)

pub returns-clause-is : goal.returns-clause-is
returns-clause-is c = grind (arith, common_steps)

pub returns-clause-below : goal.returns-clause-below
returns-clause-below c = grind (arith, common_steps)

pub returns-clause-more : goal.returns-clause-more
returns-clause-more c = grind (arith, common_steps)
