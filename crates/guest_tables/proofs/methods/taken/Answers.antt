use Rattle.std.proofs.Common.{None}
use Rattle.bytecode_model.proofs.ByName.{noted_put}
use Rattle.guest_tables.proofs.methods.taken.Goals as goal

pub returns-in-Some-clause-left : goal.returns-in-Some-clause-left
returns-in-Some-clause-left c q = noted_put c.args.methods.now c.remove.new.self c.args.name.now None c.in-Some.ensures.updates q
