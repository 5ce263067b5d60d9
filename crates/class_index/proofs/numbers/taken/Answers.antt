use Rattle.class_index.proofs.Numbering.{own_left}
use Rattle.class_index.proofs.numbers.taken.Goals as goal

pub returns-in-Some-clause-left : goal.returns-in-Some-clause-left
returns-in-Some-clause-left c = own_left c.args.own.now c.remove.new.self c.args.class.now c.in-Some.ensures.updates.0
