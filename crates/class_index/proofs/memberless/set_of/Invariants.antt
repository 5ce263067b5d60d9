use Rattle.std.proofs.Common.{take}
use Rattle.class_index.specs.Index.{NamesSeen}
use Rattle.class_index.proofs.memberless.set_of.Given as goal

abbrev pub invariant-loop-name : goal.invariant-loop-name
invariant-loop-name l = NamesSeen l.set (take l.name-index l.names)
