use Rattle.std.proofs.Common.{take}
use Rattle.guest_tables.specs.Methods.{AreMethods}
use Rattle.guest_tables.proofs.methods.names_of.Given as goal

abbrev pub invariant-loop-class : goal.invariant-loop-class
invariant-loop-class l = AreMethods l.methods (take l.class-index l.program.classes)
