use Rattle.std.proofs.Common.{◌≡◌, map, take}
use Rattle.bytecode_model.specs.declared.program.LinkedClass.{LinkedClass}
use Rattle.guest_model.specs.Layout.{starting_value}
use Rattle.guest_operations.proofs.constants.statics_of.Given as goal

abbrev pub invariant-loop-class : goal.invariant-loop-class
invariant-loop-class l = l.statics ≡ map (λ (c : LinkedClass). map (starting_value l.fn.program c.file) c.file.fields) (take l.class-index l.class-items)
