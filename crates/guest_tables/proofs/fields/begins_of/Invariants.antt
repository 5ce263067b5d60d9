use Rattle.std.proofs.Common.{◌≡◌, map, take, length}
use Rattle.bytecode_model.specs.declared.program.LinkedClass.{LinkedClass}
use Rattle.guest_model.specs.Layout.{fields_of}
use Rattle.guest_tables.proofs.fields.begins_of.Given as goal

abbrev pub invariant-loop-class : goal.invariant-loop-class
invariant-loop-class l = l.begins ≡ map (λ (c : LinkedClass). length (fields_of l.fn.program c.parent)) (take l.class-index l.fn.program.classes)
