use Rattle.std.proofs.Common.{◌≡◌, map, take}
use Rattle.bytecode_model.specs.declared.program.LinkedClass.{LinkedClass}
use Rattle.guest_tables.specs.Layout.{counts_from}
use Rattle.guest_tables.proofs.fields.counts_of.Given as goal

abbrev pub invariant-loop-class : goal.invariant-loop-class
invariant-loop-class l = l.counts ≡ map (λ (c : LinkedClass). counts_from 0 c.file.fields) (take l.class-index l.program.classes)
