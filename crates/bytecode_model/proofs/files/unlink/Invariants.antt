use Rattle.std.proofs.Common.{◌≡◌, take, map}
use Rattle.bytecode_model.specs.declared.program.LinkedClass.{LinkedClass}
use Rattle.bytecode_model.proofs.files.unlink.Given as goal

abbrev pub invariant-loop-class : goal.invariant-loop-class
invariant-loop-class l = l.files ≡ map (λ (c : LinkedClass). c.file) (take l.class-index l.class-items)
