use Rattle.std.proofs.Common.{◌≡◌, map, take}
use Rattle.command_outputs.specs.Outputs.{class_output}
use Rattle.command_outputs.proofs.outputs.class_outputs.Given as goal

abbrev pub invariant-loop-class : goal.invariant-loop-class
invariant-loop-class l = l.outputs ≡ map (class_output l.folder) (take l.class-index l.classes)
