use Rattle.std.proofs.Common.{◌≡◌, ◌++◌, length}
use Rattle.woven_linking.specs.Program.{classes_with}
use Rattle.woven_linking.proofs.program.classes_with.Given as goal

abbrev pub invariant-loop-left : goal.invariant-loop-left
invariant-loop-left l = l.classes ++ classes_with l.left l.files.items l.methods.items ≡ classes_with l.olds l.initial.files.items l.initial.methods.items

abbrev pub decreases-loop-left : goal.decreases-loop-left
decreases-loop-left l = length l.left
