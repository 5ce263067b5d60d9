use Rattle.std.proofs.Common.{◌≡◌, ◌+◌, length}
use Rattle.std.specs.List.{AllByRecursion}
use Rattle.bytecode_model.specs.Sound.{IsSoundClass}
use Rattle.cert_checker.specs.Acceptance.{classes_differ, shape_fault}
use Rattle.cert_checker.proofs.shape.shape_fault.Given as goal

abbrev pub invariant-loop-classes : goal.invariant-loop-classes
invariant-loop-classes l = record {
  same : classes_differ l.at l.classes l.frames l.notes ≡ shape_fault l.fn.program l.fn.certificate;
  count : l.at + length l.classes ≡ length l.fn.program.classes;
  sound : AllByRecursion IsSoundClass l.classes;
}

abbrev pub decreases-loop-classes : goal.decreases-loop-classes
decreases-loop-classes l = length l.classes
