use Rattle.std.proofs.Common.{◌≡◌, ◌+◌, length}
use Rattle.std.specs.List.{AllByRecursion}
use Rattle.bytecode_model.specs.Sound.{IsSoundClass}
use Rattle.cert_checker.specs.Acceptance.{in_classes}
use Rattle.cert_checker.proofs.notes.in_classes.Given as goal

abbrev pub invariant-loop-classes : goal.invariant-loop-classes
invariant-loop-classes l = record {
  same : in_classes l.rules l.at l.classes l.frames l.notes ≡ in_classes l.rules 0 l.fn.program.classes l.fn.certificate.typing.frames l.fn.certificate.notes;
  count : l.at + length l.classes ≡ length l.fn.program.classes;
  sound : AllByRecursion IsSoundClass l.classes;
}

abbrev pub decreases-loop-classes : goal.decreases-loop-classes
decreases-loop-classes l = length l.classes
