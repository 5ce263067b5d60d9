use Rattle.std.proofs.Common.{◌≡◌, ◌+◌, length}
use Rattle.std.specs.List.{AllByRecursion}
use Rattle.bytecode_model.specs.Sound.{IsSoundMethod}
use Rattle.cert_checker.specs.Acceptance.{in_methods}
use Rattle.cert_checker.proofs.notes.in_methods.Given as goal

abbrev pub invariant-loop-methods : goal.invariant-loop-methods
invariant-loop-methods l = record {
  same : in_methods l.rules l.at l.methods l.frames l.notes ≡ in_methods l.rules 0 l.fn.class.methods l.fn.frames l.fn.notes;
  count : l.at + length l.methods ≡ length l.fn.class.methods;
  sound : AllByRecursion IsSoundMethod l.methods;
}

abbrev pub decreases-loop-methods : goal.decreases-loop-methods
decreases-loop-methods l = length l.methods
