use Rattle.std.proofs.Common.{◌≡◌, ◌+◌, ◌≤◌, length, map}
use Rattle.bytecode_model.specs.declared.program.Method.{Method}
use Rattle.bytecode_model.specs.Layout.{coded}
use Rattle.cert_checker.specs.Acceptance.{differ, methods_differ}
use Rattle.cert_checker.proofs.shape.methods_differ.Given as goal

abbrev pub invariant-loop-methods : goal.invariant-loop-methods
invariant-loop-methods l = record {
  same : differ l.at (map (λ (m : Method). length m.insns) (coded l.methods)) (map length l.frames) (map length l.notes) ≡ methods_differ l.fn.methods l.fn.frames l.fn.notes;
  count : l.at + length l.methods ≤ length l.fn.methods;
}

abbrev pub decreases-loop-methods : goal.decreases-loop-methods
decreases-loop-methods l = length l.methods
