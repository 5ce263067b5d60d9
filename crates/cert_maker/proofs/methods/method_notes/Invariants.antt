-- The notes so far, and after them those of the instructions that are left.
use Rattle.std.proofs.Common.{◌≡◌, ◌++◌, length}
use Rattle.cert_maker.specs.Noting.{method_notes, parts_notes, where_typed}
use Rattle.cert_maker.proofs.methods.method_notes.Given as goal

abbrev pub invariant-loop-refs : goal.invariant-loop-refs
invariant-loop-refs l =
    l.notes ++ where_typed (parts_notes l.items.policy l.items.mode l.method.max_locals l.refs) l.left ≡ method_notes l.items.policy l.items.mode l.method l.frames

abbrev pub decreases-loop-refs : goal.decreases-loop-refs
decreases-loop-refs l = length l.refs
