-- The notes so far, and after them those of what is left.
use Rattle.std.proofs.Common.{◌≡◌, ◌++◌, length}
use Rattle.cert_maker.specs.Noting.{class_notes}
use Rattle.cert_maker.proofs.making.class_notes.Given as goal

abbrev pub invariant-loop-methods : goal.invariant-loop-methods
invariant-loop-methods l = l.notes ++ class_notes l.items.policy l.items.mode l.methods l.frames ≡ class_notes l.items.policy l.items.mode l.fn.methods l.fn.frames

abbrev pub decreases-loop-methods : goal.decreases-loop-methods
decreases-loop-methods l = length l.methods
