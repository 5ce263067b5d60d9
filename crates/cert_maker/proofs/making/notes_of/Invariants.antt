-- The notes so far, and after them those of what is left.
use Rattle.std.proofs.Common.{◌≡◌, ◌++◌, length}
use Rattle.cert_maker.specs.Noting.{notes_of}
use Rattle.cert_maker.proofs.making.notes_of.Given as goal

abbrev pub invariant-loop-classes : goal.invariant-loop-classes
invariant-loop-classes l = l.notes ++ notes_of l.items.policy l.items.mode l.classes l.frames ≡ notes_of l.items.policy l.items.mode l.fn.classes l.fn.frames

abbrev pub decreases-loop-classes : goal.decreases-loop-classes
decreases-loop-classes l = length l.classes
