use Rattle.std.proofs.Common.{◌≡◌, ℕ}
use Rattle.type_lattice.specs.SkipPointers.{AreBegun, IsKnown, IsOpen, parents_of}
use Rattle.type_lattice.proofs.skip_pointers.add_skip_pointer.Given as goal

abbrev pub invariant-loop-at : goal.invariant-loop-at
invariant-loop-at l = record {
  begun : AreBegun l.items.items;
  of : parents_of l.items.items ≡ parents_of l.fn.items.items;
  keeps : (at : ℕ) → IsKnown l.fn.items.items at → IsKnown l.items.items at;
  open_still : IsOpen l.items.items l.start l.path.items;
}

abbrev pub decreases-loop-at : goal.decreases-loop-at
decreases-loop-at l = goal.left-loop-at l
