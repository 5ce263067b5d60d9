use Rattle.std.proofs.Common.{◌≡◌, ◌<◌, ℕ}
use Rattle.type_lattice.specs.SkipPointers.{AreBegun, IsKnown, parents_of}
use Rattle.type_lattice.proofs.skip_pointers.SkipPointers.new.Given as goal

abbrev pub invariant-loop-start : goal.invariant-loop-start
invariant-loop-start l = record {
  begun : AreBegun l.items.items;
  of : parents_of l.items.items ≡ l.parents;
  known : (at : ℕ) → at < l.start → IsKnown l.items.items at;
}
