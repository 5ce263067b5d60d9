use Rattle.std.proofs.Common.{◌≡◌, ◌<◌, ◌++◌, length}
use Rattle.type_lattice.specs.SkipPointers.{parents_of, path_up}
use Rattle.type_lattice.proofs.skip_pointers.path_from.Given as goal

abbrev pub invariant-loop-at : goal.invariant-loop-at
invariant-loop-at l = record {
  whole : l.path.items ++ path_up (parents_of l.items) l.at ≡ path_up (parents_of l.items) l.start;
  within : l.at < length l.items;
}

abbrev pub decreases-loop-at : goal.decreases-loop-at
decreases-loop-at l = length (path_up (parents_of l.items) l.at)
