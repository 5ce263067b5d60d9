use Rattle.std.proofs.Common.{◌≡◌, ◌<◌, length}
use Rattle.std.specs.Prelude.{slice_get}
use Rattle.type_lattice.specs.SkipPointers.{path_up}
use Rattle.type_lattice.proofs.skip_pointers.SkipPointers.up.Given as goal

abbrev pub invariant-loop-left : goal.invariant-loop-left
invariant-loop-left l = record {
  goes_on : slice_get (path_up l.self l.at) l.left ≡ slice_get (path_up l.self l.fn.at) l.fn.steps;
  within : l.at < length l.self;
}

abbrev pub decreases-loop-left : goal.decreases-loop-left
decreases-loop-left l = l.left
