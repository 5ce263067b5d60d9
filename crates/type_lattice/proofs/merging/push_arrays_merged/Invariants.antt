use Rattle.std.proofs.Common.{◌≡◌, ◌++◌, length}
use Rattle.api_listing.specs.BuiltIn.{object}
use Rattle.type_lattice.specs.Merging.{arrays_merged}
use Rattle.type_lattice.proofs.merging.push_arrays_merged.Given as goal

abbrev pub invariant-loop-x : goal.invariant-loop-x
invariant-loop-x l =
    l.out ++ arrays_merged l.program l.otherwise l.a l.b ≡ l.fn.out ++ arrays_merged l.program object l.fn.a l.fn.b

abbrev pub decreases-loop-x : goal.decreases-loop-x
decreases-loop-x l = length l.a
