use Rattle.std.proofs.Common.{◌≡◌, ◌++◌, length}
use Rattle.std.specs.List.{AllByRecursion}
use Rattle.cert_maker.specs.Canonical.{FitsIfSome, canonical_methods}
use Rattle.cert_maker.proofs.trimming.canonical_methods.Given as goal

abbrev pub invariant-loop-left : goal.invariant-loop-left
invariant-loop-left l = record {
  so_far : l.made ++ canonical_methods l.left l.frames.items ≡ canonical_methods l.methods l.fn.frames;
  fits : AllByRecursion (AllByRecursion FitsIfSome) l.made;
}

abbrev pub decreases-loop-left : goal.decreases-loop-left
decreases-loop-left l = length l.left
