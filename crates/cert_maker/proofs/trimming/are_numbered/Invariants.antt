use Rattle.std.proofs.Common.{length}
use Rattle.std.specs.List.{AllByRecursion}
use Rattle.cert_format.specs.Fits.{FitsType}
use Rattle.cert_maker.proofs.trimming.are_numbered.Given as goal

abbrev pub invariant-loop-left : goal.invariant-loop-left
invariant-loop-left l = AllByRecursion FitsType l.left → AllByRecursion FitsType l.types

abbrev pub decreases-loop-left : goal.decreases-loop-left
decreases-loop-left l = length l.left
