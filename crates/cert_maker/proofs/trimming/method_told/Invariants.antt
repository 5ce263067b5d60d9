use Rattle.std.proofs.Common.{◌≡◌, map}
use Rattle.std.specs.List.{AllByRecursion}
use Rattle.cert_maker.specs.Canonical.{FitsIfSome, canonical_frame}
use Rattle.cert_maker.proofs.trimming.method_told.Given as goal

abbrev pub invariant-loop-frame : goal.invariant-loop-frame
invariant-loop-frame l = (l.made ≡ map (canonical_frame l.method) l.yielded) × AllByRecursion FitsIfSome l.made
