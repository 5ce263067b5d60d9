use Rattle.std.proofs.Common.{◌≡◌, length}
use Rattle.cert_maker.specs.Canonical.{trimmed}
use Rattle.cert_maker.proofs.trimming.trimmed.Given as goal

abbrev pub invariant-loop-kept : goal.invariant-loop-kept
invariant-loop-kept l = trimmed l.kept ≡ trimmed l.fn.types

abbrev pub decreases-loop-kept : goal.decreases-loop-kept
decreases-loop-kept l = length l.kept
