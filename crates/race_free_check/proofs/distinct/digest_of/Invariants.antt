use Rattle.std.proofs.Common.{◌≡◌, length}
use Rattle.race_free_check.specs.Distinct.{digest_from, digest_of}
use Rattle.race_free_check.proofs.distinct.digest_of.Given as goal

abbrev pub invariant-loop-left : goal.invariant-loop-left
invariant-loop-left l = digest_from l.digest l.left l.value ≡ digest_of l.atoms l.value

abbrev pub decreases-loop-left : goal.decreases-loop-left
decreases-loop-left l = length l.left
