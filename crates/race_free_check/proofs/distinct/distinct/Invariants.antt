use Rattle.std.proofs.Common.{◌≡◌, ◌++◌, length, map}
use Rattle.race_free_check.specs.Distinct.{are_alike, digest_of, distinct, unlike}
use Rattle.race_free_check.proofs.distinct.distinct.Given as goal

abbrev pub invariant-loop-left : goal.invariant-loop-left
invariant-loop-left l = record {
  is : l.found ++ unlike (are_alike l.atoms) l.found l.left ≡ distinct l.atoms l.values;
  digests : l.digests.items ≡ map (digest_of l.atoms) l.found;
}

abbrev pub decreases-loop-left : goal.decreases-loop-left
decreases-loop-left l = length l.left
