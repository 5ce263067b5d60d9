use Rattle.std.proofs.Common.{◌≡◌, length, map}
use Rattle.std.specs.List.{list_any}
use Rattle.race_free_check.specs.Distinct.{are_alike, digest_of}
use Rattle.race_free_check.proofs.distinct.any_alike.Given as goal

abbrev pub invariant-loop-seen : goal.invariant-loop-seen
invariant-loop-seen l = record {
  is : list_any (are_alike l.atoms l.value) l.seen ≡ list_any (are_alike l.atoms l.value) l.fn.seen;
  digests : l.digests ≡ map (digest_of l.atoms) l.seen;
}

abbrev pub decreases-loop-seen : goal.decreases-loop-seen
decreases-loop-seen l = length l.seen
