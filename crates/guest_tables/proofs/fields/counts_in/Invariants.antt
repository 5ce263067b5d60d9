use Rattle.std.proofs.Common.{◌≡◌, ◌++◌, length}
use Rattle.guest_tables.specs.Layout.{counts_from}
use Rattle.guest_tables.proofs.fields.counts_in.Given as goal

abbrev pub invariant-loop-left : goal.invariant-loop-left
invariant-loop-left l = l.counts ++ counts_from l.count l.left ≡ counts_from 0 l.fields

abbrev pub decreases-loop-left : goal.decreases-loop-left
decreases-loop-left l = length l.left
