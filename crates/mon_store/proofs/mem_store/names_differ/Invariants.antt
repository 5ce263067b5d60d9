use Rattle.std.proofs.Common.{◌≡◌, length}
use Rattle.mon_store.specs.MemStore.{names_differ}
use Rattle.mon_store.proofs.mem_store.names_differ.Given as goal

abbrev pub invariant-loop-left : goal.invariant-loop-left
invariant-loop-left l = names_differ l.left ≡ names_differ l.files

abbrev pub decreases-loop-left : goal.decreases-loop-left
decreases-loop-left l = length l.left
