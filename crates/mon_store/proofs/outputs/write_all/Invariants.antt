-- Those before the ones that are left are written.
use Rattle.std.proofs.Common.{◌≤◌, length}
use Rattle.mon_store.proofs.Writing.{HaveWritten}
use Rattle.mon_store.proofs.outputs.write_all.Given as goal

abbrev pub invariant-loop-left : goal.invariant-loop-left
invariant-loop-left g l = record {
  stands : HaveWritten (g.S.Store.files l.fn.store) l.outputs l.left (g.S.Store.files l.store);
  faults : g.S.Store.faults l.fn.store ≤ g.S.Store.faults l.store;
}

abbrev pub decreases-loop-left : goal.decreases-loop-left
decreases-loop-left g l = length l.left
