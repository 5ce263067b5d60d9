use Rattle.std.proofs.Common.{◌≡◌, ◌++◌, length}
use Rattle.offset_patch.specs.Splicing.{table_moved}
use Rattle.offset_patch.proofs.tables.put_moved.Given as goal

abbrev pub invariant-loop-covers : goal.invariant-loop-covers
invariant-loop-covers l = l.table ++ table_moved l.starts l.fronts l.covers l.left ≡ l.fn.table ++ table_moved l.starts l.fronts l.handlers l.entries

abbrev pub decreases-loop-covers : goal.decreases-loop-covers
decreases-loop-covers l = length l.covers
