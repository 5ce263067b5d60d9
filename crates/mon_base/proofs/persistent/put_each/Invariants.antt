use Rattle.std.proofs.Common.{ℕ, List, length}
use Rattle.mon_base.specs.declared.persistent.Halves.{Halves}
use Rattle.mon_base.specs.Persistent.{Keeps, PutsEach}
use Rattle.mon_base.proofs.persistent.put_each.Given as goal

abbrev pub invariant-loop-left : goal.invariant-loop-left
invariant-loop-left l = record {
  keeps : Keeps l.fn.nodes l.nodes;
  puts : (new : List Halves) (result : ℕ) → PutsEach l.nodes new l.depth l.root l.left l.item result → PutsEach l.fn.nodes new l.depth l.fn.root l.numbers l.item result;
}

abbrev pub decreases-loop-left : goal.decreases-loop-left
decreases-loop-left l = length l.left
