use Rattle.std.proofs.Common.{◌≡◌, ◌++◌, length}
use Rattle.class_index.proofs.search.put_first.Given as goal

abbrev pub invariant-loop-name : goal.invariant-loop-name
invariant-loop-name l = l.left ++ l.waiting.items ≡ l.names ++ l.fn.waiting.items

abbrev pub decreases-loop-name : goal.decreases-loop-name
decreases-loop-name l = length l.left
