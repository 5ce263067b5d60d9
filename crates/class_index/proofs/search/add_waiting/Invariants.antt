use Rattle.std.proofs.Common.{◌≡◌, ◌++◌, take}
use Rattle.class_index.proofs.search.add_waiting.Given as goal

abbrev pub invariant-loop-name : goal.invariant-loop-name
invariant-loop-name l = l.waiting.items ≡ l.fn.waiting.items ++ take l.name-index l.names
