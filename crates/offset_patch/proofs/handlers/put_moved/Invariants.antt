use Rattle.std.proofs.Common.{◌≡◌, ◌++◌, take, map}
use Rattle.offset_patch.specs.Splicing.{at_fronts}
use Rattle.offset_patch.proofs.handlers.put_moved.Given as goal

abbrev pub invariant-loop-handler : goal.invariant-loop-handler
invariant-loop-handler l = l.list ≡ l.fn.list ++ map (at_fronts l.fronts) (take l.handler-index l.handlers)
