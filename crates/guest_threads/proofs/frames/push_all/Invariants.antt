use Rattle.std.proofs.Common.{◌≡◌, ◌++◌, take}
use Rattle.guest_threads.proofs.frames.push_all.Given as goal

abbrev pub invariant-loop-value : goal.invariant-loop-value
invariant-loop-value l = l.locals ≡ l.fn.locals ++ take l.value-index l.values
