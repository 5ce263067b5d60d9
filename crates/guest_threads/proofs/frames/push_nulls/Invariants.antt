use Rattle.std.proofs.Common.{◌≡◌, ◌++◌, replicate}
use Rattle.guest_heap.specs.declared.value.Value.TheVariants as values
use Rattle.guest_threads.proofs.frames.push_nulls.Given as goal

abbrev pub invariant-loop-done : goal.invariant-loop-done
invariant-loop-done l = l.locals ≡ l.fn.locals ++ replicate l.done values.Null
