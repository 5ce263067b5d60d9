use Rattle.std.proofs.Common.{◌≡◌, None, replicate}
use Rattle.type_infer.proofs.worklist.no_frames.Given as goal

abbrev pub invariant-loop : goal.invariant-loop
invariant-loop l = l.frames.items ≡ replicate l.counter None
