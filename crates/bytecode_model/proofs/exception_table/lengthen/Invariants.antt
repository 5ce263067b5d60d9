use Rattle.std.proofs.Common.{◌≡◌, ℕ, ◌-◌, [], get_or, vec_len}
use Rattle.bytecode_model.proofs.exception_table.lengthen.Given as goal

abbrev pub invariant-loop-alloc : goal.invariant-loop-alloc
invariant-loop-alloc l = (k : ℕ) → get_or l.spans.items k [] ≡ get_or l.fn.spans.items k []

abbrev pub decreases-loop-alloc : goal.decreases-loop-alloc
decreases-loop-alloc l = l.count - vec_len l.spans
