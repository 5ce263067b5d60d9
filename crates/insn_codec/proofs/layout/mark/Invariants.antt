use Rattle.std.proofs.Common.{◌≡◌, ◌∷◌, ◌++◌, replicate, Some, None}
use Rattle.insn_codec.proofs.layout.mark.Given as goal

abbrev pub invariant-loop : goal.invariant-loop
invariant-loop l = l.marks.items ≡ l.fn.marks.items ++ (Some l.number ∷ replicate l.counter None)
