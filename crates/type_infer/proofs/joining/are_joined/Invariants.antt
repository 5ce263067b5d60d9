use Rattle.std.proofs.Common.{◌≡◌, ℕ, ◌<◌}
use Rattle.type_lattice.specs.Merging.{merged}
use Rattle.bytecode_model.specs.Makes.{type_at}
use Rattle.type_infer.proofs.joining.are_joined.Given as goal

abbrev pub invariant-loop-i : goal.invariant-loop-i
invariant-loop-i l = (j : ℕ) → j < l.i → type_at l.joined j ≡ merged l.program (type_at l.a j) (type_at l.b j)
