use Rattle.std.proofs.Common.{◌≡◌, ℕ, ◌<◌, true}
use Rattle.bytecode_model.specs.Assigning.{assignable}
use Rattle.bytecode_model.specs.Makes.{type_at}
use Rattle.type_infer.proofs.joining.types_below.Given as goal

abbrev pub invariant-loop-j : goal.invariant-loop-j
invariant-loop-j l = (k : ℕ) → k < l.j → assignable l.program (type_at l.from k) (type_at l.to k) ≡ true
