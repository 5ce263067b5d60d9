use Rattle.std.proofs.Common.{◌≡◌, ◌+◌, ◌-◌, length}
use Rattle.bytecode_model.specs.Described.{arguments, types_at}
use Rattle.frame_types.proofs.described.arity.Given as goal

abbrev pub invariant-loop : goal.invariant-loop
invariant-loop l =
    (l.count + length (types_at (255 - l.counter) l.left) ≡ length (arguments l.fn.desc)) × (l.count ≡ l.counter)
