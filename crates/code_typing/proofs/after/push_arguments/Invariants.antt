use Rattle.std.proofs.Common.{◌≡◌, ◌-◌, ◌++◌, map}
use Rattle.bytecode_model.specs.Described.{types_at, type_described}
use Rattle.bytecode_model.specs.Rules.{arguments_typed}
use Rattle.code_typing.proofs.after.push_arguments.Given as goal

abbrev pub invariant-loop : goal.invariant-loop
invariant-loop l = l.out ++ map type_described (types_at (255 - l.counter) l.text) ≡ l.fn.out ++ arguments_typed l.fn.method
