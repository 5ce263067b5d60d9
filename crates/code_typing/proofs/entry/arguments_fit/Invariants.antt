use Rattle.std.proofs.Common.{◌≡◌, ◌-◌, map}
use Rattle.bytecode_model.specs.Described.{types_at, type_described}
use Rattle.bytecode_model.specs.Makes.{type_at}
use Rattle.bytecode_model.specs.Rules.{locals_fit}
use Rattle.code_typing.proofs.entry.arguments_fit.Given as goal

abbrev pub invariant-loop : goal.invariant-loop
invariant-loop l =
    locals_fit l.fn.program (type_at (map type_described (types_at (255 - l.counter) l.text))) 0 l.to
    ≡ locals_fit l.fn.program (type_at (map type_described (types_at 255 l.fn.text))) 0 l.fn.to
