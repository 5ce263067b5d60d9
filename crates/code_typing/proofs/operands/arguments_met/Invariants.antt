use Rattle.std.proofs.Common.{◌≡◌, ◌-◌, map}
use Rattle.bytecode_model.specs.Described.{types_at}
use Rattle.bytecode_model.specs.Wants.{all_met, to_described}
use Rattle.code_typing.proofs.operands.arguments_met.Given as goal

abbrev pub invariant-loop : goal.invariant-loop
invariant-loop l =
    all_met (map (to_described l.fn.program) (types_at (255 - l.counter) l.text)) l.types
    ≡ all_met (map (to_described l.fn.program) (types_at 255 l.fn.text)) l.fn.types
