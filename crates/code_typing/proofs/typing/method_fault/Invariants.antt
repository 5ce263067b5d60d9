use Rattle.std.proofs.Common.{◌≡◌, ◌-◌, length}
use Rattle.code_typing.specs.First.{first_row, method_fault}
use Rattle.bytecode_model.specs.Typed.{row_in}
use Rattle.code_typing.proofs.typing.method_fault.Given as goal

abbrev pub invariant-loop-at : goal.invariant-loop-at
invariant-loop-at l =
    first_row (row_in l.fn.program l.own l.fn.class l.fn.method l.fn.frames) l.own l.index (length l.fn.method.insns - l.at) l.at
    ≡ method_fault l.fn.program l.own l.fn.class l.fn.method l.fn.frames l.index
