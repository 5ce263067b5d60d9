use Rattle.std.proofs.Common.{◌≡◌, ◌+◌, length}
use Rattle.std.specs.List.{AllByRecursion}
use Rattle.bytecode_model.specs.Sound.{IsSoundClass}
use Rattle.code_typing.specs.First.{classes_fault, typing_fault}
use Rattle.code_typing.proofs.typing.typing_fault.Given as goal

abbrev pub invariant-loop-left : goal.invariant-loop-left
invariant-loop-left l =
    (classes_fault l.fn.program l.own l.left l.told ≡ typing_fault l.fn.program l.fn.typing)
    × (l.own + length l.left ≡ length l.fn.program.classes) × AllByRecursion IsSoundClass l.left

abbrev pub decreases-loop-left : goal.decreases-loop-left
decreases-loop-left l = length l.left
