use Rattle.std.proofs.Common.{◌≡◌, ◌+◌, length}
use Rattle.std.specs.List.{AllByRecursion}
use Rattle.bytecode_model.specs.Sound.{IsSoundMethod}
use Rattle.code_typing.specs.First.{methods_fault}
use Rattle.code_typing.proofs.typing.methods_fault.Given as goal

abbrev pub invariant-loop-left : goal.invariant-loop-left
invariant-loop-left l =
    (methods_fault l.fn.program l.own l.fn.class l.index l.left l.told ≡ methods_fault l.fn.program l.own l.fn.class 0 l.fn.class.methods l.fn.told)
    × (l.index + length l.left ≡ length l.fn.class.methods) × AllByRecursion IsSoundMethod l.left

abbrev pub decreases-loop-left : goal.decreases-loop-left
decreases-loop-left l = length l.left
