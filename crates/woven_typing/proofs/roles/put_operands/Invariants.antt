use Rattle.std.proofs.Common.{◌≡◌, ◌++◌, map, take}
use Rattle.block_template.specs.Frames.{operand_type}
use Rattle.woven_typing.proofs.roles.put_operands.Given as goal

abbrev pub invariant-loop-operand : goal.invariant-loop-operand
invariant-loop-operand l = l.out ≡ l.fn.out ++ map operand_type (take l.operand-index l.operands)
