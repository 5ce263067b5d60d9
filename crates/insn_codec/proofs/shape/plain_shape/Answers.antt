use Rattle.std.proofs.Common.{arith}
use Rattle.std.proofs.lemmas.Grind.{common_steps}
use Rattle.insn_codec.proofs.shape.plain_shape.Goals as goal

pub returns-then-op-lt-IALOAD : goal.returns-then-op-lt-IALOAD
returns-then-op-lt-IALOAD c = grind (arith, common_steps)

pub returns-then-op-lt-POP : goal.returns-then-op-lt-POP
returns-then-op-lt-POP c = grind (arith, common_steps)

pub returns-then-op-lt-IADD : goal.returns-then-op-lt-IADD
returns-then-op-lt-IADD c = grind (arith, common_steps)

pub returns-then-op-lt-IFEQ : goal.returns-then-op-lt-IFEQ
returns-then-op-lt-IFEQ c = grind (arith, common_steps)

pub returns : goal.returns
returns c = grind (arith, common_steps)
