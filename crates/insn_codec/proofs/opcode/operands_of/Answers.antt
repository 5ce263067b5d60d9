use Rattle.std.proofs.Common.{sym, ap}
use Rattle.insn_codec.specs.Opcodes.{Opcode}
use Rattle.insn_codec.proofs.OpcodeTable.{no_opcode}
use Rattle.insn_codec.proofs.opcode.operands_of.Goals as goal

pub returns-then-op-ge202 : goal.returns-then-op-ge202
returns-then-op-ge202 c = ap (λ (o : Opcode). o.operands) (sym (no_opcode c.args.op c.if-op-ge202.true))
