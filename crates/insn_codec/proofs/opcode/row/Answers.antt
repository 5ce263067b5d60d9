use Rattle.std.proofs.Common.{Bool, false, ap}
use Rattle.insn_codec.specs.declared.opcode.Operands.{Operands}
use Rattle.insn_codec.specs.declared.opcode.Operands.TheVariants.{Plain}
use Rattle.insn_codec.proofs.OpcodeTable.{columns_of}
use Rattle.insn_codec.proofs.opcode.row.Goals as goal

pub returns-clause-operands : goal.returns-clause-operands
returns-clause-operands c = ap (λ (r : Operands × Bool × Bool). r.0) (columns_of c.args.op (Plain, false, false) c.requires)

pub returns-clause-frame_only : goal.returns-clause-frame_only
returns-clause-frame_only c = ap (λ (r : Operands × Bool × Bool). r.1) (columns_of c.args.op (Plain, false, false) c.requires)

pub returns-clause-goes_on : goal.returns-clause-goes_on
returns-clause-goes_on c = ap (λ (r : Operands × Bool × Bool). r.2) (columns_of c.args.op (Plain, false, false) c.requires)
