use Rattle.insn_codec.specs.Targets.{finds}
use Rattle.insn_codec.proofs.Instruction.{reads_insn}
use Rattle.insn_codec.proofs.reading.insn.Goals as goal

pub returns-clause-reads : goal.returns-clause-reads
returns-clause-reads c =
    reads_insn (finds c.args.targets.now) c.position-at.result c.args.from.now.at c.args.from.now c.in_ok-op.op c.u1.new.from
    c.operands.result c.operands.new.from c.position-at.ensures c.in_ok-op.ensures.reads c.operands.ensures.reads
