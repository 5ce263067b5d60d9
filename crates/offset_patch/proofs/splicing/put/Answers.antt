use Rattle.std.proofs.Common.{arith}
use Rattle.offset_patch.proofs.InsnFits.{want_fits}
use Rattle.offset_patch.proofs.splicing.put.Goals as goal

pub returns-in_ok-place-in-Want-clause-each : goal.returns-in_ok-place-in-Want-clause-each
returns-in_ok-place-in-Want-clause-each c = want_fits c.args.insn c.in-Want.op c.in-Want.want c.in_ok-place-in-Want.field-0 c.in-Want.is c.requires.insn (omega arith)
