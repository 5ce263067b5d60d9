use Rattle.std.proofs.Common.{arith}
use Rattle.insn_codec.proofs.CodeLaws.{is_found, is_only, is_each}
use Rattle.insn_codec.proofs.reading.read_code.Goals as goal

pub returns-clause-found : goal.returns-clause-found
returns-clause-found c = is_found c.args.code.now c.all.result (λ i. omega (arith, c.type_inv.code i)) c.all.ensures.reads

pub returns-clause-only : goal.returns-clause-only
returns-clause-only c = λ insns encodes. is_only c.args.code.now c.all.result insns c.all.ensures.reads encodes

pub returns-clause-each : goal.returns-clause-each
returns-clause-each c = is_each c.args.code.now c.all.result (λ i. omega (arith, c.type_inv.code i)) c.all.ensures.reads
