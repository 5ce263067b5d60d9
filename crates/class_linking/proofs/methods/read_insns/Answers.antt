use Rattle.std.proofs.Common.{arith}
use Rattle.class_linking.proofs.Lengths.{count_len}
use Rattle.class_linking.proofs.methods.read_insns.Goals as goal

pub returns-in-Ok-clause-count : goal.returns-in-Ok-clause-count
returns-in-Ok-clause-count c = omega (arith, count_len 0 c.in-Ok.insns, c.in-Ok.ensures.len, c.requires)
