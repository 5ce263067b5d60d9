use Rattle.std.proofs.Common.{ℕ, List, [], ap}
use Rattle.insn_codec.proofs.OpcodeTable.{name_at, name_is_short}
use Rattle.insn_codec.proofs.name.padded_name.Goals as goal

pub returns-clause-len : goal.returns-clause-len
returns-clause-len c = ap (λ (r : ℕ × List ℕ). r.0) (name_at c.args.op (0, []) c.requires)

pub returns-clause-name : goal.returns-clause-name
returns-clause-name c = ap (λ (r : ℕ × List ℕ). r.1) (name_at c.args.op (0, []) c.requires)

pub returns-clause-short : goal.returns-clause-short
returns-clause-short c = rw (returns-clause-len c) (name_is_short c.args.op c.requires)
