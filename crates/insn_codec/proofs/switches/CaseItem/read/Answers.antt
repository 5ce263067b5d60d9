use Rattle.std.proofs.Common.{FitsSigned, refl, rules}
use Rattle.std.specs.Int.{w32}
use Rattle.std.proofs.lemmas.Int.{to_z-of_z}
use Rattle.insn_codec.specs.Reading.{case_at}
use Rattle.insn_codec.proofs.switches.CaseItem.read.Goals as goal

pub returns-clause-reads : goal.returns-clause-reads
unfolding case_at
returns-clause-reads c =
    let f : FitsSigned w32 c.in_ok-key.key = search rules in
    rw (c.in_ok-key.ensures.reads, c.in_ok-to.ensures.reads, to_z-of_z w32 c.in_ok-key.key f) refl
