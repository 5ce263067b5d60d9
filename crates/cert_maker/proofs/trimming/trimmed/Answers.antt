use Rattle.std.proofs.Common.{◌∙◌, sym}
use Rattle.cert_maker.proofs.Trimmed.{trimmed_shorter, trimmed_stays}
use Rattle.cert_maker.proofs.trimming.trimmed.Goals as goal

pub loop-kept-preserved : goal.loop-kept-preserved
loop-kept-preserved c = trimmed_shorter c.loop-kept.kept.now (sym c.loop-kept-test.ensures) ∙ c.loop-kept.invariant

pub returns-clause-is : goal.returns-clause-is
returns-clause-is c = sym (trimmed_stays c.loop-kept.kept.now (sym c.ends_with_top.ensures ∙ c.loop-kept-test.false)) ∙ c.loop-kept.invariant
