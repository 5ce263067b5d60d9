use Rattle.std.proofs.Common.{sym, ◌∙◌}
use Rattle.race_free_check.proofs.Parting.{apart_unbroken}
use Rattle.race_free_check.proofs.deciding.first_broken.Goals as goal

pub returns-then-is_apart : goal.returns-then-is_apart
returns-then-is_apart c = sym (apart_unbroken c.args.policy.now c.requires.policy c.args.trial.now c.requires.clauses (sym c.is_apart.ensures ∙ c.if-is_apart.true))
