use Rattle.std.proofs.Common.{Option, sym, subst}
use Rattle.std.specs.Prelude.{IfSome}
use Rattle.conspec_automaton.specs.declared.policy.Branch.{Branch}
use Rattle.cert_maker.specs.Small.{IsSmall}
use Rattle.cert_maker.proofs.Small.{small_branch}
use Rattle.cert_maker.proofs.clauses.branch_at.Goals as goal

pub returns-clause-small : goal.returns-clause-small
returns-clause-small c =
    subst (λ (o : Option Branch). IfSome o IsSmall) (sym c.branch_of.ensures)
    (small_branch c.args.policy.now c.requires.policy c.args.site c.args.branch)
