use Rattle.std.proofs.Common.{ap, subst, ◌∙◌, sym}
use Rattle.conspec_automaton.specs.declared.running.Verdict.{Verdict}
use Rattle.conspec_automaton.specs.Verdict.{IsVerdict, is_refused}
use Rattle.conspec_automaton.proofs.Obeying.{obeys_of, disobeys_of}
use Rattle.conspec_automaton.proofs.Verdicts.{accepted_is, verdict_means}
use Rattle.conspec_automaton.proofs.running.accept.Goals as goal

pub returns-clause-means : goal.returns-clause-means
returns-clause-means c =
    subst (λ (v : Verdict). IsVerdict c.args.policy.now c.args.events.now v) (sym c.run.ensures) (verdict_means c.args.policy.now c.args.events.now)

pub returns-clause-accepted : goal.returns-clause-accepted
returns-clause-accepted c = λ all. c.run.ensures ∙ accepted_is c.args.policy.now c.args.events.now all

pub returns-clause-followed : goal.returns-clause-followed
returns-clause-followed c = λ no. obeys_of c.args.policy.now c.args.events.now (ap is_refused (sym c.run.ensures) ∙ no)

pub returns-clause-refused : goal.returns-clause-refused
returns-clause-refused c = λ yes. disobeys_of c.args.policy.now c.args.events.now (ap is_refused (sym c.run.ensures) ∙ yes)
