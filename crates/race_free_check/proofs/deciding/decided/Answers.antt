use Rattle.std.proofs.Common.{List, sym, subst, ◌∙◌}
use Rattle.std.specs.List.{AllByRecursion}
use Rattle.conspec_automaton.specs.Trying.{Trial}
use Rattle.race_free_check.specs.Deciding.{AreClausesOf}
use Rattle.race_free_check.proofs.Judging.{trials_all}
use Rattle.race_free_check.proofs.deciding.decided.Goals as goal

pub all_small-requires-clause-clauses : goal.all_small-requires-clause-clauses
all_small-requires-clause-clauses g c = subst (λ (ts : List Trial). AllByRecursion (AreClausesOf c.args.policy.now) ts) (sym (c.as_slice.ensures.value ∙ c.in_ok-trials.ensures)) (trials_all (g.P.PairTest.pairs c.args.test.now) c.args.policy.now c.requires)

pub judged-requires-clause-clauses : goal.judged-requires-clause-clauses
judged-requires-clause-clauses g c = subst (λ (ts : List Trial). AllByRecursion (AreClausesOf c.args.policy.now) ts) (sym (c.as_slice-2.ensures.value ∙ c.in_ok-trials.ensures)) (trials_all (g.P.PairTest.pairs c.args.test.now) c.args.policy.now c.requires)
