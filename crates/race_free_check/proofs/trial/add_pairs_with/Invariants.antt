use Rattle.std.proofs.Common.{◌≡◌, ◌++◌, length, map, filter}
use Rattle.conspec_automaton.specs.Trying.{both, is_tested}
use Rattle.race_free_check.proofs.trial.add_pairs_with.Given as goal

abbrev pub invariant-loop-left : goal.invariant-loop-left
invariant-loop-left g l =
    l.trials.items ++ map (both l.condition l.first) (filter (is_tested (g.P.PairTest.pairs l.test) l.first) l.left)
    ≡ l.fn.trials.items ++ map (both l.condition l.first) (filter (is_tested (g.P.PairTest.pairs l.test) l.first) l.seconds)

abbrev pub decreases-loop-left : goal.decreases-loop-left
decreases-loop-left g l = length l.left
