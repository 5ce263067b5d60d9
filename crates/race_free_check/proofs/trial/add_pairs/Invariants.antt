use Rattle.std.proofs.Common.{◌≡◌, ◌++◌, take}
use Rattle.conspec_automaton.specs.Trying.{pairs}
use Rattle.race_free_check.proofs.trial.add_pairs.Given as goal

abbrev pub invariant-loop-first : goal.invariant-loop-first
invariant-loop-first g l = l.trials.items ≡ l.fn.trials.items ++ pairs (g.P.PairTest.pairs l.test) l.condition (take l.first-index l.firsts) l.seconds
