use Rattle.std.proofs.Common.{◌≡◌, ◌++◌, take, map}
use Rattle.conspec_automaton.specs.Trying.{alone}
use Rattle.race_free_check.proofs.trial.add_alone.Given as goal

abbrev pub invariant-loop-first : goal.invariant-loop-first
invariant-loop-first l = l.trials.items ≡ l.fn.trials.items ++ map (alone l.condition) (take l.first-index l.firsts)
