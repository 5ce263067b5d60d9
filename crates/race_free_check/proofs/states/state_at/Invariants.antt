use Rattle.std.proofs.Common.{◌≡◌, ◌++◌, length}
use Rattle.conspec_automaton.specs.Points.{state_of}
use Rattle.race_free_check.specs.Choosing.{chosen}
use Rattle.race_free_check.proofs.states.state_at.Given as goal

abbrev pub invariant-loop-value : goal.invariant-loop-value
invariant-loop-value l = l.state ++ state_of l.choice ≡ state_of (chosen l.lists l.number)

abbrev pub decreases-loop-value : goal.decreases-loop-value
decreases-loop-value l = length l.choice
