use Rattle.std.proofs.Common.{◌≡◌, ◌++◌, length}
use Rattle.race_free_check.proofs.events.set_arguments.Given as goal

abbrev pub invariant-loop-value : goal.invariant-loop-value
invariant-loop-value l = l.values.items ++ l.choice ≡ l.fn.choice

abbrev pub decreases-loop-value : goal.decreases-loop-value
decreases-loop-value l = length l.choice
