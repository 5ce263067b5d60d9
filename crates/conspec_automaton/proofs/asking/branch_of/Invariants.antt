use Rattle.std.proofs.Common.{◌≡◌, length}
use Rattle.std.specs.Prelude.{find}
use Rattle.conspec_automaton.specs.Next.{is_taken, moment}
use Rattle.conspec_automaton.proofs.asking.branch_of.Given as goal

abbrev pub invariant-loop-left : goal.invariant-loop-left
invariant-loop-left l = find (is_taken (moment l.state l.event)) l.left ≡ find (is_taken (moment l.state l.event)) l.branches

abbrev pub decreases-loop-left : goal.decreases-loop-left
decreases-loop-left l = length l.left
