use Rattle.std.proofs.Common.{◌≡◌, length}
use Rattle.conspec_automaton.specs.Next.{moment, updated}
use Rattle.conspec_automaton.specs.Range.{MayUpdate}
use Rattle.conspec_automaton.proofs.running.update.Given as goal

abbrev pub invariant-loop-left : goal.invariant-loop-left
invariant-loop-left l = record {
  same : updated (moment l.state l.event) l.left ≡ updated (moment l.fn.state l.event) l.updates;
  room : MayUpdate l.policy.vars l.policy.maxint (moment l.state l.event) l.left;
}

abbrev pub decreases-loop-left : goal.decreases-loop-left
decreases-loop-left l = length l.left
