use Rattle.std.proofs.Common.{◌≡◌, ◌+◌, length, true}
use Rattle.conspec_automaton.specs.Range.{in_range}
use Rattle.conspec_automaton.specs.Verdict.{verdict, verdict_from}
use Rattle.conspec_automaton.proofs.running.run.Given as goal

abbrev pub invariant-loop-left : goal.invariant-loop-left
invariant-loop-left l = record {
  same : verdict_from l.policy l.index l.state l.left ≡ verdict l.policy l.events;
  count : l.index + length l.left ≡ length l.events;
  ranged : in_range l.policy l.state ≡ true;
}

abbrev pub decreases-loop-left : goal.decreases-loop-left
decreases-loop-left l = length l.left
