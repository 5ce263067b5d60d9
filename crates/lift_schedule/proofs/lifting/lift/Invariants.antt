use Rattle.std.proofs.Common.{◌≡◌, ◌+◌, length}
use Rattle.std.specs.Prelude.{IsTrue}
use Rattle.conspec_automaton.specs.Range.{in_range}
use Rattle.lift_schedule.specs.Lifting.{lift_from, lift_of}
use Rattle.lift_schedule.proofs.lifting.lift.Given as goal

abbrev pub invariant-loop-step : goal.invariant-loop-step
invariant-loop-step g l = record {
  run : lift_from l.of.policy.now l.of.mode (g.S.Steps.program l.of.client.now) (g.S.Steps.program l.of.woven.now) l.index l.run l.left.items
      ≡ lift_of l.of.policy.now l.of.mode (g.S.Steps.program l.of.client.now) (g.S.Steps.program l.of.woven.now) l.fn.steps;
  count : l.index + length l.left.items ≡ length l.fn.steps;
  ranged : IsTrue (in_range l.of.policy.now l.run.client.state);
}

abbrev pub decreases-loop-step : goal.decreases-loop-step
decreases-loop-step g l = length l.left.items
