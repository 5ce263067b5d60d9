use Rattle.conspec_automaton.specs.Points.{assigned_to}
use Rattle.race_free_check.proofs.Grown.{kept_more}
use Rattle.race_free_check.proofs.naming.add_each_assigned.Goals as goal

pub loop-update-preserved : goal.loop-update-preserved
loop-update-preserved c = record {
  adds = kept_more (assigned_to c.args.var) c.args.updates.now c.loop-update.update-index _ c.args.numbers.now.items c.loop-update.numbers.items c.add_some.new.numbers.items c.assigned_to-number.result c.loop-update-test.true c.loop-update.invariant.adds c.in_ok-add_some.ensures.adds c.assigned_to-number.ensures;
  small = c.in_ok-add_some.ensures.small;
}
