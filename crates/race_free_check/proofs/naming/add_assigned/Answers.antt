use Rattle.conspec_automaton.specs.declared.policy.Branch.{Branch}
use Rattle.conspec_automaton.specs.Points.{assigned_to}
use Rattle.race_free_check.proofs.Grown.{branch_more}
use Rattle.race_free_check.proofs.naming.add_assigned.Goals as goal

pub loop-branch-preserved : goal.loop-branch-preserved
loop-branch-preserved c = record {
  adds = branch_more (assigned_to c.args.var) (λ (b : Branch). b.updates) c.args.clause.now.branches c.as_slice-branch-items.result.now c.loop-branch.branch-index c.branch-item.result c.args.numbers.now.items c.loop-branch.numbers.items c.add_each_assigned.new.numbers.items c.as_slice.result.now
      c.as_slice-branch-items.ensures c.loop-branch-test.true c.branch-item.is c.loop-branch.invariant.adds c.in_ok-add_each_assigned.ensures.adds c.as_slice.ensures;
  small = c.in_ok-add_each_assigned.ensures.small;
}
