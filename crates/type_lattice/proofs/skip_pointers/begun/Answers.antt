use Rattle.std.proofs.Common.{None, refl}
use Rattle.bytecode_model.proofs.CopiedItems.{one_more_mapped}
use Rattle.type_lattice.specs.SkipPointers.{unknown}
use Rattle.type_lattice.proofs.skip_pointers.begun.Goals as goal

pub loop-parent-preserved : goal.loop-parent-preserved
loop-parent-preserved c =
    one_more_mapped unknown c.args.parents.now c.loop-parent.items.items c.push.new.self.items c.loop-parent.parent-index None _
    c.loop-parent-test.true c.loop-parent.invariant refl c.in_ok-push.ensures.items
