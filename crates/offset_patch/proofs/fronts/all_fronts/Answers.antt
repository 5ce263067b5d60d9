use Rattle.std.specs.Prelude.{slice_index}
use Rattle.bytecode_model.proofs.CopiedItems.{one_more_mapped}
use Rattle.offset_patch.proofs.fronts.all_fronts.Goals as goal

pub loop-to-preserved : goal.loop-to-preserved
loop-to-preserved c =
    one_more_mapped (slice_index c.args.fronts.now) c.args.targets.now c.loop-to.all c.push.new.self c.loop-to.to-index 0 c.front.result
    c.loop-to-test.true c.loop-to.invariant c.front.ensures c.in_ok-push.ensures.ok
