use Rattle.std.proofs.Common.{◌∙◌}
use Rattle.bytecode_model.proofs.CopiedItems.{one_more_copied}
use Rattle.bytecode_model.proofs.copying.copy_ids.Goals as goal

pub loop-id-preserved : goal.loop-id-preserved
loop-id-preserved c =
    one_more_copied c.args.ids.now c.loop-id.copy c.push.new.self c.loop-id.id-index c.id-item.result c.in_ok-one.one
    c.loop-id-test.true c.loop-id.invariant (c.in_ok-one.ensures ∙ c.id-item.is) c.in_ok-push.ensures.ok
