use Rattle.std.proofs.Common.{◌∙◌}
use Rattle.bytecode_model.proofs.CopiedItems.{one_more_copied}
use Rattle.bytecode_model.proofs.copying.copy_classes.Goals as goal

pub loop-class-preserved : goal.loop-class-preserved
loop-class-preserved c =
    one_more_copied c.args.classes.now c.loop-class.copy c.push.new.self c.loop-class.class-index c.class-item.result c.in_ok-one.one
    c.loop-class-test.true c.loop-class.invariant (c.in_ok-one.ensures ∙ c.class-item.is) c.in_ok-push.ensures.ok
