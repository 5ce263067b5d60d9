use Rattle.std.proofs.Common.{◌∙◌}
use Rattle.bytecode_model.proofs.CopiedItems.{one_more_copied}
use Rattle.bytecode_model.proofs.copying.copy_methods.Goals as goal

pub loop-method-preserved : goal.loop-method-preserved
loop-method-preserved c =
    one_more_copied c.args.methods.now c.loop-method.copy c.push.new.self c.loop-method.method-index c.method-item.result c.in_ok-one.one
    c.loop-method-test.true c.loop-method.invariant (c.in_ok-one.ensures ∙ c.method-item.is) c.in_ok-push.ensures.ok
