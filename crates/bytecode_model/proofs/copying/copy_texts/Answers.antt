use Rattle.std.proofs.Common.{◌∙◌}
use Rattle.bytecode_model.proofs.CopiedItems.{one_more_copied}
use Rattle.bytecode_model.proofs.copying.copy_texts.Goals as goal

pub loop-text-preserved : goal.loop-text-preserved
loop-text-preserved c =
    one_more_copied c.args.texts.now c.loop-text.copy c.push.new.self c.loop-text.text-index c.text-item.result c.in_ok-one.one
    c.loop-text-test.true c.loop-text.invariant (c.in_ok-one.ensures ∙ c.text-item.is) c.in_ok-push.ensures.ok
