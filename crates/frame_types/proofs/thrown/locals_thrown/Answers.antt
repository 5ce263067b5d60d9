use Rattle.std.proofs.Common.{ap, ◌∙◌}
use Rattle.bytecode_model.specs.Rules.{when_thrown}
use Rattle.bytecode_model.proofs.CopiedItems.{one_more_mapped}
use Rattle.frame_types.proofs.thrown.locals_thrown.Goals as goal

pub loop-t-preserved : goal.loop-t-preserved
loop-t-preserved c =
    one_more_mapped when_thrown c.args.locals.now c.loop-t.found c.push.new.self c.loop-t.t-index c.t-item.result c.in_ok-left.left
    c.loop-t-test.true c.loop-t.invariant (c.in_ok-left.ensures ∙ c.when_thrown.ensures ∙ ap when_thrown c.t-item.is) c.in_ok-push.ensures.ok
