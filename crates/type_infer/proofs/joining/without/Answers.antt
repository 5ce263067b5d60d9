use Rattle.std.proofs.Common.{ap, ◌∙◌}
use Rattle.bytecode_model.proofs.CopiedItems.{one_more_mapped}
use Rattle.type_infer.specs.Solving.{unless}
use Rattle.type_infer.proofs.joining.without.Goals as goal

pub loop-t-preserved : goal.loop-t-preserved
loop-t-preserved c =
    one_more_mapped (unless c.args.object.now) c.args.types.now c.loop-t.left c.push.new.self c.loop-t.t-index c.t-item.result c.in_ok-one.one
    c.loop-t-test.true c.loop-t.invariant (c.in_ok-one.ensures ∙ ap (unless c.args.object.now) c.t-item.is) c.in_ok-push.ensures.ok
