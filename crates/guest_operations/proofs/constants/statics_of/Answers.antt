use Rattle.std.proofs.Common.{map, ap, ◌∙◌}
use Rattle.bytecode_model.specs.declared.program.LinkedClass.{LinkedClass}
use Rattle.guest_model.specs.Layout.{starting_value}
use Rattle.bytecode_model.proofs.CopiedItems.{one_more_mapped}
use Rattle.guest_operations.proofs.constants.statics_of.Goals as goal

pub loop-class-preserved : goal.loop-class-preserved
loop-class-preserved c =
    let values = λ (class : LinkedClass). map (starting_value c.args.program.now class.file) class.file.fields in
    one_more_mapped values c.as_slice-class-items.result.now c.loop-class.statics c.push.new.self c.loop-class.class-index c.class-item.result c.in_ok-values.values
    c.loop-class-test.true c.loop-class.invariant (c.in_ok-values.ensures ∙ ap values c.class-item.is) c.in_ok-push.ensures.ok
