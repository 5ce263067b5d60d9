use Rattle.std.proofs.Common.{ap, ◌∙◌}
use Rattle.guest_model.specs.Layout.{starting_value}
use Rattle.bytecode_model.proofs.CopiedItems.{one_more_mapped}
use Rattle.guest_operations.proofs.constants.class_statics.Goals as goal

pub loop-field-preserved : goal.loop-field-preserved
loop-field-preserved c =
    let value = starting_value c.args.program.now c.args.file.now in
    one_more_mapped value c.as_slice-field-items.result.now c.loop-field.values c.push.new.self c.loop-field.field-index c.field-item.result c.in_ok-value.value
    c.loop-field-test.true c.loop-field.invariant (c.in_ok-value.ensures ∙ ap value c.field-item.is) c.in_ok-push.ensures.ok
