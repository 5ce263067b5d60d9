use Rattle.std.proofs.Common.{ap, ◌∙◌}
use Rattle.bytecode_model.specs.declared.program.LinkedClass.{LinkedClass}
use Rattle.bytecode_model.proofs.CopiedItems.{one_more_mapped}
use Rattle.bytecode_model.proofs.files.unlink.Goals as goal

pub loop-class-preserved : goal.loop-class-preserved
loop-class-preserved c =
    one_more_mapped (λ (class : LinkedClass). class.file) c.as_slice-class-items.result.now c.loop-class.files c.push.new.self
    c.loop-class.class-index c.class-item.result c.in_ok-file.file c.loop-class-test.true c.loop-class.invariant
    (c.in_ok-file.ensures ∙ ap (λ (class : LinkedClass). class.file) c.class-item.is) c.in_ok-push.ensures.ok
