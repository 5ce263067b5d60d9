use Rattle.command_outputs.specs.Outputs.{class_output}
use Rattle.command_outputs.proofs.Mapping.{map_push}
use Rattle.command_outputs.proofs.outputs.class_outputs.Goals as goal

pub loop-class-preserved : goal.loop-class-preserved
loop-class-preserved c =
    rw c.in_ok-push.ensures.ok (map_push (class_output c.args.folder.now) c.args.classes.now c.loop-class.class-index c.class-item.result c.loop-class.outputs c.in_ok-class_output.field-0
    c.loop-class-test.true c.class-item.is c.loop-class.invariant c.in_ok-class_output.ensures)
