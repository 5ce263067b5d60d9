use Rattle.std.specs.Prelude.{codes}
use Rattle.command_outputs.specs.Lines.{labelled}
use Rattle.command_outputs.proofs.Joining.{three_parts}
use Rattle.command_outputs.proofs.line.push_generated.Goals as goal

pub returns : goal.returns
returns c =
    three_parts c.args.text.now c.push_labelled.new.text c.push_labelled-2.new.text c.push_labelled-3.new.text (labelled (codes "generated classes") c.args.classes) (labelled (codes " sites") c.args.sites)
    (labelled (codes " bytes") c.args.bytes) c.in_ok-push_labelled.ensures c.in_ok-push_labelled-2.ensures c.in_ok-push_labelled-3.ensures
