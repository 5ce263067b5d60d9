use Rattle.std.specs.Prelude.{codes}
use Rattle.command_outputs.specs.Lines.{accepted_in, labelled}
use Rattle.command_outputs.proofs.Joining.{three_parts}
use Rattle.command_outputs.proofs.line.push_loaded.Goals as goal

pub returns : goal.returns
returns c =
    three_parts c.args.text.now c.push_labelled.new.text c.push_labelled-2.new.text c.push_accepted_in.new.text (labelled (codes "loaded classes") c.args.classes) (labelled (codes " sites") c.args.sites)
    (accepted_in c.args.mode.now) c.in_ok-push_labelled.ensures c.in_ok-push_labelled-2.ensures c.in_ok-push_accepted_in.ensures
