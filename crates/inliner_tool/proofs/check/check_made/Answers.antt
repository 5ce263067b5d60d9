use Rattle.inliner_tool.proofs.CheckedAs.{accepted_so}
use Rattle.inliner_tool.proofs.check.check_made.Goals as goal

pub returns-in-Ok-clause-checks : goal.returns-in-Ok-clause-checks
returns-in-Ok-clause-checks c =
    rw c.just.ensures (accepted_so c.args.main.now c.args.inputs c.in-Ok.field-0 c.in-Ok.ensures.checked)

pub returns-in-Ok-clause-checked : goal.returns-in-Ok-clause-checked
returns-in-Ok-clause-checked c =
    let is = c.in-Ok.ensures.checked in
    record { program = c.in-Ok.field-0.program; links = is.links; checked = is.is.checked }
