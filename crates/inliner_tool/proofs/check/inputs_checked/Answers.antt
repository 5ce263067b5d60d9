use Rattle.inliner_tool.specs.Check.{link_inputs}
use Rattle.inliner_tool.proofs.CheckedAs.{checked_so}
use Rattle.inliner_tool.proofs.check.inputs_checked.Goals as goal

pub returns-clause-checked : goal.returns-clause-checked
returns-clause-checked c =
    checked_so c.args.main.now c.args.inputs c.program_of-linked.result c.linked_checked-checked.result c.program_of-linked.ensures.is c.linked_checked-checked.ensures.program c.linked_checked-checked.ensures.checked

pub returns-clause-ends : goal.returns-clause-ends
returns-clause-ends c = c.linked_checked-checked.ensures.ends (link_inputs c.args.main.now c.args.inputs) c.program_of-linked.ensures.is
