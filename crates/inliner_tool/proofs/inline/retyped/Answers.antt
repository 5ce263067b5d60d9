use Rattle.inliner_tool.proofs.Remade.{allowed, fits, in_order, is_for, is_linked, ready_so}
use Rattle.inliner_tool.proofs.inline.retyped.Goals as goal

pub ready_of-ready-requires-clause-order : goal.ready_of-ready-requires-clause-order
ready_of-ready-requires-clause-order c =
    in_order c.args.main.now c.args.folder.now c.args.given c.args.typing c.requires.typing c.in-Ok.inlined c.in-Ok.old c.in-Ok.ensures.made (c.requires.expected c.in-Ok.ensures.made.files c.in-Ok.ensures.made.woven c.in-Ok.ensures.made.encodes)

pub ready_of-ready-requires-clause-linked : goal.ready_of-ready-requires-clause-linked
ready_of-ready-requires-clause-linked c =
    is_linked c.args.main.now c.args.folder.now c.args.given c.args.typing c.requires.typing c.in-Ok.inlined c.in-Ok.old c.in-Ok.ensures.made (c.requires.expected c.in-Ok.ensures.made.files c.in-Ok.ensures.made.woven c.in-Ok.ensures.made.encodes)

pub ready_of-ready-requires-clause-policy : goal.ready_of-ready-requires-clause-policy
ready_of-ready-requires-clause-policy c =
    is_for c.args.main.now c.args.folder.now c.args.given c.args.typing c.requires.typing c.in-Ok.inlined c.in-Ok.old c.in-Ok.ensures.made (c.requires.expected c.in-Ok.ensures.made.files c.in-Ok.ensures.made.woven c.in-Ok.ensures.made.encodes) c.requires.policy

pub ready_of-ready-requires-clause-allowed : goal.ready_of-ready-requires-clause-allowed
ready_of-ready-requires-clause-allowed c =
    allowed c.args.main.now c.args.folder.now c.args.given c.args.typing c.requires.typing c.in-Ok.inlined c.in-Ok.old c.in-Ok.ensures.made (c.requires.expected c.in-Ok.ensures.made.files c.in-Ok.ensures.made.woven c.in-Ok.ensures.made.encodes) c.requires.free

pub returns-in-Ok-clause-steps : goal.returns-in-Ok-clause-steps
returns-in-Ok-clause-steps c =
    fits c.args.main.now c.args.folder.now c.args.given c.args.typing c.requires.typing c.in-Ok.inlined c.in-Ok.old c.in-Ok.ensures.made
    (c.requires.expected c.in-Ok.ensures.made.files c.in-Ok.ensures.made.woven c.in-Ok.ensures.made.encodes) c.ready_of-ready.result c.ready_of-ready.ensures.accepts

pub returns-in-Ok-clause-rewoven : goal.returns-in-Ok-clause-rewoven
returns-in-Ok-clause-rewoven c =
    ready_so c.args.main.now c.args.folder.now c.args.given c.args.typing c.requires.typing c.in-Ok.inlined c.in-Ok.old c.in-Ok.ensures.made
    (c.requires.expected c.in-Ok.ensures.made.files c.in-Ok.ensures.made.woven c.in-Ok.ensures.made.encodes) c.requires.free c.ready_of-ready.result
    c.ready_of-ready.ensures.fits c.ready_of-ready.ensures.judged
