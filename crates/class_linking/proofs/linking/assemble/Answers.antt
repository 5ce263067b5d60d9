use Rattle.class_linking.proofs.LinkedCalls.{known}
use Rattle.class_linking.proofs.LinkedWhole.{known as whole}
use Rattle.class_linking.proofs.LinkedOrder.{known as order}
use Rattle.class_linking.proofs.linking.assemble.Goals as goal

pub returns-clause-operands : goal.returns-clause-operands
returns-clause-operands c =
    known c.args.files c.args.listing c.args.main.now c.args.side c.assembled_program.result c.assembled_program.ensures.exact c.assembled_program.ensures.sound

pub returns-clause-named : goal.returns-clause-named
returns-clause-named c =
    whole c.args.files c.args.listing c.args.main.now c.args.side c.assembled_program.result c.assembled_program.ensures.exact c.assembled_program.ensures.sound

pub returns-clause-order : goal.returns-clause-order
returns-clause-order c =
    order c.args.files c.args.listing c.args.main.now c.args.side c.assembled_program.result c.assembled_program.ensures.exact
