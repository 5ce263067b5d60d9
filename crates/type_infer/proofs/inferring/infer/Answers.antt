use Rattle.type_infer.proofs.Firsts.{are_met_before, cannot_be_met, least, untypable_at}
use Rattle.type_infer.proofs.Placing.{fault_placed}
use Rattle.type_infer.proofs.inferring.infer.Goals as goal

pub untyped-requires-clause-placed : goal.untyped-requires-clause-placed
untyped-requires-clause-placed c = fault_placed c.args.program.now c.in_ok-typing.typing c.in-Err.fault c.in-Err.ensures.exact

pub untyped-requires-clause-earlier : goal.untyped-requires-clause-earlier
untyped-requires-clause-earlier c =
    are_met_before c.args.program.now c.requires.order c.requires.sound c.in_ok-typing.typing c.in_ok-typing.ensures.solved c.in-Err.fault c.in-Err.ensures.exact

pub untyped-requires-clause-unmet : goal.untyped-requires-clause-unmet
untyped-requires-clause-unmet c =
    cannot_be_met c.args.program.now c.requires.order c.requires.sound c.in_ok-typing.typing c.in_ok-typing.ensures.solved c.in-Err.fault c.in-Err.ensures.exact

pub returns-in-Ok-clause-least : goal.returns-in-Ok-clause-least
returns-in-Ok-clause-least c = least c.args.program.now c.requires.order c.requires.sound c.in_ok-typing.typing c.in_ok-typing.ensures.solved

pub returns-in_ok-untyped-in-Err-clause-untypable : goal.returns-in_ok-untyped-in-Err-clause-untypable
returns-in_ok-untyped-in-Err-clause-untypable c =
    let program = c.args.program.now in
    let typing = c.in_ok-typing.typing in
    let fault = c.in-Err.fault in
    untypable_at program c.requires.order fault c.in_ok-untyped-in-Err.field-0 (fault_placed program typing fault c.in-Err.ensures.exact)
    (cannot_be_met program c.requires.order c.requires.sound typing c.in_ok-typing.ensures.solved fault c.in-Err.ensures.exact) c.in_ok-untyped-in-Err.ensures
