use Rattle.std.proofs.Common.{sym, ◌∙◌}
use Rattle.bytecode_model.specs.Makes.{type_at}
use Rattle.code_typing.specs.Changing.{local_told}
use Rattle.code_typing.proofs.Fitting.{locals_fit-same}
use Rattle.code_typing.proofs.locals.locals_take.Goals as goal

pub returns-then-stays : goal.returns-then-stays
returns-then-stays c =
    let locals = c.args.locals.now in
    let taken = c.args.taken.now in
    c.locals_fit.ensures
    ∙ sym (locals_fit-same c.args.program.now (local_told c.args.shape c.args.change locals taken) (type_at locals) (c.stays.ensures c.if-stays.true locals taken) 0 c.args.to.now)
