use Rattle.std.proofs.Common.{[], sym, ◌∙◌, arith}
use Rattle.bytecode_model.specs.Makes.{type_at}
use Rattle.mon_base.proofs.Lists.{front_is}
use Rattle.bytecode_model.proofs.Lists.{rest_length}
use Rattle.code_typing.proofs.LocalsOver.{one_fits}
use Rattle.code_typing.proofs.entry.are_top.Goals as goal

pub loop-left-preserved : goal.loop-left-preserved
loop-left-preserved c =
    let program = c.args.program.now in
    let left = c.loop-left.left.now in
    let first = c.first-item.result in
    let split = front_is left first c.in-len1-up.len_at_least c.first-item.is in
    let count = rest_length left first _ split in
    let fits = sym c.borrowed_fits.ensures ∙ c.if-not-borrowed_fits.false in
    (one_fits program (type_at []) c.loop-left.j left first _ split fits ∙ c.loop-left.invariant.0, omega (arith, count, c.loop-left.invariant.1))
