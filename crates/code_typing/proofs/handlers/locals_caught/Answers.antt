use Rattle.std.proofs.Common.{sym, ap, ◌∙◌, arith}
use Rattle.cert_format.specs.declared.typing.VType.{VType}
use Rattle.bytecode_model.specs.Assigning.{assignable}
use Rattle.bytecode_model.specs.Rules.{local_caught}
use Rattle.mon_base.proofs.Lists.{front_is}
use Rattle.bytecode_model.proofs.Lists.{rest_length}
use Rattle.code_typing.proofs.LocalsOver.{one_fits}
use Rattle.code_typing.proofs.handlers.locals_caught.Goals as goal

pub loop-left-preserved : goal.loop-left-preserved
loop-left-preserved c =
    let program = c.args.program.now in
    let left = c.loop-left.left.now in
    let first = c.first-item.result in
    let split = front_is left first c.in-len1-up.len_at_least c.first-item.is in
    let count = rest_length left first _ split in
    let fits = ap (λ (t : VType). assignable program t first) (sym c.local_caught.ensures) ∙ sym c.borrowed_fits.ensures ∙ c.if-not-borrowed_fits.false in
    (one_fits program (local_caught c.args.locals.now) c.loop-left.j left first _ split fits ∙ c.loop-left.invariant.0, omega (arith, count, c.loop-left.invariant.1))
