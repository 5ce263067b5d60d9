use Rattle.std.proofs.Common.{sym, ap, ◌∙◌}
use Rattle.cert_format.specs.declared.typing.VType.{VType}
use Rattle.bytecode_model.specs.Assigning.{assignable}
use Rattle.mon_base.proofs.Lists.{front_is}
use Rattle.code_typing.specs.Changing.{change_told}
use Rattle.code_typing.proofs.StacksOver.{one_fits}
use Rattle.code_typing.proofs.following.changed_fit.Goals as goal

pub loop-from-preserved : goal.loop-from-preserved
loop-from-preserved c =
    let program = c.args.program.now in
    let from = c.loop-from.from.now in
    let to = c.loop-from.to.now in
    let first = c.first-item.result in
    let split = front_is from c.t-item.result c.in-len1-up.len_at_least c.t-item.is in
    let parts = front_is to first c.in-len1-up-to.len_at_least c.first-item.is in
    let fits = ap (λ (t : VType). assignable program t first) (sym c.change_told.ensures) ∙ sym c.borrowed_fits.ensures ∙ c.if-not-borrowed_fits.false in
    one_fits program (change_told c.args.change) from to c.t-item.result first _ _ split parts fits ∙ c.loop-from.invariant
