use Rattle.std.proofs.Common.{◌≡◌, false, sym, ap, ◌∙◌}
use Rattle.bytecode_model.specs.InsnPlace.{calls_maker}
use Rattle.code_typing.proofs.operands.to_receiver.Goals as goal

pub returns-else-to_referred : goal.returns-else-to_referred
returns-else-to_referred c =
    let place = c.args.place.now in
    let other : calls_maker place ≡ false = ap calls_maker (sym c.insn_ref.ensures) ∙ sym c.calls_maker.ensures ∙ c.if-calls_maker.false in
    rw (other, sym c.to_referred.ensures ∙ c.if-to_referred.false) c.if-to_referred.false
