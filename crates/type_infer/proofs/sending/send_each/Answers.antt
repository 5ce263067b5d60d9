use Rattle.std.proofs.Common.{◌∷◌, []}
use Rattle.type_infer.proofs.Delivering.{sends_over}
use Rattle.type_infer.proofs.Lists.{on_ok}
use Rattle.type_infer.proofs.sending.send_each.Goals as goal

pub returns-clause-sends : goal.returns-clause-sends
returns-clause-sends c =
    let scope = c.args.body.now in
    on_ok c.send_all.result
    (λ later ready. sends_over scope (c.laws_hold.ensures scope.program ready.order) c.args.place.now (c.args.first ∷ []) c.args.others.now c.args.worklist.now c.send.new.worklist
    c.send_all.new.worklist (c.in_ok-send.ensures.sends ready) (later ready)) c.send_all.ensures.sends
