use Rattle.std.proofs.Common.{◌≡◌, ◌∙◌, ℕ, ◌+◌, ◌∷◌, [], Bool, List, true, false, cond, subst, sym, ap}
use Rattle.insn_codec.specs.Opcodes.{goes_on}
use Rattle.insn_codec.specs.Encoding.{opcode_of}
use Rattle.bytecode_model.specs.InsnPlace.{InsnPlace}
use Rattle.type_infer.specs.Sending.{SendsTo}
use Rattle.type_infer.proofs.Delivering.{sends_nowhere}
use Rattle.type_infer.proofs.Lists.{on_ok}
use Rattle.type_infer.proofs.sending.send_on.Goals as goal

pub returns-in-Some-clause-sends : goal.returns-in-Some-clause-sends
returns-in-Some-clause-sends c =
    let place = c.args.place.now in
    let at : c.place.inside.at ≡ place.at = ap (λ (p : InsnPlace). p.at) c.place.view_is in
    let next : c.in-Some.next ≡ place.at + 1 = c.in-Some.ensures.1 ∙ ap (λ (n : ℕ). n + 1) at in
    let insn = ap (λ (p : InsnPlace). p.insn) c.place.view_is in
    let goes : goes_on (opcode_of place.insn) ≡ true = ap goes_on (ap opcode_of (sym insn) ∙ sym c.opcode.ensures) ∙ sym c.if-not-goes_on.ensures in
    let targets = ap (λ (n : ℕ). n ∷ []) next ∙ ap (λ (b : Bool). cond b ((place.at + 1) ∷ []) []) (sym goes) in
    on_ok c.send.result (λ h ready. subst (λ (xs : List ℕ). SendsTo c.args.body.now place xs c.args.worklist.now c.send.new.worklist) targets (h ready)) c.send.ensures.sends

pub returns-then-not-goes_on-clause-sends : goal.returns-then-not-goes_on-clause-sends
returns-then-not-goes_on-clause-sends c ready =
    let scope = c.args.body.now in
    let place = c.args.place.now in
    let insn = ap (λ (p : InsnPlace). p.insn) c.place.view_is in
    let ends : goes_on (opcode_of place.insn) ≡ false = ap goes_on (ap opcode_of (sym insn) ∙ sym c.opcode.ensures) ∙ sym c.if-not-goes_on.ensures in
    subst (λ (xs : List ℕ). SendsTo scope place xs c.args.worklist.now c.args.worklist.now) (ap (λ (b : Bool). cond b ((place.at + 1) ∷ []) []) (sym ends))
    (sends_nowhere scope (c.laws_hold.ensures scope.program ready.order) place c.args.worklist.now)
