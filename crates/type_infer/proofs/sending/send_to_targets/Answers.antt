use Rattle.std.proofs.Common.{◌≡◌, ◌∙◌, ℕ, ◌∷◌, [], List, subst, sym, ap}
use Rattle.insn_codec.specs.Control.{jump_targets}
use Rattle.bytecode_model.specs.InsnPlace.{InsnPlace}
use Rattle.type_infer.specs.Sending.{SendsTo}
use Rattle.type_infer.proofs.Delivering.{sends_nowhere}
use Rattle.type_infer.proofs.Lists.{on_ok}
use Rattle.type_infer.proofs.Staying.{no_targets}
use Rattle.type_infer.proofs.sending.send_to_targets.Goals as goal

pub returns-in-Branch-clause-sends : goal.returns-in-Branch-clause-sends
returns-in-Branch-clause-sends c =
    let targets = ap jump_targets (sym c.in-Branch.is) ∙ ap (λ (p : InsnPlace). jump_targets p.insn) c.place.view_is in
    on_ok c.send.result (λ h ready. subst (λ (xs : List ℕ). SendsTo c.args.body.now c.args.place.now xs c.args.worklist.now c.send.new.worklist) targets (h ready)) c.send.ensures.sends

pub returns-in-GotoW-clause-sends : goal.returns-in-GotoW-clause-sends
returns-in-GotoW-clause-sends c =
    let targets = ap jump_targets (sym c.in-GotoW.is) ∙ ap (λ (p : InsnPlace). jump_targets p.insn) c.place.view_is in
    on_ok c.send-in-GotoW.result (λ h ready. subst (λ (xs : List ℕ). SendsTo c.args.body.now c.args.place.now xs c.args.worklist.now c.send-in-GotoW.new.worklist) targets (h ready)) c.send-in-GotoW.ensures.sends

pub returns-in-Table-clause-sends : goal.returns-in-Table-clause-sends
returns-in-Table-clause-sends c =
    let targets = ap jump_targets (sym c.in-Table.is) ∙ ap (λ (p : InsnPlace). jump_targets p.insn) c.place.view_is in
    on_ok c.send_each.result (λ h ready. subst (λ (xs : List ℕ). SendsTo c.args.body.now c.args.place.now xs c.args.worklist.now c.send_each.new.worklist) (ap (λ (xs : List ℕ). c.in-Table.other ∷ xs) c.as_slice.ensures ∙ targets) (h ready)) c.send_each.ensures.sends

pub returns-in-Lookup-clause-sends : goal.returns-in-Lookup-clause-sends
returns-in-Lookup-clause-sends c =
    let targets = ap jump_targets (sym c.in-Lookup.is) ∙ ap (λ (p : InsnPlace). jump_targets p.insn) c.place.view_is in
    on_ok c.send_each-in-Lookup.result (λ h ready. subst (λ (xs : List ℕ). SendsTo c.args.body.now c.args.place.now xs c.args.worklist.now c.send_each-in-Lookup.new.worklist) (ap (λ (xs : List ℕ). c.in-Lookup.other ∷ xs) c.as_slice-in-Lookup.ensures ∙ targets) (h ready)) c.send_each-in-Lookup.ensures.sends

pub returns-in_default-clause-sends : goal.returns-in_default-clause-sends
returns-in_default-clause-sends c ready =
    let scope = c.args.body.now in
    let place = c.args.place.now in
    let empty : jump_targets place.insn ≡ [] =
    ap (λ (p : InsnPlace). jump_targets p.insn) (sym c.place.view_is)
    ∙ no_targets c.place.inside.insn.now c.in_default.not-Branch c.in_default.not-GotoW c.in_default.not-Table c.in_default.not-Lookup in
    subst (λ (xs : List ℕ). SendsTo scope place xs c.args.worklist.now c.args.worklist.now) (sym empty)
    (sends_nowhere scope (c.laws_hold.ensures scope.program ready.order) place c.args.worklist.now)
