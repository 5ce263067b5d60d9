use Rattle.std.proofs.Common.{ℕ, List, ◌∷◌, [], get_or, take, subst, sym, arith, rules}
use Rattle.std.proofs.lemmas.List.{take_all, take_more}
use Rattle.type_infer.specs.Sending.{SendsTo}
use Rattle.type_infer.proofs.Delivering.{sends_nowhere, sends_over}
use Rattle.type_infer.proofs.sending.send_all.Goals as goal

pub loop-to-init : goal.loop-to-init
loop-to-init c =
    let scope = c.args.body.now in
    record {
      each = search rules;
      sends = λ ready. sends_nowhere scope (c.laws_hold.ensures scope.program ready.order) c.args.place.now c.args.worklist.now;
    }

pub loop-to-preserved : goal.loop-to-preserved
loop-to-preserved c =
    let scope = c.args.body.now in
    let place = c.args.place.now in
    let targets = c.args.targets.now in
    let before = take c.loop-to.to-index targets in
    let this = get_or targets c.loop-to.to-index 0 in
    record {
      each = c.in_ok-send.ensures.each;
      sends = λ ready.
          subst (λ (xs : List ℕ). SendsTo scope place xs c.args.worklist.now c.send.new.worklist) (sym (take_more targets c.loop-to.to-index 0 (omega arith)))
          (sends_over scope (c.laws_hold.ensures scope.program ready.order) place before (this ∷ []) c.args.worklist.now c.loop-to.worklist c.send.new.worklist (c.loop-to.invariant.sends ready)
          (c.in_ok-send.ensures.sends ready));
    }

pub returns-clause-sends : goal.returns-clause-sends
returns-clause-sends c ready =
    subst (λ (xs : List ℕ). SendsTo c.args.body.now c.args.place.now xs c.args.worklist.now c.loop-to.worklist) (take_all c.loop-to.to-index c.args.targets.now (omega arith))
    (c.loop-to.invariant.sends ready)
