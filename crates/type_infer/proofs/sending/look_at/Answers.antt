use Rattle.std.proofs.Common.{◌≡◌, ◌∙◌, Some, sym, ap}
use Rattle.std.specs.Option.{option_copied}
use Rattle.std.proofs.lemmas.Bool.{and_from, false≢true}
use Rattle.insn_codec.specs.Control.{jump_targets}
use Rattle.bytecode_model.specs.Rules.{frame_of}
use Rattle.type_infer.specs.Solving.{IsReady, next_of, place_of}
use Rattle.type_infer.proofs.Delivering.{all_done, sends_over, whole_grows, whole_stays}
use Rattle.type_infer.proofs.Flowing.{is_under}
use Rattle.type_infer.proofs.Lists.{on_ok}
use Rattle.type_infer.proofs.sending.look_at.Goals as goal

pub returns-then-not-is_alone_met-clause-done : goal.returns-then-not-is_alone_met-clause-done
returns-then-not-is_alone_met-clause-done c ready above row found =
    let scope = c.args.body.now in
    let place = c.in-Some.place in
    let low = c.in-Some-frame.told.now in
    let laws = c.laws_hold.ensures scope.program ready.order in
    let there : place_of scope c.args.at ≡ Some place = sym c.place.ensures ∙ c.in-Some.is in
    let is : frame_of c.args.worklist.now.frames c.args.at ≡ Some low = sym c.frame.ensures ∙ ap option_copied c.in-Some-frame.is in
    let alone = (is_under scope laws above c.args.at place low row there (found.found c.args.at low is)).alone in
    let met = and_from _ _ alone.depth (and_from _ _ alone.operand (and_from _ _ alone.local alone.made)) in
    absurd (false≢true (sym c.if-not-is_alone_met.true ∙ rw c.frame-2.ensures at c.is_alone_met.ensures ∙ met))

pub returns : goal.returns
returns c =
    let scope = c.args.body.now in
    let place = c.in-Some.place in
    let there : place_of scope c.args.at ≡ Some place = sym c.place.ensures ∙ c.in-Some.is in
    let old = c.args.worklist.now in
    let first = c.send_on.new.worklist in
    let second = c.send_to_targets.new.worklist in
    let new = c.throw_to_handlers.new.worklist in
    let last = c.throw_to_handlers.result in
    let throws = c.throw_to_handlers.ensures in
    let laws = λ (ready : IsReady scope). c.laws_hold.ensures scope.program ready.order in
    let lefts = λ (ready : IsReady scope). sends_over scope (laws ready) place (next_of place.at place.insn) (jump_targets place.insn) old first second (c.in_ok-send_on.ensures.sends ready)
    (c.in_ok-send_to_targets.ensures.sends ready) in
    record {
      each = throws.each;
      grows = on_ok last (λ h ready. whole_grows scope (laws ready) c.args.at place there old second new (lefts ready) (h ready)) throws.sends;
      found = on_ok last (λ h ready. whole_stays scope (laws ready) c.args.at place there old second new (lefts ready) (h ready)) throws.sends;
      done = on_ok last (λ h ready above row found. all_done scope (laws ready) c.args.at place there old second new (lefts ready) (h ready) above row found) throws.sends;
    }
