use Rattle.std.proofs.Common.{◌≡◌, ◌∙◌, ◌∷◌, [], Option, Some, None, subst, sym, ap, length, ℕ, ◌<◌}
use Rattle.std.specs.Prelude.{slice_get}
use Rattle.std.proofs.lemmas.Option.{slice_get_within}
use Rattle.std.specs.Option.{option_copied}
use Rattle.cert_format.specs.declared.typing.FrameType.{FrameType}
use Rattle.bytecode_model.specs.Order.{IsInOrder}
use Rattle.bytecode_model.specs.InsnPlace.{InsnPlace}
use Rattle.bytecode_model.specs.Rules.{frame_of}
use Rattle.type_infer.specs.Sending.{SendsTo}
use Rattle.type_infer.specs.Solving.{State, IsKept, left_by, place_of}
use Rattle.type_infer.proofs.Delivering.{left_sends, sends_nothing, successor_there, unreached}
use Rattle.type_infer.proofs.Kept.{among_first}
use Rattle.type_infer.proofs.Flowing.{insn_there, place_is}
use Rattle.type_infer.proofs.Stepping.{put_count}
use Rattle.type_infer.proofs.sending.send.Goals as goal

pub returns-in_default-clause-sends : goal.returns-in_default-clause-sends
returns-in_default-clause-sends c ready =
    let scope = c.args.body.now in
    let place = c.args.place.now in
    let none = sym c.place.ensures ∙ c.in_default.is in
    sends_nothing scope (c.laws_hold.ensures scope.program ready.order) place _ _ c.args.worklist.now
    (λ may to among. absurd (successor_there scope ready place.at place c.args.to c.requires.place (may c.args.to (among_first c.args.to [])) none))

pub returns-in_default-frame-clause-sends : goal.returns-in_default-frame-clause-sends
returns-in_default-frame-clause-sends c ready =
    let scope = c.args.body.now in
    let worklist = c.args.worklist.now in
    let place = c.args.place.now in
    let laws = c.laws_hold.ensures scope.program ready.order in
    let at : c.place-2.inside.at ≡ place.at = ap (λ (p : InsnPlace). p.at) c.place-2.view_is in
    let none : frame_of worklist.frames place.at ≡ None = ap (frame_of worklist.frames) (sym at) ∙ sym c.frame.ensures ∙ ap option_copied c.in_default-frame.is in
    sends_nothing scope laws place _ _ worklist (λ may to among. unreached scope laws place to left_by worklist none)

pub returns-clause-sends : goal.returns-clause-sends
returns-clause-sends c ready =
    let scope = c.args.body.now in
    let worklist = c.args.worklist.now in
    let place = c.args.place.now in
    let low = c.in-Some-frame.frame.now in
    let told = c.in_ok-new.new in
    let at : c.place-2.inside.at ≡ place.at = ap (λ (p : InsnPlace). p.at) c.place-2.view_is in
    let is : frame_of worklist.frames place.at ≡ Some low = ap (frame_of worklist.frames) (sym at) ∙ sym c.frame.ensures ∙ ap option_copied c.in-Some-frame.is in
    let placed : place_of scope c.args.to ≡ Some c.in-Some.there = sym c.place.ensures ∙ c.in-Some.is in
    let kept = λ (order : IsInOrder place.program). subst (λ (o : Option FrameType). IsKept place.program o told) c.frame-2.ensures (c.in_ok-new.ensures.kept order) in
    subst (λ (s : State). SendsTo scope place (c.args.to ∷ []) worklist s) (sym c.put.ensures)
    (left_sends scope (c.laws_hold.ensures scope.program ready.order) place worklist c.requires.place low is c.requires.frames c.requires.marks c.in-Some.there told c.args.to placed kept
    (rw c.frame-2.ensures at c.in_ok-new.ensures.raised))

pub returns-clause-each : goal.returns-clause-each
returns-clause-each c =
    let count = put_count c.args.worklist.now c.args.to c.in_ok-new.new in
    record {
      frames = ap (λ (s : State). length s.frames) c.put.ensures ∙ count.0 ∙ c.requires.frames;
      marks = ap (λ (s : State). length s.marks) c.put.ensures ∙ count.1 ∙ c.requires.marks;
    }

pub sent-requires-clause-program : goal.sent-requires-clause-program
sent-requires-clause-program c =
    let scope = c.args.body.now in
    let there : place_of scope c.args.to ≡ Some c.in-Some.there = sym c.place.ensures ∙ c.in-Some.is in
    (place_is scope c.args.to c.in-Some.there there).0 ∙ sym (place_is scope c.args.place.now.at c.args.place.now c.requires.place).0

pub sent-requires-clause-method : goal.sent-requires-clause-method
sent-requires-clause-method c =
    let scope = c.args.body.now in
    let there : place_of scope c.args.to ≡ Some c.in-Some.there = sym c.place.ensures ∙ c.in-Some.is in
    (place_is scope c.args.to c.in-Some.there there).1 ∙ sym (place_is scope c.args.place.now.at c.args.place.now c.requires.place).1

pub put-requires-clause-frames : goal.put-requires-clause-frames
put-requires-clause-frames c =
    let scope = c.args.body.now in
    let there : place_of scope c.args.to ≡ Some c.in-Some.there = sym c.place.ensures ∙ c.in-Some.is in
    let h = insn_there _ (slice_get scope.method.insns c.args.to) c.in-Some.there there in
    subst (λ (n : ℕ). c.args.to < n) (sym c.requires.frames) (slice_get_within scope.method.insns c.args.to h.0 h.1)

pub put-requires-clause-marks : goal.put-requires-clause-marks
put-requires-clause-marks c =
    let scope = c.args.body.now in
    let there : place_of scope c.args.to ≡ Some c.in-Some.there = sym c.place.ensures ∙ c.in-Some.is in
    let h = insn_there _ (slice_get scope.method.insns c.args.to) c.in-Some.there there in
    subst (λ (n : ℕ). c.args.to < n) (sym c.requires.marks) (slice_get_within scope.method.insns c.args.to h.0 h.1)
