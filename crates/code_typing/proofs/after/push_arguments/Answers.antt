use Rattle.std.proofs.Common.{◌-◌, ◌+◌, ◌++◌, [], ◌∷◌, List, map, sym, ap, ◌∙◌}
use Rattle.std.proofs.lemmas.List.{append_assoc, append-nil}
use Rattle.cert_format.specs.declared.typing.VType.{VType}
use Rattle.bytecode_model.specs.Described.{Descriptor, type_described, types_at}
use Rattle.frame_types.proofs.Describing.{types_some, types_end, types_over}
use Rattle.code_typing.proofs.after.push_arguments.Goals as goal

pub returns-in_default : goal.returns-in_default
returns-in_default c =
    let none = types_end (255 - c.loop.counter) c.loop.text.now (sym c.in_default.ensures) in
    sym (append-nil c.loop.out) ∙ sym (ap (λ (t : List Descriptor). c.loop.out ++ map type_described t) none) ∙ c.loop.invariant

pub loop-preserved : goal.loop-preserved
loop-preserved c =
    let step = types_some 255 c.loop.counter c.loop.text.now _ c.loop-test.true (sym c.in-Some.ensures) in
    let later = map type_described (types_at (255 - (c.loop.counter + 1)) c.in-Some.following.now) in
    ap (λ (l : List VType). l ++ later) c.in_ok-push.ensures.ok
    ∙ ap (λ (t : VType). (c.loop.out ++ t ∷ []) ++ later) (c.in_ok-argument.ensures ∙ c.type_described.ensures)
    ∙ append_assoc c.loop.out (type_described c.in-Some.desc.now ∷ []) later
    ∙ sym (ap (λ (t : List Descriptor). c.loop.out ++ map type_described t) step) ∙ c.loop.invariant

pub returns : goal.returns
returns c =
    let none = types_over 255 c.loop.counter c.loop.text.now c.loop-test.false in
    sym (append-nil c.loop.out) ∙ sym (ap (λ (t : List Descriptor). c.loop.out ++ map type_described t) none) ∙ c.loop.invariant
