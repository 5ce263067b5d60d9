use Rattle.std.proofs.Common.{◌≡◌, ◌∙◌, false, ap, sym}
use Rattle.std.specs.List.{list_any}
use Rattle.cert_format.specs.declared.typing.VType.TheVariants as types
use Rattle.insn_codec.specs.declared.shape.Heap.TheVariants as heap
use Rattle.insn_codec.specs.declared.shape.Shape.TheVariants as shapes
use Rattle.insn_codec.specs.Shapes.{shape_of}
use Rattle.bytecode_model.specs.InsnPlace.{InsnPlace}
use Rattle.bytecode_model.specs.Rules.{has_object}
use Rattle.type_infer.specs.Unmade.{is_unmade}
use Rattle.type_infer.proofs.Unmade.{kept_by_call, kept_by_new, is_not}
use Rattle.type_infer.proofs.leaving.keeps_locals.Goals as goal

pub returns-in-Heap-New : goal.returns-in-Heap-New
returns-in-Heap-New c h =
    let place = c.args.place.now in
    let frame = c.args.frame.now in
    let is : c.in-Heap-New.field-0 ≡ heap.New = c.in-Heap-New.field-0-is in
    let shape : shape_of place.insn ≡ shapes.Heap heap.New =
    ap (λ (p : InsnPlace). shape_of p.insn) (sym c.place.view_is) ∙ sym c.shape_of.ensures ∙ c.in-Heap-New.is ∙ ap shapes.Heap is in
    let at : c.place.inside.at ≡ place.at = ap (λ (p : InsnPlace). p.at) c.place.view_is in
    let free : has_object (types.Uninit place.at) frame.locals ≡ false =
    rw (at, c.as_slice.ensures) at (sym c.has_new.ensures ∙ is_not _ h) in
    kept_by_new place frame shape free

pub returns-else-not-makes_object : goal.returns-else-not-makes_object
returns-else-not-makes_object c h =
    let place = c.args.place.now in
    let frame = c.args.frame.now in
    let is : c.in-Heap-Call.field-0 ≡ heap.Call c.in-Heap-Call.field-0-0 = c.in-Heap-Call.field-0-is in
    let shape : shape_of place.insn ≡ shapes.Heap (heap.Call c.in-Heap-Call.field-0-0) =
    ap (λ (p : InsnPlace). shape_of p.insn) (sym c.place.view_is) ∙ sym c.shape_of.ensures ∙ c.in-Heap-Call.is ∙ ap shapes.Heap is in
    let free : list_any is_unmade frame.locals ≡ false = rw c.as_slice-else-not-makes_object.ensures at (sym c.has_unmade.ensures ∙ is_not _ h) in
    kept_by_call place frame c.in-Heap-Call.field-0-0 shape free
