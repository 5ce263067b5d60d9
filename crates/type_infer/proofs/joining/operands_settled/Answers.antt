use Rattle.std.proofs.Common.{◌≡◌, ◌∙◌, ℕ, List, map, ap}
use Rattle.cert_format.specs.declared.typing.VType.{VType}
use Rattle.cert_format.specs.declared.typing.VType.TheVariants as types
use Rattle.insn_codec.specs.declared.shape.Heap.TheVariants as heap
use Rattle.insn_codec.specs.declared.shape.Shape.TheVariants as shapes
use Rattle.bytecode_model.specs.Makes.{type_at}
use Rattle.bytecode_model.specs.InsnPlace.{InsnPlace}
use Rattle.type_infer.specs.Solving.{unless}
use Rattle.type_infer.proofs.Lists.{if_ok}
use Rattle.type_infer.proofs.Settling.{unless_each}
use Rattle.type_infer.proofs.joining.operands_settled.Goals as goal

pub returns-in-Heap-New-clause-types : goal.returns-in-Heap-New-clause-types
returns-in-Heap-New-clause-types c =
    let place = c.args.place.now in
    let stack = c.args.stack in
    let is : c.in-Heap-New.field-0 ≡ heap.New = rw c.in-Heap-New.is at c.in-Heap-New.field-0-is in
    let shape : c.args.shape ≡ shapes.Heap heap.New = c.in-Heap-New.is ∙ ap shapes.Heap is in
    let at : c.place.inside.at ≡ place.at = ap (λ (p : InsnPlace). p.at) c.place.view_is in
    rw shape
    (if_ok c.without.result (λ (left : List VType). left ≡ map (unless (types.Uninit place.at)) stack)
    (λ (left : List VType). (j : ℕ) → type_at left j ≡ unless (types.Uninit place.at) (type_at stack j)) (λ left e. unless_each (types.Uninit place.at) stack left e)
    (rw (at, c.as_slice.ensures) at c.without.ensures))
