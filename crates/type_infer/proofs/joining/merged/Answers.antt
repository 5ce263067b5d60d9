use Rattle.std.proofs.Common.{◌≡◌, ◌≤◌, Some, length, subst, ap, arith}
use Rattle.bytecode_model.specs.declared.program.Program.{Program}
use Rattle.bytecode_model.specs.Makes.{type_at}
use Rattle.cert_format.specs.declared.typing.FrameType.{FrameType}
use Rattle.bytecode_model.specs.Order.{IsInOrder}
use Rattle.bytecode_model.specs.InsnPlace.{InsnPlace}
use Rattle.type_infer.specs.Solving.{IsKept, IsRaisedBy, IsUnlessBelow, Left}
use Rattle.type_infer.proofs.Raising.{IsSettledBy, merge_from, merged_kept, merged_told}
use Rattle.type_infer.proofs.joining.merged.Goals as goal

pub returns : goal.returns
returns c =
    let place = c.args.place.now in
    let old = c.args.old.now in
    let standing : c.frame-standing.result.now ≡ old = c.frame-standing.ensures in
    let left : Left = record { locals = type_at c.args.locals; operands = c.args.stack.now } in
    let locals = c.in_ok-locals.locals in
    let stack = c.in_ok-stack.stack in
    let result = c.unless_below.result in
    let both : IsInOrder place.program
    → IsKept place.program (Some old) result × (length c.args.locals ≤ place.method.max_locals → length c.args.stack.now ≤ place.method.max_stack → IsRaisedBy place (Some old) left result)
    = λ order.
    let program : c.place.inside.program.now ≡ place.program = ap (λ (p : InsnPlace). p.program) c.place.view_is in
    let reflexive = c.assignable_is_an_order.ensures.reflexive place.program in
    let transitive = c.assignable_is_an_order.ensures.transitive place.program order in
    let itself = c.rows_follow_the_order.ensures.reflexive place.program in
    let above = c.merge_is_the_least.ensures.above place.program order in
    let least = c.merge_is_the_least.ensures.least place.program order in
    let height : length old.stack ≡ length c.args.stack.now = omega (arith, c.len.ensures, c.if-len-stack.false, ap (λ (f : FrameType). length f.stack) standing) in
    let merge =
    merge_from place reflexive transitive itself above least c.place.inside.program.now old c.args.locals c.args.stack.now locals stack program height
    c.in_ok-locals.ensures.merged c.in_ok-locals.ensures.few
    (rw standing at (rw c.as_slice.ensures at c.in_ok-stack.ensures.merged)) (rw standing at (rw c.as_slice.ensures at c.in_ok-stack.ensures.count)) in
    let told : IsSettledBy place locals stack c.in_ok-told.told =
    record {
      some = c.in_ok-told.ensures.some;
      within = c.in_ok-told.ensures.within;
      height = c.in_ok-told.ensures.height;
      types = c.in_ok-told.ensures.locals;
      stack = c.in_ok-told.ensures.stack;
    } in
    let unless = subst (λ (p : Program). IsUnlessBelow p old c.in_ok-told.told result) program (rw standing at c.unless_below.ensures) in (
      merged_kept place reflexive transitive itself above least old c.args.locals c.args.stack.now locals stack merge c.in_ok-told.told told result unless,
      merged_told place reflexive transitive itself above least old c.args.locals c.args.stack.now locals stack merge c.in_ok-told.told told result unless,
    ) in
    record { kept = λ order. (both order).0; raised = λ order few low height. (both order).1 few low }
