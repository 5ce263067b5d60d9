use Rattle.std.proofs.Common.{◌≡◌, ℕ, ◌≤◌, Option, length, subst, sym, ap, arith}
use Rattle.std.specs.Prelude.{IfOk}
use Rattle.std.specs.Option.{option_copied}
use Rattle.bytecode_model.specs.declared.program.Method.{Method}
use Rattle.bytecode_model.specs.declared.program.Program.{Program}
use Rattle.cert_format.specs.declared.typing.FrameType.{FrameType}
use Rattle.bytecode_model.specs.Order.{IsInOrder}
use Rattle.bytecode_model.specs.Makes.{type_at}
use Rattle.type_infer.specs.Solving.{Left, IsKept, IsOfHeight, IsRaisedBy, thrown_to}
use Rattle.type_infer.proofs.Lists.{if_ok}
use Rattle.type_infer.proofs.Stepping.{same_raised}
use Rattle.type_infer.proofs.sending.caught.Goals as goal

pub returns-clause-kept : goal.returns-clause-kept
returns-clause-kept c =
    subst (λ (p : Program). IfOk c.joined.result (λ told. IsInOrder p → IsKept p (option_copied c.args.old) told)) c.requires.program c.joined.ensures.kept

pub returns-clause-raised : goal.returns-clause-raised
returns-clause-raised c =
    let place = c.args.place.now in
    let frame = c.args.told.now in
    let old = option_copied c.args.old in
    let locals = c.in_ok-locals.locals in
    let came : Left = record { locals = type_at locals; operands = c.in_ok-stack.stack } in
    let left : Left = thrown_to c.args.handler.now place frame in
    let stack : c.in_ok-stack.stack ≡ left.operands = c.in_ok-stack.ensures in
    if_ok c.joined.result
    (λ (told : Option FrameType).
    IsInOrder c.args.to.now.program → length locals ≤ c.args.to.now.method.max_locals → length c.in_ok-stack.stack ≤ c.args.to.now.method.max_stack
    → IsOfHeight old (length c.in_ok-stack.stack) → IsRaisedBy c.args.to.now old came told)
    (λ (told : Option FrameType). IsInOrder place.program → length frame.locals ≤ place.method.max_locals → 1 ≤ place.method.max_stack → IsOfHeight old 1 → IsRaisedBy c.args.to.now old left told)
    (λ told h order within room height.
    let few = subst (λ (m : Method). length locals ≤ m.max_locals) (sym c.requires.method) (omega (arith, c.in_ok-locals.ensures.within, within)) in
    let low = subst (λ (m : Method). length c.in_ok-stack.stack ≤ m.max_stack) (sym c.requires.method) (omega (arith, ap length stack)) in
    same_raised c.args.to.now old came left stack c.in_ok-locals.ensures.are told
    (h (subst IsInOrder (sym c.requires.program) order) few low (subst (λ (n : ℕ). IsOfHeight old n) (ap length (sym stack)) height))) c.joined.ensures.raised
