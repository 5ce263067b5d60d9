use Rattle.std.proofs.Common.{List, get_or, slice_get, ap, ◌∙◌, arith}
use Rattle.std.specs.List.{cons_option}
use Rattle.std.proofs.lemmas.Grind.{common_steps}
use Rattle.guest_heap.specs.Stack.{Operands}
use Rattle.guest_heap.specs.declared.value.Value.{Value}
use Rattle.guest_frames.proofs.Putting.{kept_few, put_first}
use Rattle.guest_frames.proofs.operands.+put_back.Goals as goal

pub put-requires : goal.put-requires
put-requires t c = grind (arith, common_steps, kept_few)

pub returns : goal.returns
returns t c =
    let put_on : Operands → Operands = λ stack. record { items = cons_option (slice_get c.args.top.now (get_or c.args.order.now 0 0)) stack.items; size = stack.size } in
    let with_size : List Value → Operands = λ items. record { items = items; size = c.args.stack.now.size } in
    c.put.ensures ∙ ap put_on c.put_back.ensures
    ∙ ap with_size (put_first c.args.top.now c.args.order.now c.args.stack.now.items c.in-len1-up.len_at_least)
