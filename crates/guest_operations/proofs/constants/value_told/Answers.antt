use Rattle.std.proofs.Common.{◌≡◌, Option, Some, subst, sym, rules}
use Rattle.std.specs.Prelude.{IfOk}
use Rattle.guest_heap.specs.declared.value.Value.{Value}
use Rattle.guest_operations.specs.Statics.{constant_told}
use Rattle.guest_operations.proofs.Told.{told_at}
use Rattle.guest_operations.proofs.constants.value_told.Goals as goal

pub returns-in-Some : goal.returns-in-Some
returns-in-Some c =
    let told : constant_told c.as_slice-pool.result.now c.args.field.now ≡ Some c.in-Some.constant.now = grind rules in
    subst (λ (o : Option Value). IfOk c.value_of_constant.result (λ t. t ≡ o))
    (sym (told_at c.args.program.now c.args.file.now c.args.field.now c.as_slice-pool.result.now c.text_at.result.now c.in-Some.constant.now c.as_slice-pool.ensures c.text_at.ensures told))
    c.value_of_constant.ensures
