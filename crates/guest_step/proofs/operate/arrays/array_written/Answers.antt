use Rattle.std.proofs.Common.{◌≡◌, Some, length, drop, rules}
use Rattle.std.specs.Prelude.{slice_get}
use Rattle.guest_model.specs.Changes.{World}
use Rattle.guest_model.specs.HeapOperations.{ArrayAt, item_kind, number_operand, operand_of, place_among}
use Rattle.guest_operations.specs.Operates.{at, with_monitors}
use Rattle.guest_step.specs.Writing.{comes_of}
use Rattle.guest_step.proofs.Writing.{item_goes}
use Rattle.guest_step.proofs.operate.arrays.array_written.Goals as goal

pub returns-in-Some-clause-comes : goal.returns-in-Some-clause-comes
returns-in-Some-clause-comes c statics monitors =
    let world : World = with_monitors (at c.args.heap.now statics c.args.stack.now) monitors in
    let items = c.args.stack.now.items in
    let a : ArrayAt = record { at = c.in-Array.at; desc = c.in-Array.desc.now; items = c.in-Array.items.now } in
    let value : operand_of (item_kind c.args.item) items 0 ≡ Some c.in_ok-value.value = grind rules in
    let index : number_operand items 1 ≡ Some c.in_ok-index.index = grind rules in
    let array : slice_get items 2 ≡ Some c.in_ok-array.array = grind rules in
    let place : place_among (length c.in-Array.items.now) c.in_ok-index.index ≡ Some c.in-Some.place = grind rules in
    item_goes c.args.item c.args.guest.now world items c.in_ok-value.value c.in_ok-index.index c.in_ok-array.array a c.in-Some.place
    (comes_of world (drop 3 items) (Some c.item_written.result)) value index array c.in-Array.ensures.led place
    (c.item_written.ensures.comes statics monitors c.args.stack.now c.in-Array.items.now (drop 3 items))
