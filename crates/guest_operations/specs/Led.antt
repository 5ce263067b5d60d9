-- Where a reference leads that is to be an array. (docs/MACHINE.md)
use Rattle.std.specs.Prelude.{◌≡◌, List, slice_get, Some, None, Err}
use Rattle.guest_heap.specs.declared.object.Object.{Object}
use Rattle.guest_heap.specs.declared.object.Object.TheVariants as objects
use Rattle.guest_model.specs.Parts.{null_pointer}
use Rattle.guest_model.specs.HeapOperations.{ArrayAt, HeapResult}
use Rattle.guest_operations.specs.declared.arrays.Led.{Led}
use Rattle.guest_operations.specs.declared.arrays.Led.TheVariants as leads

-- what is done with the array; null throws
abbrev pub led : Led → (ArrayAt → HeapResult) → HeapResult
led leads.Nowhere f = None
led leads.Null f = Some (Err null_pointer)
led (leads.Array at desc items) f = f (record { at = at; desc = desc.now; items = items.now })

-- The array stands on the heap.
abbrev pub IsOf : List Object → Led → Type 0
IsOf heap leads.Nowhere = Unit {0}
IsOf heap leads.Null = Unit {0}
IsOf heap (leads.Array at desc items) = slice_get heap at ≡ Some (objects.Array desc.now items.now)
