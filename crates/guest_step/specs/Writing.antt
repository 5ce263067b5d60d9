-- What comes of operands that tell where something is written. (docs/MACHINE.md)
use Rattle.std.specs.Prelude.{List, Option, Some, None, Ok, Err}
use Rattle.guest_heap.specs.declared.object.Object.{Object}
use Rattle.guest_heap.specs.declared.value.Value.{Value}
use Rattle.guest_heap.specs.Heap.{HasPlace, with_value_at}
use Rattle.guest_model.specs.Changes.{World, with_heap}
use Rattle.guest_model.specs.Exceptions.{name_of}
use Rattle.guest_model.specs.HeapOperations.{HeapResult}
use Rattle.guest_step.specs.declared.operate.arrays.Writes.{Writes}
use Rattle.guest_step.specs.declared.operate.arrays.Writes.TheVariants as writes

-- the heap with the value in its place, and the operands that are left; or an exception
abbrev pub comes_of : World → List Value → Option Writes → HeapResult
comes_of world left None = None
comes_of world left (Some (writes.Into at place value)) = Some (Ok (with_heap world (with_value_at world.heap at place value), left))
comes_of world left (Some (writes.Throws t)) = Some (Err (name_of t))

-- Where it is written, there is a place.
abbrev pub IsPlaced : List Object → Option Writes → Type 0
IsPlaced heap None = Unit {0}
IsPlaced heap (Some (writes.Into at place value)) = HasPlace heap at place
IsPlaced heap (Some (writes.Throws t)) = Unit {0}
