-- The fields and items of objects. (docs/MACHINE.md)
use Rattle.std.specs.Prelude.{ℕ, ◌<◌, List, [], length, slice_get, slice_set}
use Rattle.std.specs.Option.{option_map_or}
use Rattle.guest_heap.specs.declared.value.Value.{Value}
use Rattle.guest_heap.specs.declared.object.Object.{Object}
use Rattle.guest_heap.specs.declared.object.Object.TheVariants as objects

-- the fields of an object, or the items of an array
abbrev pub places_of : Object → List Value
places_of (objects.Plain class fields target thread) = fields
places_of (objects.Array desc items) = items
places_of (objects.Text text) = []

-- the object with these fields or items
abbrev pub with_places : Object → List Value → Object
with_places (objects.Plain class fields target thread) new = objects.Plain class new target thread
with_places (objects.Array desc items) new = objects.Array desc new
with_places (objects.Text text) new = objects.Text text

abbrev pub places_at : List Object → ℕ → List Value
places_at heap at = option_map_or places_of (slice_get heap at) []

abbrev pub with_value : ℕ → Value → Object → Object
with_value place value object = with_places object (slice_set (places_of object) place value)

-- the heap with a field or item of an object set
abbrev pub with_value_at : List Object → ℕ → ℕ → Value → List Object
with_value_at heap at place value = option_map_or (λ object. slice_set heap at (with_value place value object)) (slice_get heap at) heap

-- the object has the place
pub record HasPlace (heap : List Object) (at place : ℕ) : Type 0 where
  pub object : at < length heap
  pub there : place < length (places_at heap at)
