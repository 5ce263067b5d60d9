-- How a heap grows: objects come, none goes, and each keeps its class. (docs/PROMISES.md)
use Rattle.std.specs.Prelude.{◌≡◌, ℕ, List, slice_get, Some, option_map}
use Rattle.guest_heap.specs.declared.object.Object.{Object}
use Rattle.guest_model.specs.Kinds.{class_of_object}

abbrev pub Grows : List Object → List Object → Type 0
Grows heap new =
    (at : ℕ) (object : Object) → slice_get heap at ≡ Some object → option_map class_of_object (slice_get new at) ≡ Some (class_of_object object)
