use Rattle.std.proofs.Common.{◌≡◌, ◌+◌, ℕ, List, length}
use Rattle.std.specs.Prelude.{bytes_eq}
use Rattle.std.specs.List.{position_from}
use Rattle.std.specs.Option.{option_or}
use Rattle.api_listing.specs.declared.types.ListedClass.{ListedClass}
use Rattle.bytecode_model.specs.ByName.{noted}
use Rattle.bytecode_model.specs.Places.{class_place}
use Rattle.bytecode_model.proofs.places.class_places.Given as goal

abbrev pub invariant-loop-left : goal.invariant-loop-left
invariant-loop-left l = record {
  found : (q : List ℕ) → option_or (noted l.places q) (position_from (λ (c : ListedClass). bytes_eq c.name q) l.index l.left) ≡ class_place l.classes q;
  count : l.index + length l.left ≡ length l.classes;
}

abbrev pub decreases-loop-left : goal.decreases-loop-left
decreases-loop-left l = length l.left
