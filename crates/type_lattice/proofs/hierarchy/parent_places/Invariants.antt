use Rattle.std.proofs.Common.{◌≡◌, map, take}
use Rattle.api_listing.specs.declared.types.ListedClass.{ListedClass}
use Rattle.bytecode_model.specs.Places.{class_place}
use Rattle.type_lattice.proofs.hierarchy.parent_places.Given as goal

abbrev pub invariant-loop-class : goal.invariant-loop-class
invariant-loop-class l = l.parents.items ≡ map (λ (c : ListedClass). class_place l.classes c.parent) (take l.class-index l.classes)
