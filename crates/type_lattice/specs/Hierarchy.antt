-- Classes that are found by their names, with the ways up. (docs/TYPING.md)
use Rattle.std.specs.Prelude.{◌≡◌, ℕ, Bool, bytes_eq, List, map, find, Option, option_map, Vec}
use Rattle.std.specs.List.{list_any}
use Rattle.std.specs.BTreeMap.{BTreeMap}
use Rattle.std.specs.Global.{Global}
use Rattle.api_listing.specs.declared.types.ListedClass.{ListedClass}
use Rattle.bytecode_model.specs.Places.{ClassesPlaced, class_place}
use Rattle.bytecode_model.specs.Order.{EachWayEnds}
use Rattle.bytecode_model.specs.SearchOrder.{superclasses}

-- the class is of this name, or one of its superclasses is
abbrev pub is_up : List ListedClass → List ℕ → List ℕ → Bool
is_up classes class above = list_any (λ (c : ListedClass). bytes_eq c.name above) (superclasses classes class)

-- the first class upwards from the one that the other is below, too
abbrev pub nearest_common : List ListedClass → List ℕ → List ℕ → Option (List ℕ)
nearest_common classes a b = option_map (λ (c : ListedClass). c.name) (find (λ (c : ListedClass). is_up classes b c.name) (superclasses classes a))

-- ---- places

-- the place of the superclass of each class
abbrev pub parents_in : List ListedClass → List (Option ℕ)
parents_in classes = map (λ (c : ListedClass). class_place classes c.parent) classes

-- The classes are found by their names, and the ways are those to their superclasses.
pub record IsHierarchy (classes : List ListedClass) (places : BTreeMap (Vec ℕ Global) ℕ) (skip_pointers : List (Option ℕ)) : Type 0 where
  pub placed : ClassesPlaced places classes
  pub parents : skip_pointers ≡ parents_in classes
  pub ends : EachWayEnds classes
