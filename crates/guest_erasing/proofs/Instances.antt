-- Two programs that tell the same of the classes of the client tell the same of which kind their objects and arrays are.
use Rattle.std.proofs.Common.{◌≡◌, ◌≢◌, ℕ, Bool, true, false, ◌||◌, ◌&&◌, List, [], ◌∷◌, Option, Some, None, refl, ap, ap₂}
use Rattle.std.specs.Prelude.{bytes_eq, not, ◌==◌, if◌then◌else◌}
use Rattle.std.specs.Option.{option_map_or}
use Rattle.api_listing.specs.BuiltIn.{object}
use Rattle.api_listing.specs.Listing.{own_class}
use Rattle.bytecode_model.specs.declared.program.Program.{Program}
use Rattle.bytecode_model.specs.Arrays.{is_array}
use Rattle.bytecode_model.specs.Assigning.{named, reference_of}
use Rattle.bytecode_model.specs.Classes.{classes_of, is_below, is_interface}
use Rattle.bytecode_model.specs.Conditions.{holds}
use Rattle.bytecode_model.specs.SearchOrder.{Name, is_one_of, search_order}
use Rattle.guest_model.specs.Kinds.{array_is, class_is, component_is, implements, is_kind_of, leaf_is}
use Rattle.guest_erasing.specs.Laid.{IsClientName}
use Rattle.guest_model.proofs.Options.{IfThere, is_there}
use Rattle.guest_erasing.proofs.Names.{client_other, free_other, free_rest, reference_free}

module _ (p q : Program)
    (below : (name other : Name) → name ≢ own_class → is_below p name other ≡ is_below q name other)
    (interfaces : (name : Name) → is_interface p name ≡ is_interface q name)
    (order : (name : Name) → name ≢ own_class → search_order (classes_of p) name ≡ search_order (classes_of q) name) where
  implements_same : (name other : Name) → name ≢ own_class → implements p name other ≡ implements q name other
  implements_same name other client = ap₂ ◌&&◌ (interfaces other) (ap (λ (names : List Name). is_one_of names other) (order name client))

  class_same : (name other : Name) → name ≢ own_class → class_is p name other ≡ class_is q name other
  class_same name other client =
      ap (λ (b : Bool). bytes_eq other object || (not (is_array name) && b))
      (ap₂ ◌||◌ (below name other client) (implements_same name other client))

  leaf_same : (from to : List ℕ) → holds own_class from ≡ false → leaf_is p from to ≡ leaf_is q from to
  leaf_same from to free = ap (λ (b : Bool). bytes_eq from to || b) (by (named to)) where
    refers : (above : Name) (o : Option Name) → IfThere (λ name. holds own_class name ≡ false) o
        → option_map_or (λ name. class_is p name above) o false ≡ option_map_or (λ name. class_is q name above) o false
    refers above None h = refl
    refers above (Some name) h = class_same name above (free_other name (is_there (λ n. holds own_class n ≡ false) (Some name) name h refl))

    by : (o : Option Name) → option_map_or (λ above. option_map_or (λ name. class_is p name above) (reference_of from) false) o false
        ≡ option_map_or (λ above. option_map_or (λ name. class_is q name above) (reference_of from) false) o false
    by None = refl
    by (Some above) = refers above (reference_of from) (reference_free from free)

  component_same : (from to : List ℕ) → holds own_class from ≡ false → component_is p from to ≡ component_is q from to
  component_same [] to free = leaf_same [] to free
  component_same (c ∷ from) [] free = leaf_same (c ∷ from) [] free
  component_same (c ∷ from) (d ∷ to) free = by ((c == 91) && (d == 91)) (component_same from to (free_rest own_class c from free)) where
    by : (b : Bool) → component_is p from to ≡ component_is q from to
        → (if b then component_is p from to else leaf_is p (c ∷ from) (d ∷ to))
        ≡ (if b then component_is q from to else leaf_is q (c ∷ from) (d ∷ to))
    by true inner = inner
    by false inner = leaf_same (c ∷ from) (d ∷ to) free

  array_same : (from to : List ℕ) → IsClientName from → array_is p from to ≡ array_is q from to
  array_same [] to client = refl
  array_same (c ∷ from) [] client = refl
  array_same (c ∷ from) (d ∷ to) client = by (c == 91) client where
    by : (b : Bool) → (if b then holds own_class (c ∷ from) else bytes_eq (c ∷ from) own_class) ≡ false
        → (b && ((d == 91) && component_is p from to)) ≡ (b && ((d == 91) && component_is q from to))
    by true free = ap (λ (b : Bool). (d == 91) && b) (component_same from to (free_rest own_class c from free))
    by false other = refl

  pub kind_same : (name other : Name) → IsClientName name → is_kind_of p name other ≡ is_kind_of q name other
  kind_same name other client = ap₂ ◌||◌ (class_same name other (client_other name client)) (array_same name other client)
