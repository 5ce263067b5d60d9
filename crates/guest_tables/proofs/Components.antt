-- The components of two arrays: whether the one is of the other is asked of the classes at their end.
use Rattle.std.proofs.Common.{◌≡◌, ℕ, Bool, true, false, cond, List, [], ◌∷◌, Some, None, refl, ap}
use Rattle.std.specs.Prelude.{◌==◌, ◌&&◌}
use Rattle.std.specs.Option.{option_map_or}
use Rattle.bytecode_model.specs.declared.program.Program.{Program}
use Rattle.guest_model.specs.Kinds.{array_is, class_is, component_is, leaf_is}
use Rattle.type_lattice.specs.Components.{array_by, component_by}

component_asked : (program : Program) (from to : List ℕ) → component_is program from to ≡ component_by (class_is program) from to
component_asked program [] to = refl
component_asked program (c ∷ from) [] = refl
component_asked program (c ∷ from) (d ∷ to) =
    ap (λ (is : Bool). cond ((c == 91) && (d == 91)) is (leaf_is program (c ∷ from) (d ∷ to))) (component_asked program from to)

items_asked : (b c : Bool) (from to : List ℕ) (f : List ℕ → List ℕ → Bool) (is : Bool) → is ≡ f from to
    → (b && (c && is)) ≡ option_map_or (λ (r : List ℕ × List ℕ). f r.0 r.1) (cond (b && c) (Some (from, to)) None) false
items_asked true true from to f is e = e
items_asked true false from to f is e = refl
items_asked false c from to f is e = refl

pub array_asked : (program : Program) (from to : List ℕ) → array_is program from to ≡ array_by (class_is program) from to
array_asked program [] to = refl
array_asked program (c ∷ from) [] = refl
array_asked program (c ∷ from) (d ∷ to) = items_asked (c == 91) (d == 91) from to (component_by (class_is program)) _ (component_asked program from to)
