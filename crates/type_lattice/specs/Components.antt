-- The components of two arrays, side by side. (The Java Virtual Machine Specification, sections 4.3.2 and 4.10.1.2.)
use Rattle.std.specs.Prelude.{ℕ, ◌==◌, ◌&&◌, ◌||◌, Bool, true, false, bytes_eq, if◌then◌else◌, List, [], ◌∷◌, Option, Some, None}
use Rattle.std.specs.Option.{option_map_or}
use Rattle.bytecode_model.specs.Assigning.{named, reference_of}
use Rattle.type_lattice.specs.declared.comparing.Compared.{Compared}
use Rattle.type_lattice.specs.declared.comparing.Compared.TheVariants as compared

-- the items of both, where both are arrays
abbrev pub both_within : List ℕ → List ℕ → Option (List ℕ × List ℕ)
both_within [] b = None
both_within (c ∷ a) [] = None
both_within (c ∷ a) (d ∷ b) = if (c == 91) && (d == 91) then Some (a, b) else None

-- ---- how the one stands to the other, where it is asked so of a class or array and a class

-- the same component, or a reference and a class of which it is so
abbrev pub leaf_by : (List ℕ → List ℕ → Bool) → List ℕ → List ℕ → Bool
leaf_by asked from to = bytes_eq from to || option_map_or (λ above. option_map_or (λ below. asked below above) (reference_of from) false) (named to) false

-- components of two arrays: arrays again, or leaves
abbrev pub component_by : (List ℕ → List ℕ → Bool) → List ℕ → List ℕ → Bool
component_by asked [] to = leaf_by asked [] to
component_by asked (c ∷ from) [] = leaf_by asked (c ∷ from) []
component_by asked (c ∷ from) (d ∷ to) = if (c == 91) && (d == 91) then component_by asked from to else leaf_by asked (c ∷ from) (d ∷ to)

-- two arrays
abbrev pub array_by : (List ℕ → List ℕ → Bool) → List ℕ → List ℕ → Bool
array_by asked from to = option_map_or (λ (r : List ℕ × List ℕ). component_by asked r.0 r.1) (both_within from to) false

-- the same of components that are compared
abbrev pub answered : (List ℕ → List ℕ → Bool) → Compared → Bool
answered asked compared.Same = true
answered asked compared.Apart = false
answered asked (compared.Classes below above) = asked below.now above.now
