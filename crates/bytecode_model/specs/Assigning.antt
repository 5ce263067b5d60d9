-- Which type may stand in the place of which. (The Java Virtual Machine Specification, section 4.10.1.2.)
use Rattle.std.specs.Prelude.{ℕ, ◌-◌, Bool, true, false, not, ◌==◌, ◌&&◌, ◌||◌, nat_lt, bytes_eq, slice_index, take, if◌then◌else◌, List, [], ◌∷◌, length, Option, Some, None}
use Rattle.std.specs.Option.{option_map_or}
use Rattle.api_listing.specs.BuiltIn.{object}
use Rattle.bytecode_model.specs.declared.program.Program.{Program}
use Rattle.cert_format.specs.declared.typing.VType.{VType}
use Rattle.cert_format.specs.declared.typing.VType.TheVariants as types
use Rattle.bytecode_model.specs.Classes.{is_below, is_interface}
use Rattle.bytecode_model.specs.Arrays.{is_array}

-- ---- references, by the name of their class or the descriptor of their array

-- Each reference is assignable to itself, to Object and to each interface, and a class to its superclasses.
abbrev pub class_fits : Program → List ℕ → List ℕ → Bool
class_fits program from to =
    bytes_eq from to || (bytes_eq to object || (is_interface program to || (not (is_array from) && is_below program from to)))

-- the name, where it is none of an array
abbrev pub class_name : List ℕ → Option (List ℕ)
class_name name = if is_array name then None else Some name

-- the name in a component `Lname;`; a class is not named as an array is
abbrev pub named : List ℕ → Option (List ℕ)
named [] = None
named (c ∷ rest) = if (c == 76) && (nat_lt 0 (length rest) && (slice_index rest (length rest - 1) == 59)) then class_name (take (length rest - 1) rest) else None

-- a component that is a class or an array, as a name of the class or array
abbrev pub reference_of : List ℕ → Option (List ℕ)
reference_of component = if is_array component then Some component else named component

-- the same component, or a reference that is assignable to a class
abbrev pub leaf_fits : Program → List ℕ → List ℕ → Bool
leaf_fits program from to = bytes_eq from to || option_map_or (λ above. option_map_or (λ below. class_fits program below above) (reference_of from) false) (named to) false

-- components of two arrays: arrays again, or leaves
abbrev pub component_fits : Program → List ℕ → List ℕ → Bool
component_fits program [] to = leaf_fits program [] to
component_fits program (c ∷ from) [] = leaf_fits program (c ∷ from) []
component_fits program (c ∷ from) (d ∷ to) = if (c == 91) && (d == 91) then component_fits program from to else leaf_fits program (c ∷ from) (d ∷ to)

abbrev pub array_fits : Program → List ℕ → List ℕ → Bool
array_fits program [] to = false
array_fits program (c ∷ from) [] = false
array_fits program (c ∷ from) (d ∷ to) = (c == 91) && ((d == 91) && component_fits program from to)

-- a class or an array, by name
abbrev pub name_fits : Program → List ℕ → List ℕ → Bool
name_fits program from to = class_fits program from to || array_fits program from to

-- ---- types

-- Each type is assignable to itself and to Top, Null to each reference, and a reference by its class or component.
abbrev pub assignable : Program → VType → VType → Bool
assignable program from types.Top = true
assignable program types.Int types.Int = true
assignable program types.Null types.Null = true
assignable program types.Null (types.Ref to) = true
assignable program (types.Ref from) (types.Ref to) = name_fits program from to
assignable program types.UninitThis types.UninitThis = true
assignable program (types.Uninit i) (types.Uninit j) = i == j
assignable program from to = false
