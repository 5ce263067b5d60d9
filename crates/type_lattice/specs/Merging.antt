-- The least type to which two are assignable. (The Java Virtual Machine Specification, section 4.10.2.2.)
use Rattle.std.specs.Prelude.{ℕ, ◌==◌, ◌&&◌, ◌||◌, bytes_eq, if◌then◌else◌, List, [], ◌∷◌, length, find}
use Rattle.std.specs.Option.{option_map_or}
use Rattle.api_listing.specs.declared.types.ListedClass.{ListedClass}
use Rattle.api_listing.specs.BuiltIn.{object}
use Rattle.api_listing.specs.Nearest.{upwards}
use Rattle.bytecode_model.specs.declared.program.Program.{Program}
use Rattle.cert_format.specs.declared.typing.VType.{VType}
use Rattle.cert_format.specs.declared.typing.VType.TheVariants as types
use Rattle.bytecode_model.specs.Arrays.{is_array}
use Rattle.bytecode_model.specs.Assigning.{reference_of}
use Rattle.bytecode_model.specs.Classes.{classes_of, is_below, is_interface}
use Rattle.bytecode_model.specs.Arrays.{described, array_of}

-- ---- two references, by the name of their class or the descriptor of their array

-- the first class upwards from the one that the other is below, too
abbrev pub class_above : Program → List ℕ → List ℕ → List ℕ
class_above program a b =
    option_map_or (λ (c : ListedClass). c.name) (find (λ (c : ListedClass). is_below program b c.name) (upwards (length (classes_of program)) (classes_of program) a)) object

-- of two classes: Object, where one is an interface
abbrev pub class_merged : Program → List ℕ → List ℕ → List ℕ
class_merged program a b = if is_interface program a || is_interface program b then object else class_above program a b

-- of two that are not both arrays: Object, where one is
abbrev pub leaf_merged : Program → List ℕ → List ℕ → List ℕ
leaf_merged program a b = if bytes_eq a b then a else if is_array a || is_array b then object else class_merged program a b

-- of two arrays of these items, which are not both arrays: the array of their merge where both are references, and
-- else what is told
abbrev pub items_merged : Program → List ℕ → List ℕ → List ℕ → List ℕ
items_merged program otherwise a b =
    if bytes_eq a b then 91 ∷ a
    else option_map_or (λ (x : List ℕ). option_map_or (λ (y : List ℕ). array_of (leaf_merged program x y)) (reference_of b) otherwise) (reference_of a) otherwise

-- of two arrays of these items; after a `[` a class is told by its descriptor
abbrev pub arrays_merged : Program → List ℕ → List ℕ → List ℕ → List ℕ
arrays_merged program otherwise [] b = items_merged program otherwise [] b
arrays_merged program otherwise (c ∷ a) [] = items_merged program otherwise (c ∷ a) []
arrays_merged program otherwise (c ∷ a) (d ∷ b) =
    if (c == 91) && (d == 91) then 91 ∷ arrays_merged program (described object) a b else items_merged program otherwise (c ∷ a) (d ∷ b)

abbrev pub names_merged : Program → List ℕ → List ℕ → List ℕ
names_merged program [] b = leaf_merged program [] b
names_merged program (c ∷ a) [] = leaf_merged program (c ∷ a) []
names_merged program (c ∷ a) (d ∷ b) = if (c == 91) && (d == 91) then arrays_merged program object a b else leaf_merged program (c ∷ a) (d ∷ b)

-- ---- types

-- That of equal types is that type, and of null and a reference the reference; of two that have nothing in common, Top.
abbrev pub merged : Program → VType → VType → VType
merged program types.Int types.Int = types.Int
merged program types.Null types.Null = types.Null
merged program types.Null (types.Ref b) = types.Ref b
merged program (types.Ref a) types.Null = types.Ref a
merged program (types.Ref a) (types.Ref b) = types.Ref (names_merged program a b)
merged program types.UninitThis types.UninitThis = types.UninitThis
merged program (types.Uninit i) (types.Uninit j) = if i == j then types.Uninit i else types.Top
merged program a b = types.Top
