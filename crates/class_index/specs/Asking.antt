-- Interfaces that ask for methods of the library. (docs/LINKING.md)
use Rattle.std.specs.Prelude.{◌≡◌, ℕ, Bool, false, ◌&&◌, List, map, Option, Some, slice_get}
use Rattle.std.specs.BTreeMap.{BTreeMap, get}
use Rattle.std.specs.Cmp.Lexicographic.{slice_cmp}
use Rattle.std.specs.List.{list_any}
use Rattle.std.specs.Option.{option_map_or}
use Rattle.std.specs.Ordering.{nat_cmp}
use Rattle.class_codec.specs.declared.tree.Const.{Const}
use Rattle.class_codec.specs.declared.tree.Member.{Member}
use Rattle.class_codec.specs.declared.tree.ClassFile.{ClassFile}
use Rattle.api_listing.specs.declared.types.Listing.{Listing}
use Rattle.bytecode_model.specs.Conditions.{id_of, is_of_library}
use Rattle.bytecode_model.specs.Heads.{is_interface}
use Rattle.bytecode_model.specs.LeftMethods.{asked_by_named, is_asked}
use Rattle.bytecode_model.specs.Members.{in_class}
use Rattle.bytecode_model.specs.SearchOrder.{Name}

-- an interface asks for the method, and the library has it in this class
abbrev pub is_asked_of : Listing → Name → List Const → Member → Bool
is_asked_of listing class pool member = is_asked pool member && is_of_library listing (id_of class pool member)

-- the file is of an interface that asks for a method of the class
abbrev pub asks_of : Listing → Name → ClassFile → Bool
asks_of listing class file = is_interface file.flags && list_any (is_asked_of listing class file.pool) file.methods

-- for classes of the library, whether each file is of such an interface
abbrev pub Asked : Type 0
Asked = BTreeMap Name (List Bool)

abbrev pub AreAsked : List ClassFile → Listing → Asked → Type 0
AreAsked files listing asked = (class : Name) (flags : List Bool) → get (slice_cmp nat_cmp) asked class ≡ Some flags → flags ≡ map (asks_of listing class) files

-- whether the flag at a place is set, if there is one
abbrev pub is_set_at : List Bool → Option ℕ → Bool
is_set_at flags place = option_map_or (λ (at : ℕ). option_map_or (λ (b : Bool). b) (slice_get flags at) false) place false

-- The given interface of this name, if there is one, asks for no method of the class.
abbrev pub AsksNothing : List ClassFile → Listing → Name → Name → Type 0
AsksNothing files listing interface class = list_any (λ id. is_of_library listing (in_class id class)) (asked_by_named files interface) ≡ false

-- No interface of the files does.
abbrev pub IsUnasked : List ClassFile → Listing → Name → Type 0
IsUnasked files listing class = (interface : Name) → AsksNothing files listing interface class
