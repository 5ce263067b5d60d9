-- The nearest class that declares a member, read off an array of each class. (docs/LINKING.md)
use Rattle.std.specs.Prelude.{◌≡◌, ℕ, zero, suc, ◌<◌, ◌≤◌, ◌^◌, List, [], Option, Some, None, is_some, slice_get}
use Rattle.std.specs.BTreeMap.{BTreeMap, get, is_at, btree_map_len}
use Rattle.std.specs.Cmp.Lexicographic.{slice_cmp}
use Rattle.std.specs.Map.{lookup}
use Rattle.std.specs.Option.{option_and_then, unwrap_or}
use Rattle.std.specs.Ordering.{nat_cmp}
use Rattle.mon_base.specs.declared.method.MethodId.{MethodId}
use Rattle.api_listing.specs.declared.types.ListedClass.{ListedClass}
use Rattle.api_listing.specs.Nearest.{names_of, upwards}
use Rattle.api_listing.specs.Seen.{id_cmp}
use Rattle.class_codec.specs.declared.tree.Const.{Const}
use Rattle.class_codec.specs.declared.tree.Const.TheVariants as constants
use Rattle.bytecode_model.specs.declared.members.Found.{Found}
use Rattle.bytecode_model.specs.declared.members.MemberKind.{MemberKind}
use Rattle.bytecode_model.specs.declared.members.MemberKind.TheVariants as kinds
use Rattle.bytecode_model.specs.ByName.{noted}
use Rattle.bytecode_model.specs.Members.{first_found, in_class}
use Rattle.bytecode_model.specs.SearchOrder.{Name}
use Rattle.mon_base.specs.Persistent.{item_at, has_number}
use Rattle.mon_base.specs.declared.persistent.Halves.{Halves}
use Rattle.class_index.specs.declared.nearest.Version.{Version}
use Rattle.class_index.specs.declared.nearest.Versions.{Versions}

-- ---- references

-- the constants of a method's class and of its name and descriptor, where the constant refers to a method
abbrev pub method_reference : Const → Option (ℕ × ℕ)
method_reference (constants.Method class member) = Some (class, member)
method_reference (constants.IMethod class member) = Some (class, member)
method_reference other = None

-- the same of a field
abbrev pub field_reference : Const → Option (ℕ × ℕ)
field_reference (constants.Field class member) = Some (class, member)
field_reference other = None

abbrev pub reference : MemberKind → Const → Option (ℕ × ℕ)
reference kinds.Method constant = method_reference constant
reference kinds.Field constant = field_reference constant

-- ---- numbers of names and descriptors

abbrev pub Numbers : Type 0
Numbers = BTreeMap MethodId ℕ

-- the number of a member's name and descriptor, which are noted without a class
abbrev pub member_number : Numbers → MethodId → Option ℕ
member_number numbers id = get id_cmp numbers (in_class id [])

-- Each number is below their count, and no two are one.
pub record AreNumbers (numbers : Numbers) : Type 0 where
  pub below : (q : MethodId) (n : ℕ) → get id_cmp numbers q ≡ Some n → n < btree_map_len numbers
  pub apart : (p q : MethodId) (n : ℕ) → get id_cmp numbers p ≡ Some n → get id_cmp numbers q ≡ Some n → p ≡ q

-- numbers of what classes declare themselves
abbrev pub ByClass : Type 0
ByClass = BTreeMap Name (List ℕ)

abbrev pub own_of : ByClass → Name → List ℕ
own_of own class = unwrap_or (get (slice_cmp nat_cmp) own class) []

-- Each class has the numbers of what it declares, as far as that has a number.
abbrev pub AreOwn : ByClass → Numbers → List (MethodId × Found) → Type 0
AreOwn own numbers declared = (id : MethodId) (n : ℕ) → member_number numbers id ≡ Some n
    → has_number (own_of own id.class) n ≡ is_some (lookup (is_at (id_cmp id)) declared)

-- ---- arrays of classes

-- what an item tells of a member: 0 that no class declares it, and else in which of the classes it is found
abbrev pub item_tells : (MethodId → Option Found) → List ListedClass → MethodId → ℕ → Option Found
item_tells look classes id zero = None
item_tells look classes id (suc place) = option_and_then (λ c. look (in_class id c.name)) (slice_get classes place)

-- The item of this number tells what the class and its superclasses have, however far one goes up from this height on.
pub record Tells (look : MethodId → Option Found) (classes : List ListedClass) (nodes : List Halves) (depth : ℕ) (name : Name) (version : Version) (id : MethodId) (number : ℕ) : Type 0 where
  pub item : ℕ
  pub there : item_at nodes depth version.root number ≡ Some item
  pub tells : (n : ℕ) → version.height ≤ n → item_tells look classes id item ≡ first_found look id (names_of (upwards n classes name))

-- It is so of each member that has a number.
abbrev pub IsVersion : (MethodId → Option Found) → Numbers → List ListedClass → Versions → Name → Version → Type 0
IsVersion look numbers classes versions name version = (id : MethodId) (n : ℕ) → member_number numbers id ≡ Some n
    → Tells look classes versions.nodes versions.depth name version id n

-- It is so of each class whose array is known, and the array with root 0 has room for all numbers and no other item.
pub record AreVersions (look : MethodId → Option Found) (numbers : Numbers) (classes : List ListedClass) (versions : Versions) : Type 0 where
  pub numbered : AreNumbers numbers
  pub enough : btree_map_len numbers ≤ 2 ^ versions.depth
  pub empty : slice_get versions.nodes 0 ≡ Some (record { even = 0; odd = 0 })
  pub known : (name : Name) (version : Version) → noted versions.places name ≡ Some version → IsVersion look numbers classes versions name version
