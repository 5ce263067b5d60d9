-- Which classes may have methods of the library, and lists of those above a class. (docs/LINKING.md)
use Rattle.std.specs.Prelude.{◌≡◌, ℕ, ◌≤◌, ◌||◌, ◌&&◌, not, true, Bool, List, ◌++◌, bytes_eq, nat_eq, codes, Some, slice_get}
use Rattle.std.specs.List.{list_all, list_any, starts_with, filter}
use Rattle.std.specs.BTreeSet.{BTreeSet}
use Rattle.mon_base.specs.declared.method.MethodId.{MethodId}
use Rattle.api_listing.specs.declared.types.ListedClass.{ListedClass}
use Rattle.api_listing.specs.declared.types.Listing.{Listing}
use Rattle.api_listing.specs.declared.types.ListedMethod.{ListedMethod}
use Rattle.api_listing.specs.BuiltIn.{runnable}
use Rattle.api_listing.specs.Nearest.{interfaces_of, names_of, upwards}
use Rattle.api_listing.specs.Seen.{has_name}
use Rattle.bytecode_model.specs.Conditions.{overrides_in}
use Rattle.bytecode_model.specs.ByName.{noted}
use Rattle.bytecode_model.specs.SearchOrder.{Name, interfaces_above, interfaces_from}
use Rattle.class_index.specs.declared.library.Above.{Above}
use Rattle.class_index.specs.declared.library.Shared.{Shared}

-- whether one of the methods is of the class
abbrev pub is_owner : List ListedMethod → List ℕ → Bool
is_owner methods class = list_any (λ (m : ListedMethod). bytes_eq m.id.class class) methods

-- the names with which the classes of Java's own library begin
abbrev pub java_lang : List ℕ
java_lang = codes "java/lang/"

-- a class of Java's own library, other than Runnable, whose one method counts for nothing
abbrev pub is_of_java : Name → Bool
is_of_java class = starts_with nat_eq class java_lang && not (bytes_eq class runnable)

-- the classes that a listing gives methods
abbrev pub Owners : Type 0
Owners = BTreeSet (List ℕ)

-- The class is one of the owners, or one of Java's own library.
abbrev pub may_own : Owners → List ℕ → Bool
may_own owners class = has_name owners class || is_of_java class

-- ---- interfaces with no method of the library above them

-- sets of interfaces
abbrev pub Interfaces : Type 0
Interfaces = BTreeSet (List ℕ)

-- The interface may have no method of the library, and those above it are of the set.
abbrev pub is_memberless : Owners → List ListedClass → Interfaces → Name → Bool
is_memberless owners classes memberless name = not (may_own owners name) && list_all (has_name memberless) (interfaces_above classes name)

-- It is so of each of the set.
abbrev pub AreMemberless : Owners → List ListedClass → Interfaces → Type 0
AreMemberless owners classes memberless = (name : Name) → has_name memberless name ≡ true → is_memberless owners classes memberless name ≡ true

-- ---- lists that classes share

-- A method of the library is found among some classes exactly where it is found among all.
abbrev pub OverridesAs : Listing → List (List ℕ) → List (List ℕ) → Type 0
OverridesAs listing some all = (id : MethodId) → overrides_in listing id some ≡ overrides_in listing id all

-- the classes in which a member of the class is looked for, not more than n superclasses up
abbrev pub order_up : List ListedClass → ℕ → Name → List Name
order_up classes n name = names_of (upwards n classes name) ++ interfaces_from classes (interfaces_of (upwards n classes name))

-- those of them that may have methods of the library
abbrev pub owners_up : Owners → List ListedClass → ℕ → Name → List Name
owners_up owners classes n name = filter (may_own owners) (order_up classes n name)

-- The list of this place has them, however far one goes up from this height on.
pub record IsShared (owners : Owners) (classes : List ListedClass) (lists : List (List Name)) (name : Name) (above : Above) : Type 0 where
  pub names : List Name
  pub there : slice_get lists above.place ≡ Some names
  pub are : (n : ℕ) → above.height ≤ n → owners_up owners classes n name ≡ names

-- It is so of each class whose list is known, and the interfaces are quiet.
pub record AreShared (owners : Owners) (classes : List ListedClass) (shared : Shared) : Type 0 where
  pub known : (name : Name) (above : Above) → noted shared.places name ≡ Some above → IsShared owners classes shared.lists name above
  pub memberless : AreMemberless owners classes shared.memberless
