-- What a listing knows: its classes, and the indices of its methods. (docs/RECORDS.md)
use Rattle.std.specs.Prelude.{◌≡◌, ℕ, Bool, List, Option, Some, None, if◌then◌else◌}
use Rattle.std.specs.Option.{option_or}
use Rattle.std.specs.Borrow.{Bor}
use Rattle.std.specs.BTreeMap.{BTreeMap, get_by}
use Rattle.std.specs.BTreeSet.{BTreeSet, contains_by}
use Rattle.std.specs.Cmp.Lexicographic.{slice_cmp}
use Rattle.std.specs.Ordering.{nat_cmp}
use Rattle.mon_base.specs.declared.method.MethodId.{MethodId}
use Rattle.api_listing.specs.declared.types.ListedMethod.{ListedMethod}
use Rattle.api_listing.specs.declared.types.Listing.{Listing}
use Rattle.api_listing.specs.BuiltIn.{is_method}
use Rattle.api_listing.specs.Listing.{is_known}
use Rattle.api_listing.specs.Nearest.{declared_in}
use Rattle.api_listing.specs.Seen.{id_cmp}
use Rattle.event_record.specs.declared.names.MethodName.{MethodName}
use Rattle.event_record.specs.declared.names.Names.{Names}

-- whether a class is known, and the index of a method
pub record Library : Type 0 where
  pub knows : List ℕ → Bool
  pub finds : MethodId → Option ℕ

-- the index of the method that the class declares under the name and descriptor
abbrev pub index_in : List ListedMethod → MethodId → Option ℕ
index_in methods id = declared_in methods id.name id.desc id.class

abbrev pub library_of : Listing → Library
library_of listing = record { knows = is_known listing.classes; finds = index_in listing.methods }

-- ---- the same, in an ordered set and an ordered map

-- whether the set has the class
abbrev pub class_listed : BTreeSet (Bor (List ℕ)) → List ℕ → Bool
class_listed classes name = contains_by (λ key. slice_cmp nat_cmp name key.now) classes

-- the name whose words these are
abbrev pub id_in : MethodName → MethodId
id_in name = record { class = name.class.now; name = name.name.now; desc = name.desc.now }

-- the index of the method in the map
abbrev pub place_listed : BTreeMap MethodName ℕ → MethodId → Option ℕ
place_listed methods id = get_by (λ key. id_cmp id (id_in key)) methods

abbrev pub library_in : Names → Library
library_in names = record { knows = class_listed names.classes; finds = place_listed names.methods }

-- They have what the listing has.
pub record AreNames (listing : Listing) (names : Names) : Type 0 where
  pub classes : (q : List ℕ) → class_listed names.classes q ≡ is_known listing.classes q
  pub methods : (q : MethodId) → place_listed names.methods q ≡ index_in listing.methods q

-- the index that one method gives
abbrev pub index_of_one : MethodId → ℕ → MethodId → Option ℕ
index_of_one id index q = if is_method q.class q.name q.desc id then Some index else None

-- A method more, with its index, counts where its name is new.
abbrev pub AddsFirst : BTreeMap MethodName ℕ → BTreeMap MethodName ℕ → MethodId → ℕ → Type 0
AddsFirst old new id index = (q : MethodId) → place_listed new q ≡ option_or (place_listed old q) (index_of_one id index q)
