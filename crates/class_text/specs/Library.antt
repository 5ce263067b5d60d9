-- Ordered maps of a listing, from which each look-up gives what a scan of the listing gives. (docs/COMMANDS.md)
use Rattle.std.specs.Prelude.{◌≡◌, ℕ, List, Option, Vec}
use Rattle.std.specs.BTreeMap.{BTreeMap, get}
use Rattle.std.specs.Global.{Global}
use Rattle.mon_base.specs.declared.method.MethodId.{MethodId}
use Rattle.api_listing.specs.declared.types.ListedMethod.{ListedMethod}
use Rattle.api_listing.specs.declared.types.Listing.{Listing}
use Rattle.api_listing.specs.Nearest.{declared_in}
use Rattle.api_listing.specs.Seen.{id_cmp}
use Rattle.bytecode_model.specs.Places.{ClassesPlaced}

abbrev pub method_in : BTreeMap MethodId ℕ → MethodId → Option ℕ
method_in places id = get id_cmp places id

-- The map has the place of the first method of each class, name and descriptor.
abbrev pub MethodsPlaced : BTreeMap MethodId ℕ → List ListedMethod → Type 0
MethodsPlaced places methods = (q : MethodId) → method_in places q ≡ declared_in methods q.name q.desc q.class

pub record IsLibrary (classes : BTreeMap (Vec ℕ Global) ℕ) (methods : BTreeMap MethodId ℕ) (listing : Listing) : Type 0 where
  pub classes_placed : ClassesPlaced classes listing.classes
  pub methods_placed : MethodsPlaced methods listing.methods
