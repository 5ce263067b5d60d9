-- Ordered maps made once, from which each look-up gives what a plain scan gives. (docs/LINKING.md)
use Rattle.std.specs.Prelude.{◌≡◌, ℕ, List, length, Option, Vec}
use Rattle.std.specs.BTreeMap.{BTreeMap, get}
use Rattle.std.specs.BTreeSet.{BTreeSet}
use Rattle.std.specs.Global.{Global}
use Rattle.std.specs.Option.{option_or}
use Rattle.mon_base.specs.declared.method.MethodId.{MethodId}
use Rattle.class_codec.specs.declared.tree.ClassFile.{ClassFile}
use Rattle.api_listing.specs.declared.types.ListedClass.{ListedClass}
use Rattle.api_listing.specs.declared.types.Listing.{Listing}
use Rattle.api_listing.specs.Nearest.{interfaces_of}
use Rattle.api_listing.specs.Seen.{id_cmp, has_id, has_name}
use Rattle.api_listing.specs.Listing.{has_method}
use Rattle.bytecode_model.specs.declared.members.Found.{Found}
use Rattle.bytecode_model.specs.declared.members.MemberKind.{MemberKind}
use Rattle.bytecode_model.specs.declared.members.MemberKind.TheVariants as kinds
use Rattle.class_index.specs.declared.library.Shared.{Shared}
use Rattle.class_index.specs.declared.nearest.Nearest.{Nearest}
use Rattle.bytecode_model.specs.Heads.{all_classes, heads_of}
use Rattle.bytecode_model.specs.Members.{Declared, methods_declared, fields_declared, first_of}
use Rattle.bytecode_model.specs.Operands.{literals_of}
use Rattle.class_index.specs.Library.{is_owner, AreShared}
use Rattle.class_index.specs.Nearest.{AreVersions}
use Rattle.class_index.specs.InterfaceFields.{AreInterfaceFields}
use Rattle.class_index.specs.Asking.{AreAsked, Asked}
use Rattle.bytecode_model.specs.SearchOrder.{is_one_of}
use Rattle.bytecode_model.specs.Places.{ClassesPlaced}

-- ---- maps

abbrev pub found_in : BTreeMap MethodId Found → MethodId → Option Found
found_in found id = get id_cmp found id

-- the methods that are declared, or the fields
abbrev pub declared_of : MemberKind → List ClassFile → Listing → List Declared
declared_of kinds.Method files listing = methods_declared files listing
declared_of kinds.Field files listing = fields_declared files listing

-- The map has what the first declaration of each class, name and descriptor has.
abbrev pub AreFirst : List Declared → BTreeMap MethodId Found → Type 0
AreFirst declared found = (q : MethodId) → found_in found q ≡ first_of declared q

-- What is declared is noted after what the map has: the first of each name counts.
abbrev pub Notes : List Declared → BTreeMap MethodId Found → BTreeMap MethodId Found → Type 0
Notes declared old new = (q : MethodId) → found_in new q ≡ option_or (found_in old q) (first_of declared q)

-- The map has the place of the first class of each name, and the number is how many interfaces they name.
pub record AreClasses (places : BTreeMap (Vec ℕ Global) ℕ) (interfaces : ℕ) (classes : List ListedClass) : Type 0 where
  pub placed : ClassesPlaced places classes
  pub count : interfaces ≡ length (interfaces_of classes)

-- The set has these names.
abbrev pub NamesSeen : BTreeSet (List ℕ) → List (List ℕ) → Type 0
NamesSeen seen names = (q : List ℕ) → has_name seen q ≡ is_one_of names q

-- ---- the index of files and a listing

-- what an index is made of
pub record Given : Type 0 where
  pub files : List ClassFile
  pub listing : Listing

pub record IsIndex (files : List ClassFile) (listing : Listing) (classes : List ListedClass) (methods fields : BTreeMap MethodId Found) (near_methods near_fields : Nearest) (of_interfaces : BTreeSet MethodId) (library : BTreeSet MethodId) (owners : BTreeSet (List ℕ)) (shared : Shared) (given : BTreeMap (Vec ℕ Global) ℕ) (asked : Asked) (literals : List (List ℕ)) : Type 0 where
  pub all : classes ≡ all_classes listing files
  pub methods_found : AreFirst (methods_declared files listing) methods
  pub fields_found : AreFirst (fields_declared files listing) fields
  pub methods_near : AreVersions (found_in methods) near_methods.numbers classes near_methods.versions
  pub fields_near : AreVersions (found_in fields) near_fields.numbers classes near_fields.versions
  pub fields_of_interfaces : AreInterfaceFields of_interfaces classes (found_in fields)
  pub listed : (q : MethodId) → has_id library q ≡ has_method listing.methods q
  pub owned : (q : List ℕ) → has_name owners q ≡ is_owner listing.methods q
  pub lists : AreShared owners classes shared
  pub placed : ClassesPlaced given (heads_of files)
  pub asks : AreAsked files listing asked
  pub texts : literals ≡ literals_of files
