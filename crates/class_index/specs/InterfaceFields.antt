-- Fields that interfaces declare. (docs/LINKING.md)
use Rattle.std.specs.Prelude.{◌≡◌, true, false, List, [], Option, None}
use Rattle.std.specs.BTreeSet.{BTreeSet}
use Rattle.mon_base.specs.declared.method.MethodId.{MethodId}
use Rattle.api_listing.specs.declared.types.ListedClass.{ListedClass}
use Rattle.api_listing.specs.Nearest.{interfaces_of}
use Rattle.api_listing.specs.Seen.{has_id}
use Rattle.bytecode_model.specs.declared.members.Found.{Found}
use Rattle.bytecode_model.specs.Members.{in_class}
use Rattle.bytecode_model.specs.SearchOrder.{Name, is_one_of}

-- A class that one of the classes names as an interface declares no field but those whose name and descriptor the set has.
abbrev pub AreInterfaceFields : BTreeSet MethodId → List ListedClass → (MethodId → Option Found) → Type 0
AreInterfaceFields fields classes look = (id : MethodId) → has_id fields (in_class id []) ≡ false
    → (name : Name) → is_one_of (interfaces_of classes) name ≡ true → look (in_class id name) ≡ None
