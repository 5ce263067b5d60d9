-- What the operands of a class were found to name. (docs/LINKING.md)
use Rattle.std.specs.Prelude.{◌≡◌, List, Option, Ok, IfSome}
use Rattle.std.specs.List.{All}
use Rattle.class_codec.specs.declared.tree.Const.{Const}
use Rattle.class_codec.specs.declared.tree.ClassFile.{ClassFile}
use Rattle.api_listing.specs.declared.types.Listing.{Listing}
use Rattle.class_linking.specs.declared.known.Named.{Named}
use Rattle.class_linking.specs.Operands.{used_at}

-- It names that, in code of a class with this constant pool.
abbrev pub IsNamed : List ClassFile → Listing → List Const → Named → Type 0
IsNamed files listing pool named = used_at files listing pool named.how named.index ≡ Ok named.target

-- What stands in the places is named so.
abbrev pub AreRemembered : List ClassFile → Listing → List Const → List (Option Named) → Type 0
AreRemembered files listing pool places = All (λ place. IfSome place (IsNamed files listing pool)) places
