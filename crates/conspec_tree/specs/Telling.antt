-- What the clauses of a policy tell of their methods. (docs/POLICIES.md)
use Rattle.std.specs.Prelude.{◌≡◌, map, option_map, slice_get, Some}
use Rattle.std.specs.List.{AllByRecursion}
use Rattle.api_listing.specs.declared.descriptor.MethodType.{MethodType}
use Rattle.api_listing.specs.declared.types.ListedMethod.{ListedMethod}
use Rattle.api_listing.specs.declared.types.Listing.{Listing}
use Rattle.api_listing.specs.Descriptor.{EncodesDescriptor}
use Rattle.conspec_tree.specs.declared.types.PolicyTree.{PolicyTree}
use Rattle.conspec_tree.specs.declared.types.TreeClause.{TreeClause}
use Rattle.conspec_tree.specs.Kinds.{kind_of}

-- The arguments have the kinds of the types that the method's descriptor encodes.
abbrev pub ClauseTellsKinds : Listing → TreeClause → Type 0
ClauseTellsKinds listing clause =
    (method : ListedMethod) (types : MethodType) → slice_get listing.methods clause.method ≡ Some method → EncodesDescriptor method.id.desc types
    → clause.args ≡ map kind_of types.arguments

-- Each clause tells the kinds of the arguments of its method.
abbrev pub TellsKinds : Listing → PolicyTree → Type 0
TellsKinds listing tree = AllByRecursion (ClauseTellsKinds listing) tree.clauses

-- The result has the kind of the type that the descriptor encodes, if it encodes one.
abbrev pub ClauseTellsResult : Listing → TreeClause → Type 0
ClauseTellsResult listing clause =
    (method : ListedMethod) (types : MethodType) → slice_get listing.methods clause.method ≡ Some method → EncodesDescriptor method.id.desc types
    → clause.result ≡ option_map kind_of types.result

-- Each clause tells the kind of the result of its method.
abbrev pub TellsResults : Listing → PolicyTree → Type 0
TellsResults listing tree = AllByRecursion (ClauseTellsResult listing) tree.clauses
