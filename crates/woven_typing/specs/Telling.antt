-- What a policy tells of the methods that it has clauses for: the kinds of their arguments and of their results. (docs/TYPING.md)
use Rattle.std.specs.Prelude.{◌≡◌, ℕ, List, [], ◌∷◌, slice_get, Some, IfSome, true, ⊤}
use Rattle.std.specs.List.{AllByRecursion}
use Rattle.api_listing.specs.declared.types.ListedMethod.{ListedMethod}
use Rattle.api_listing.specs.declared.types.Listing.{Listing}
use Rattle.api_listing.specs.BuiltIn.{throwable}
use Rattle.api_listing.specs.Listing.{EncodesListing}
use Rattle.cert_format.specs.declared.typing.VType.{VType}
use Rattle.cert_format.specs.declared.typing.VType.TheVariants as types
use Rattle.bytecode_model.specs.declared.program.Program.{Program}
use Rattle.bytecode_model.specs.Classes.{is_below}
use Rattle.bytecode_model.specs.Described.{Descriptor, arguments, result_type, type_described}
use Rattle.conspec_tree.specs.declared.types.Kind.{Kind}
use Rattle.conspec_tree.specs.declared.types.Kind.TheVariants as kinds
use Rattle.conspec_tree.specs.declared.types.PolicyTree.{PolicyTree}
use Rattle.conspec_tree.specs.Telling.{TellsKinds as TreeTellsKinds, TellsResults as TreeTellsResults}
use Rattle.conspec_automaton.specs.declared.policy.Clause.{Clause}
use Rattle.conspec_automaton.specs.declared.policy.Policy.{Policy}
use Rattle.conspec_automaton.specs.Building.{built}

-- ---- kinds

-- The type is one of the kind.
abbrev pub IsOfKind : Kind → VType → Type 0
IsOfKind kinds.Int t = t ≡ types.Int
IsOfKind kinds.Bool t = t ≡ types.Int
IsOfKind kinds.Byte t = t ≡ types.Int
IsOfKind kinds.Short t = t ≡ types.Int
IsOfKind kinds.Char t = t ≡ types.Int
IsOfKind kinds.Object t = (name : List ℕ) × (t ≡ types.Ref name)

-- The kinds are those of the types that are described.
abbrev pub AreOfKinds : List Kind → List Descriptor → Type 0
AreOfKinds [] [] = ⊤
AreOfKinds [] (desc ∷ descs) = ⊥
AreOfKinds (kind ∷ kinds) [] = ⊥
AreOfKinds (kind ∷ kinds) (desc ∷ descs) = IsOfKind kind (type_described desc) × AreOfKinds kinds descs

-- The kind is that of the result of a method with this descriptor.
abbrev pub IsOfResult : List ℕ → Kind → Type 0
IsOfResult desc kind = (t : VType) × (result_type desc ≡ Some t) × IsOfKind kind t

-- ---- clauses

-- The clause tells the kinds of what the method takes, and of what it gives.
pub record TellsOf (clause : Clause) (method : ListedMethod) : Type 0 where
  pub arguments : AreOfKinds clause.args (arguments method.id.desc)
  pub result : IfSome clause.result (IsOfResult method.id.desc)

-- Each clause tells those of its method.
abbrev pub ClauseTells : Listing → Clause → Type 0
ClauseTells listing clause = (method : ListedMethod) → slice_get listing.methods clause.method ≡ Some method → TellsOf clause method

abbrev pub TellsKinds : Listing → Policy → Type 0
TellsKinds listing policy = AllByRecursion (ClauseTells listing) policy.clauses

-- So it is of each policy that was read over a listing.
abbrev pub PoliciesTell : Type 0
PoliciesTell =
    (text : List ℕ) (listing : Listing) (tree : PolicyTree) → EncodesListing text listing → TreeTellsKinds listing tree
    → TreeTellsResults listing tree → TellsKinds listing (built tree)

-- ---- what is thrown

-- Throwable is one of the program's classes.
abbrev pub KnowsThrowable : Program → Type 0
KnowsThrowable program = is_below program throwable throwable ≡ true

-- So it is of each program with a listing that was read.
abbrev pub ListingsKnowThrowable : Type 0
ListingsKnowThrowable = (text : List ℕ) (program : Program) → EncodesListing text program.listing → KnowsThrowable program
