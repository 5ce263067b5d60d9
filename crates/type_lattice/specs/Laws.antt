-- The types in order: what holds of assignability and of the least type above two. (docs/TYPING.md)
use Rattle.std.specs.Prelude.{◌≡◌, ℕ, true, List}
use Rattle.api_listing.specs.BuiltIn.{throwable}
use Rattle.bytecode_model.specs.declared.program.Program.{Program}
use Rattle.bytecode_model.specs.Classes.{is_below}
use Rattle.cert_format.specs.declared.typing.VType.{VType}
use Rattle.cert_format.specs.declared.typing.VType.TheVariants as types
use Rattle.bytecode_model.specs.Assigning.{assignable}
use Rattle.bytecode_model.specs.Order.{IsInOrder}
use Rattle.type_lattice.specs.Merging.{merged}

abbrev pub IsReflexive : Type 0
IsReflexive = (program : Program) (t : VType) → assignable program t t ≡ true

abbrev pub IsTransitive : Type 0
IsTransitive =
    (program : Program) → IsInOrder program → (t u v : VType) → assignable program t u ≡ true → assignable program u v ≡ true → assignable program t v ≡ true

-- What is thrown has no other type that it may stand for and that may stand for it.
abbrev pub IsThrownAlone : Type 0
IsThrownAlone =
    (program : Program) → IsInOrder program → (class : List ℕ) (t : VType) → is_below program class throwable ≡ true
    → assignable program (types.Ref class) t ≡ true → assignable program t (types.Ref class) ≡ true → t ≡ types.Ref class

-- Both are assignable to the merge.
abbrev pub IsMergeAbove : Type 0
IsMergeAbove =
    (program : Program) → IsInOrder program → (t u : VType)
    → (assignable program t (merged program t u) ≡ true) × (assignable program u (merged program t u) ≡ true)

-- What both are assignable to, their merge is assignable to.
abbrev pub IsMergeLeast : Type 0
IsMergeLeast =
    (program : Program) → IsInOrder program → (t u v : VType) → assignable program t v ≡ true → assignable program u v ≡ true
    → assignable program (merged program t u) v ≡ true
