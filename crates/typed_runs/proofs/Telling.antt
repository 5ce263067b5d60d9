-- The clauses of a policy that was read tell the types of their methods.
use Rattle.std.proofs.Common.{◌≡◌, ℕ, ℤ, List, [], ◌∷◌, map, Some, sym, ap, ◌∙◌}
use Rattle.std.specs.Prelude.{option_map, slice_get}
use Rattle.std.specs.List.{AllByRecursion}
use Rattle.api_listing.specs.declared.descriptor.MethodType.{MethodType}
use Rattle.api_listing.specs.declared.types.ListedMethod.{ListedMethod}
use Rattle.api_listing.specs.declared.types.Listing.{Listing}
use Rattle.api_listing.specs.Descriptor.{EncodesDescriptor}
use Rattle.api_listing.specs.Listing.{EncodesListing}
use Rattle.api_listing.proofs.DescriptorLaws.{method_found}
use Rattle.conspec_tree.specs.declared.types.TreeClause.{TreeClause}
use Rattle.conspec_tree.specs.Kinds.{kind_of}
use Rattle.conspec_tree.specs.Telling.{ClauseTellsKinds, ClauseTellsResult}
use Rattle.conspec_automaton.specs.Building.{clause_built}
use Rattle.guest_model.specs.Calls.{types_of, types_read}
use Rattle.typed_runs.specs.Formed.{PoliciesTellTypes, TellsTypes}
use Rattle.typed_runs.proofs.Declared.{listed_method}

module _ (text : List ℕ) (listing : Listing) (encoded : EncodesListing text listing) where
  -- The descriptor of a listed method encodes the types that are read of it.
  encodes_types : (index : ℕ) (method : ListedMethod) → slice_get listing.methods index ≡ Some method
      → (types : MethodType) × (types_of method.id.desc ≡ types) × EncodesDescriptor method.id.desc types
  encodes_types index method there =
      let m = listed_method text listing encoded index method there in
      (m.0, ap types_read m.1, method_found method.id.desc m.0 m.1)

  clause_tells : (maxint : ℤ) (clause : TreeClause) → ClauseTellsKinds listing clause → ClauseTellsResult listing clause
      → TellsTypes listing (clause_built maxint clause)
  clause_tells maxint clause kinds results = record {
    args = λ method there.
        let s = encodes_types clause.method method there in
        kinds method s.0 there s.2 ∙ ap (λ (t : MethodType). map kind_of t.arguments) (sym s.1);
    result = λ method there.
        let s = encodes_types clause.method method there in
        results method s.0 there s.2 ∙ ap (λ (t : MethodType). option_map kind_of t.result) (sym s.1);
  }

  clauses_tell : (maxint : ℤ) (clauses : List TreeClause) → AllByRecursion (ClauseTellsKinds listing) clauses
      → AllByRecursion (ClauseTellsResult listing) clauses → AllByRecursion (TellsTypes listing) (map (clause_built maxint) clauses)
  clauses_tell maxint [] kinds results = tt
  clauses_tell maxint (clause ∷ clauses) kinds results =
      (clause_tells maxint clause kinds.0 results.0, clauses_tell maxint clauses kinds.1 results.1)

pub policies_tell_types : PoliciesTellTypes
policies_tell_types text listing tree encoded kinds results = clauses_tell text listing encoded tree.maxint tree.clauses kinds results
