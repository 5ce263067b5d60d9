-- A policy that tells the types of its methods tells how many arguments they take, and whether they give something.
use Rattle.std.proofs.Common.{◌≡◌, suc, List, [], ◌∷◌, length, map, Option, Some, None, refl, ap, ◌∙◌}
use Rattle.std.specs.Prelude.{is_some, option_map}
use Rattle.std.specs.List.{AllByRecursion}
use Rattle.api_listing.specs.declared.descriptor.FieldType.{FieldType}
use Rattle.api_listing.specs.declared.types.Listing.{Listing}
use Rattle.block_logic.specs.Obeying.{FitsListing}
use Rattle.conspec_automaton.specs.declared.policy.Clause.{Clause}
use Rattle.conspec_tree.specs.Kinds.{kind_of}
use Rattle.typed_runs.specs.Formed.{TellsTypes}

kinds_many : (types : List FieldType) → length (map kind_of types) ≡ length types
kinds_many [] = refl
kinds_many (t ∷ types) = ap suc (kinds_many types)

kind_given : (o : Option FieldType) → is_some (option_map kind_of o) ≡ is_some o
kind_given None = refl
kind_given (Some t) = refl

pub fits_listing : (listing : Listing) (clauses : List Clause) → AllByRecursion (TellsTypes listing) clauses → AllByRecursion (FitsListing listing) clauses
fits_listing listing [] told = tt
fits_listing listing (clause ∷ clauses) told = (
  λ method there. (ap length (told.0.args method there) ∙ kinds_many _, ap is_some (told.0.result method there) ∙ kind_given _),
  fits_listing listing clauses told.1,
)
