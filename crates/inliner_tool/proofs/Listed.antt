-- What a policy that was read tells of the methods of its listing.
use Rattle.std.proofs.Common.{ℕ, List}
use Rattle.std.specs.List.{AllByRecursion}
use Rattle.api_listing.specs.declared.types.Listing.{Listing}
use Rattle.api_listing.specs.Listing.{EncodesListing}
use Rattle.conspec_automaton.specs.Building.{built}
use Rattle.conspec_parse.specs.Telling.{KindsAreTold, ResultsAreTold}
use Rattle.conspec_tree.specs.declared.types.PolicyTree.{PolicyTree}
use Rattle.command_inputs.specs.Named.{IsPolicyOf}
use Rattle.typed_runs.specs.Formed.{PoliciesTellTypes, TellsTypes}

-- The clauses of a policy that was read tell the types of their methods.
pub tells_types : PoliciesTellTypes → KindsAreTold → ResultsAreTold → (text : List ℕ) (listing : Listing) (tree : PolicyTree) → EncodesListing text listing
    → IsPolicyOf listing tree → AllByRecursion (TellsTypes listing) (built tree).clauses
tells_types tell kinds results text listing tree encodes of =
    tell text listing tree encodes (kinds of.text listing tree of.encodes) (results of.text listing tree of.encodes)
