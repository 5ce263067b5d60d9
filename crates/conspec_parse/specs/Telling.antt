-- What policies that are read tell of their methods. (docs/POLICIES.md)
use Rattle.std.specs.Prelude.{ℕ, List}
use Rattle.api_listing.specs.declared.types.Listing.{Listing}
use Rattle.conspec_tree.specs.declared.types.PolicyTree.{PolicyTree}
use Rattle.conspec_tree.specs.Telling.{TellsKinds, TellsResults}
use Rattle.conspec_parse.specs.Meaning.{EncodesPolicy}

-- A policy that is read tells the kinds of the arguments of its methods.
abbrev pub KindsAreTold : Type 0
KindsAreTold = (text : List ℕ) (listing : Listing) (tree : PolicyTree) → EncodesPolicy text listing tree → TellsKinds listing tree

-- A policy that is read tells the kinds of the results of its methods.
abbrev pub ResultsAreTold : Type 0
ResultsAreTold = (text : List ℕ) (listing : Listing) (tree : PolicyTree) → EncodesPolicy text listing tree → TellsResults listing tree
