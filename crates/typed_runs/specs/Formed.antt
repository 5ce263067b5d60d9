-- The events that a typed program makes are those that a policy expects which tells the types of its methods; and so does each
-- policy that was read. (docs/MACHINE.md)
use Rattle.std.specs.Prelude.{◌≡◌, ℕ, List, map, Some, option_map, slice_get}
use Rattle.std.specs.List.{AllByRecursion}
use Rattle.api_listing.specs.declared.types.ListedMethod.{ListedMethod}
use Rattle.api_listing.specs.declared.types.Listing.{Listing}
use Rattle.api_listing.specs.Listing.{EncodesListing}
use Rattle.cert_format.specs.declared.typing.Typing.{Typing}
use Rattle.bytecode_model.specs.declared.program.Program.{Program}
use Rattle.conspec_tree.specs.declared.types.PolicyTree.{PolicyTree}
use Rattle.conspec_tree.specs.Kinds.{kind_of}
use Rattle.conspec_tree.specs.Telling.{TellsKinds, TellsResults}
use Rattle.conspec_automaton.specs.declared.policy.Clause.{Clause}
use Rattle.conspec_automaton.specs.declared.policy.Policy.{Policy}
use Rattle.conspec_automaton.specs.Building.{built}
use Rattle.conspec_automaton.specs.Events.{IsWellFormed}
use Rattle.guest_model.specs.declared.machine.Step.{Step}
use Rattle.guest_model.specs.Calls.{types_of}
use Rattle.guest_model.specs.Runs.{trace}
use Rattle.typed_runs.specs.Programs.{IsTypedProgram}

-- The clause tells the kinds of the arguments and of the result of its method.
pub record TellsTypes (listing : Listing) (clause : Clause) : Type 0 where
  pub args : (method : ListedMethod) → slice_get listing.methods clause.method ≡ Some method
      → clause.args ≡ map kind_of (types_of method.id.desc).arguments
  pub result : (method : ListedMethod) → slice_get listing.methods clause.method ≡ Some method
      → clause.result ≡ option_map kind_of (types_of method.id.desc).result

-- Where each clause tells the types of its method, each event of a typed program is well formed, whatever the steps are.
abbrev pub SeesWellFormed : Type 0
SeesWellFormed =
    (program : Program) (typing : Typing) (policy : Policy) → IsTypedProgram program typing
    → AllByRecursion (TellsTypes program.listing) policy.clauses
    → (steps : List Step) → AllByRecursion (IsWellFormed policy) (trace program steps)

-- Of a listing that was read, each clause of the automaton tells the types of its method where the tree tells the kinds of the
-- arguments and of the results.
abbrev pub PoliciesTellTypes : Type 0
PoliciesTellTypes =
    (text : List ℕ) (listing : Listing) (tree : PolicyTree) → EncodesListing text listing
    → TellsKinds listing tree → TellsResults listing tree
    → AllByRecursion (TellsTypes listing) (built tree).clauses
