-- Events that are not well formed: for a policy that tells the types of its methods, null is no int, and no number of 33 bits is one.
use Rattle.std.specs.Prelude.{◌≡◌, ℕ, ◌≤◌, true, List, Some, pos, slice_get}
use Rattle.std.specs.List.{AllByRecursion}
use Rattle.api_listing.specs.declared.descriptor.Element.TheVariants as elements
use Rattle.api_listing.specs.declared.descriptor.FieldType.{FieldType}
use Rattle.api_listing.specs.declared.descriptor.MethodType.{MethodType}
use Rattle.api_listing.specs.declared.events.ApiValue.{ApiValue}
use Rattle.api_listing.specs.declared.events.ApiValue.TheVariants as api
use Rattle.api_listing.specs.declared.events.Event.{Event}
use Rattle.api_listing.specs.declared.events.Event.TheVariants as events
use Rattle.api_listing.specs.declared.types.ListedMethod.{ListedMethod}
use Rattle.api_listing.specs.declared.types.Listing.{Listing}
use Rattle.conspec_automaton.specs.declared.policy.Policy.{Policy}
use Rattle.conspec_automaton.specs.Events.{IsWellFormed}
use Rattle.conspec_automaton.specs.Next.{has_clause, method_of}
use Rattle.guest_model.specs.Calls.{types_of}
use Rattle.typed_runs.specs.Formed.{TellsTypes}

abbrev pub int_type : FieldType
int_type = record { dimensions = 0; element = elements.Int }

-- The policy tells the types of its methods, and has a clause for the event, which is of a method of these types.
pub record IsAskedOf (listing : Listing) (policy : Policy) (types : MethodType) (event : Event) : Type 0 where
  pub tells : AllByRecursion (TellsTypes listing) policy.clauses
  pub asked : has_clause policy event ≡ true
  pub method : ListedMethod
  pub there : slice_get listing.methods (method_of event) ≡ Some method
  pub typed : types_of method.id.desc ≡ types

-- The value is no result of a method that gives an int.
abbrev pub IsNoResult : ApiValue → Type 0
IsNoResult value =
    (listing : Listing) (policy : Policy) (types : MethodType) (thread method : ℕ)
    → IsAskedOf listing policy types (events.Return thread method (Some value)) → types.result ≡ Some int_type
    → IsWellFormed policy (events.Return thread method (Some value)) → ⊥

abbrev pub NullIsNoResult : Type 0
NullIsNoResult = IsNoResult api.Null

-- An int is below 2 to the power of 31.
abbrev pub WideIsNoResult : Type 0
WideIsNoResult = (n : ℕ) → 2147483648 ≤ n → IsNoResult (api.Int (pos n))

-- Null is not passed where the method takes an int.
abbrev pub NullIsNoArgument : Type 0
NullIsNoArgument =
    (listing : Listing) (policy : Policy) (types : MethodType) (thread method i : ℕ) (arguments : List ApiValue)
    → IsAskedOf listing policy types (events.Call thread method arguments) → slice_get types.arguments i ≡ Some int_type
    → slice_get arguments i ≡ Some api.Null → IsWellFormed policy (events.Call thread method arguments) → ⊥
