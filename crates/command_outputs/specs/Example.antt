-- How a state of a policy and events are printed. (docs/RACES.md)
use Rattle.std.specs.Prelude.{ℕ, ℤ, pos, Bool, true, false, List, [], ◌∷◌, ◌++◌, codes, Option, Some, None}
use Rattle.std.specs.Fmt.{signed_decimal}
use Rattle.std.specs.Ordering.{int_eq}
use Rattle.std.specs.List.{flat_map, zip}
use Rattle.api_listing.specs.declared.events.Event.{Event}
use Rattle.api_listing.specs.declared.types.ListedMethod.{ListedMethod}
use Rattle.api_listing.specs.declared.types.Listing.{Listing}
use Rattle.conspec_automaton.specs.Next.{Values}
use Rattle.conspec_tree.specs.declared.types.PolicyTree.{PolicyTree}
use Rattle.conspec_tree.specs.declared.types.Var.{Var}
use Rattle.event_record.specs.Printing.{threadless_text}

abbrev pub truth_name : Bool → List ℕ
truth_name true = codes "true"
truth_name false = codes "false"

-- true and false are 1 and 0
abbrev pub value_text : Bool → ℤ → List ℕ
value_text true value = truth_name (int_eq value (pos 1))
value_text false value = signed_decimal value

-- NAME=VALUE
abbrev pub variable_text : Var → ℤ → List ℕ
variable_text var value = var.name ++ 61 ∷ value_text var.is_bool value

abbrev pub variable_after : Var × ℤ → List ℕ
variable_after variable = 44 ∷ variable_text variable.0 variable.1

-- the variables with their values, between commas, or `-` where there are none
abbrev pub state_text : List Var → Values → List ℕ
state_text (var ∷ vars) (value ∷ values) = variable_text var value ++ flat_map variable_after (zip vars values)
state_text (var ∷ vars) [] = codes "-"
state_text [] values = codes "-"

abbrev pub event_after : List ListedMethod → Event → List ℕ
event_after methods event = codes " ; " ++ threadless_text methods event

abbrev pub second_after : List ListedMethod → Option Event → List ℕ
second_after methods None = []
second_after methods (Some event) = event_after methods event

-- the state of the policy, and after it the event or two, in their order
abbrev pub example_text : PolicyTree → Listing → Values → Event → Option Event → List ℕ
example_text policy listing state first second =
    state_text policy.vars state ++ event_after listing.methods first ++ second_after listing.methods second
