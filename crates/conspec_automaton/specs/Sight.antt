-- What a policy sees of an event: which method is called or ends, how, and the numbers that are passed or given. It sees no
-- thread and no object. (docs/POLICIES.md)
use Rattle.std.specs.Prelude.{ℕ, ℤ, List, [], map, Option, None, option_and_then}
use Rattle.api_listing.specs.declared.events.Event.{Event}
use Rattle.api_listing.specs.declared.events.Event.TheVariants as events
use Rattle.conspec_tree.specs.declared.types.Phase.{Phase}
use Rattle.conspec_tree.specs.declared.types.Phase.TheVariants.{Before, After, Exceptional}
use Rattle.conspec_automaton.specs.Next.{number_in}

-- An argument that is no number has none here, and so has a result.
pub record Sight : Type 0 where
  pub method : ℕ
  pub phase : Phase
  pub arguments : List (Option ℤ)
  pub result : Option ℤ

abbrev pub sight_of : Event → Sight
sight_of (events.Call thread method arguments) =
    record { method = method; phase = Before; arguments = map number_in arguments; result = None }
sight_of (events.Return thread method value) =
    record { method = method; phase = After; arguments = []; result = option_and_then number_in value }
sight_of (events.Except thread method) =
    record { method = method; phase = Exceptional; arguments = []; result = None }
