-- The events that a running program can make: a number is passed where a method takes one, and a result is in the range of
-- its type. (docs/POLICIES.md)
use Rattle.std.specs.Prelude.{◌≡◌, ℕ, ℤ, true, Option, Some, None, slice_get}
use Rattle.api_listing.specs.declared.events.ApiValue.{ApiValue}
use Rattle.api_listing.specs.declared.events.ApiValue.TheVariants as api
use Rattle.api_listing.specs.declared.events.Event.{Event}
use Rattle.api_listing.specs.declared.events.Event.TheVariants as events
use Rattle.conspec_tree.specs.declared.types.Kind.{Kind}
use Rattle.conspec_tree.specs.Kinds.{number_range, passed_range}
use Rattle.conspec_automaton.specs.declared.policy.Clause.{Clause}
use Rattle.conspec_automaton.specs.declared.policy.Policy.{Policy}
use Rattle.conspec_automaton.specs.Next.{clause_of}
use Rattle.conspec_automaton.specs.Range.{is_between}

-- The value is a number of the range. Where there is none, it may be any.
abbrev pub IsNumberOf : Option (ℤ × ℤ) → Option ApiValue → Type 0
IsNumberOf None value = Unit {0}
IsNumberOf (Some range) value = (n : ℤ) × (value ≡ Some (api.Int n)) × (is_between range.0 range.1 n ≡ true)

-- What is passed or given fits the method of the clause.
abbrev pub FitsClause : Clause → Event → Type 0
FitsClause clause (events.Call thread method arguments) =
    (i : ℕ) (kind : Kind) → slice_get clause.args i ≡ Some kind → IsNumberOf (passed_range kind) (slice_get arguments i)
FitsClause clause (events.Return thread method value) = (kind : Kind) → clause.result ≡ Some kind → IsNumberOf (number_range kind) value
FitsClause clause (events.Except thread method) = Unit {0}

-- The event fits the clause that speaks of it, if one does.
abbrev pub IsWellFormed : Policy → Event → Type 0
IsWellFormed policy event = (clause : Clause) → clause_of policy event ≡ Some clause → FitsClause clause event
