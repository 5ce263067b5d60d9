-- The state after an event. (ConSpec: a clause's first branch whose guard holds is taken.)
use Rattle.std.specs.Prelude.{ℕ, ℤ, ◌+ℤ◌, ◌==◌, ◌&&◌, Bool, true, false, not, int_le, int_lt, List, [], ◌∷◌, map, find, Option, Some, None, option_map, option_and_then, slice_get, slice_set, is_some}
use Rattle.std.specs.Ordering.{int_eq}
use Rattle.std.specs.List.{list_all, list_any}
use Rattle.std.specs.Option.{option_map_or}
use Rattle.api_listing.specs.declared.events.ApiValue.{ApiValue}
use Rattle.api_listing.specs.declared.events.ApiValue.TheVariants as api
use Rattle.api_listing.specs.declared.events.Event.{Event}
use Rattle.api_listing.specs.declared.events.Event.TheVariants as events
use Rattle.conspec_tree.specs.declared.types.Atom.{Atom}
use Rattle.conspec_tree.specs.declared.types.Base.{Base}
use Rattle.conspec_tree.specs.declared.types.Base.TheVariants as bases
use Rattle.conspec_tree.specs.declared.types.Phase.{Phase}
use Rattle.conspec_tree.specs.declared.types.Phase.TheVariants.{Before, After, Exceptional}
use Rattle.conspec_tree.specs.declared.types.Rel.{Rel}
use Rattle.conspec_tree.specs.declared.types.Rel.TheVariants as relations
use Rattle.conspec_tree.specs.declared.types.Update.{Update}
use Rattle.conspec_tree.specs.declared.types.Update.TheVariants.{Set, Add}
use Rattle.conspec_tree.specs.declared.types.Var.{Var}
use Rattle.conspec_automaton.specs.declared.policy.Branch.{Branch}
use Rattle.conspec_automaton.specs.declared.policy.Clause.{Clause}
use Rattle.conspec_automaton.specs.declared.policy.Policy.{Policy}

-- ---- states

-- the values of the variables, in their order
abbrev pub Values : Type 0
Values = List ℤ

abbrev pub initial : Policy → Values
initial policy = map (λ (v : Var). v.first) policy.vars

-- ---- the clause of an event

abbrev pub method_of : Event → ℕ
method_of (events.Call thread method arguments) = method
method_of (events.Return thread method value) = method
method_of (events.Except thread method) = method

-- The phase is that of the event.
abbrev pub is_phase_of : Event → Phase → Bool
is_phase_of (events.Call thread method arguments) Before = true
is_phase_of (events.Return thread method value) After = true
is_phase_of (events.Except thread method) Exceptional = true
is_phase_of event other = false

abbrev pub speaks_of : Event → Clause → Bool
speaks_of event clause = (clause.method == method_of event) && is_phase_of event clause.phase

abbrev pub clause_of : Policy → Event → Option Clause
clause_of policy event = find (speaks_of event) policy.clauses

abbrev pub has_clause : Policy → Event → Bool
has_clause policy event = is_some (clause_of policy event)

-- The policy has a clause for an event of the method.
abbrev pub has_clauses : Policy → ℕ → Bool
has_clauses policy method = list_any (λ (clause : Clause). clause.method == method) policy.clauses

-- ---- atoms

abbrev pub number_in : ApiValue → Option ℤ
number_in (api.Int n) = Some n
number_in other = None

abbrev pub argument : Event → ℕ → Option ℤ
argument (events.Call thread method arguments) i = option_and_then number_in (slice_get arguments i)
argument other i = None

abbrev pub returned : Event → Option ℤ
returned (events.Return thread method value) = option_and_then number_in value
returned other = None

-- an event, and the state that it finds: what atoms ask and updates read
pub record Moment : Type 0 where
  pub state : Values
  pub event : Event

abbrev pub moment : Values → Event → Moment
moment state event = record { state = state; event = event }

-- what an atom compares, where it is there and is a number
abbrev pub value_of : Moment → Base → Option ℤ
value_of m (bases.Var i) = slice_get m.state i
value_of m (bases.Arg i) = argument m.event i
value_of m bases.Result = returned m.event

abbrev pub relates : Rel → ℤ → ℤ → Bool
relates relations.Eq x y = int_eq x y
relates relations.Ne x y = not (int_eq x y)
relates relations.Lt x y = int_lt x y
relates relations.Le x y = int_le x y
relates relations.Gt x y = int_lt y x
relates relations.Ge x y = int_le y x

-- An atom on what is not there does not hold.
abbrev pub holds : Moment → Atom → Bool
holds m atom = option_map_or (λ n. relates atom.rel n atom.value) (value_of m atom.base) false

abbrev pub is_taken : Moment → Branch → Bool
is_taken m branch = list_all (holds m) branch.atoms

-- ---- updates

abbrev pub updated_once : Moment → Update → Values
updated_once m (Set var value) = slice_set m.state var value
updated_once m (Add var by) = option_map_or (λ n. slice_set m.state var (n +ℤ by)) (slice_get m.state var) m.state

abbrev pub updated : Moment → List Update → Values
updated m [] = m.state
updated m (update ∷ updates) = updated (moment (updated_once m update) m.event) updates

-- ---- the state after an event

-- the state after an event that the clause speaks of, or nothing where it refuses the event
abbrev pub next_by : Clause → Moment → Option Values
next_by clause m = option_map (λ (branch : Branch). updated m branch.updates) (find (is_taken m) clause.branches)

-- An event without a clause changes nothing.
abbrev pub next : Policy → Values → Event → Option Values
next policy state event = option_map_or (λ clause. next_by clause (moment state event)) (clause_of policy event) (Some state)
