-- The states and events at which it is tried whether the events of one or two clauses race. What a clause does changes only
-- at its constants, so of all numbers a few are enough: those at a constant and beside it, as far as updates can shift them.
-- (docs/RACES.md)
use Rattle.std.specs.Prelude.{ℕ, ◌*◌, ℤ, pos, ◌+ℤ◌, ◌-ℤ◌, ◌==◌, ◌||◌, Bool, true, false, int_lt, if◌then◌else◌, List, [], ◌∷◌, ◌++◌, length, map, filter, slice_get, Option, Some, None}
use Rattle.std.specs.Ordering.{int_eq}
use Rattle.std.specs.List.{enumerate_from, filter_map, flat_map, list_any}
use Rattle.std.specs.Option.{option_map_or}
use Rattle.api_listing.specs.declared.events.ApiValue.{ApiValue}
use Rattle.api_listing.specs.declared.events.ApiValue.TheVariants as api
use Rattle.api_listing.specs.declared.events.Event.{Event}
use Rattle.api_listing.specs.declared.events.Event.TheVariants as events
use Rattle.conspec_tree.specs.declared.types.Atom.{Atom}
use Rattle.conspec_tree.specs.declared.types.Base.{Base}
use Rattle.conspec_tree.specs.declared.types.Base.TheVariants as bases
use Rattle.conspec_tree.specs.declared.types.Kind.{Kind}
use Rattle.conspec_tree.specs.declared.types.Phase.{Phase}
use Rattle.conspec_tree.specs.declared.types.Phase.TheVariants.{Before, After, Exceptional}
use Rattle.conspec_tree.specs.declared.types.Update.{Update}
use Rattle.conspec_tree.specs.declared.types.Update.TheVariants.{Set, Add}
use Rattle.conspec_tree.specs.declared.types.Var.{Var}
use Rattle.conspec_tree.specs.Updates.{target}
use Rattle.conspec_automaton.specs.declared.policy.Branch.{Branch}
use Rattle.conspec_automaton.specs.declared.policy.Clause.{Clause}
use Rattle.conspec_automaton.specs.declared.policy.Policy.{Policy}
use Rattle.conspec_tree.specs.Kinds.{number_range, passed_range}
use Rattle.conspec_automaton.specs.Next.{Values, number_in}
use Rattle.conspec_automaton.specs.Range.{is_between}

-- ---- what clauses name

abbrev pub atoms_in : List Clause → List Atom
atoms_in clauses = flat_map (λ (c : Clause). flat_map (λ (b : Branch). b.atoms) c.branches) clauses

abbrev pub updates_in : List Clause → List Update
updates_in clauses = flat_map (λ (c : Clause). flat_map (λ (b : Branch). b.updates) c.branches) clauses

abbrev pub is_same : Base → Base → Bool
is_same (bases.Var i) (bases.Var j) = i == j
is_same (bases.Arg i) (bases.Arg j) = i == j
is_same bases.Result bases.Result = true
is_same base other = false

-- the number that the atom compares the base with
abbrev pub compared_with : Base → Atom → Option ℤ
compared_with base atom = if is_same base atom.base then Some atom.value else None

-- the numbers that atoms compare the base with
abbrev pub constants_of : Base → List Clause → List ℤ
constants_of base clauses = filter_map (compared_with base) (atoms_in clauses)

abbrev pub assigned_to : ℕ → Update → Option ℤ
assigned_to var (Set i value) = if i == var then Some value else None
assigned_to var (Add i by) = None

abbrev pub added_to : ℕ → Update → Option ℤ
added_to var (Set i value) = None
added_to var (Add i by) = if i == var then Some by else None

-- An atom or an update names the variable.
abbrev pub is_named : ℕ → List Clause → Bool
is_named var clauses =
    list_any (λ (a : Atom). is_same (bases.Var var) a.base) (atoms_in clauses) || list_any (λ u. target u == var) (updates_in clauses)

-- ---- lists of numbers that ascend

abbrev pub placed : ℤ → List ℤ → List ℤ
placed n [] = n ∷ []
placed n (m ∷ ms) = if int_lt n m then n ∷ m ∷ ms else if int_eq n m then m ∷ ms else m ∷ placed n ms

-- the numbers, each once, in order
abbrev pub ascending : List ℤ → List ℤ
ascending [] = []
ascending (n ∷ ns) = placed n (ascending ns)

-- the number, one less and one more
abbrev pub around : ℤ → List ℤ
around n = (n -ℤ pos 1) ∷ n ∷ (n +ℤ pos 1) ∷ []

-- those at the numbers and beside them that lie between two others
abbrev pub near : ℤ → ℤ → List ℤ → List ℤ
near low high numbers = filter (is_between low high) (flat_map around numbers)

-- ---- the numbers of a variable

-- the numbers at which something changes for the variable: its ends, and what it is compared with or set to
abbrev pub marks : ℤ → ℕ → List Clause → List ℤ
marks maxint var clauses = pos 0 ∷ maxint ∷ constants_of (bases.Var var) clauses ++ filter_map (assigned_to var) (updates_in clauses)

-- nothing, each number, and the sum of each two
abbrev pub sums : List ℤ → List ℤ
sums addends = pos 0 ∷ addends ++ flat_map (λ a. map (λ b. a +ℤ b) addends) addends

-- by how much two events can shift the variable
abbrev pub shifts : ℕ → List Clause → List ℤ
shifts var clauses = sums (filter_map (added_to var) (updates_in clauses))

-- each number less each of the others
abbrev pub differences : List ℤ → List ℤ → List ℤ
differences numbers others = flat_map (λ c. map (λ k. c -ℤ k) others) numbers

-- the numbers from which a shift leads to a mark
abbrev pub thresholds : ℤ → ℕ → List Clause → List ℤ
thresholds maxint var clauses = differences (marks maxint var clauses) (shifts var clauses)

abbrev pub named_points : ℤ → ℕ → Bool → List Clause → List ℤ
named_points maxint var true clauses = pos 0 ∷ pos 1 ∷ []
named_points maxint var false clauses = ascending (near (pos 0) maxint (thresholds maxint var clauses))

-- the numbers that are tried for a variable; one that no clause names has its first value
abbrev pub variable_numbers : ℤ → List Clause → ℕ → Var → List ℤ
variable_numbers maxint clauses i var = if is_named i clauses then named_points maxint i var.is_bool clauses else var.first ∷ []

-- ---- the numbers of what is passed or given

-- the ends of the range, and the constants with those beside them; 0 where there are none
abbrev pub points_between : ℤ → ℤ → List ℤ → List ℤ
points_between low high [] = pos 0 ∷ []
points_between low high (c ∷ constants) = ascending (low ∷ high ∷ near low high (c ∷ constants))

-- ---- the points of a base

-- a base with what its values are like: a variable by its place, where an int is at most so great, an argument by its place,
-- or the result
pub data TypedBase : Type 0 where
  Variable : ℤ → ℕ → Var → TypedBase
  Argument : ℕ → Kind → TypedBase
  Result : Kind → TypedBase

-- numbers of the range, or null where there is none
abbrev pub values_in : Option (ℤ × ℤ) → List ℤ → List ApiValue
values_in None constants = api.Null ∷ []
values_in (Some range) constants = map api.Int (points_between range.0 range.1 constants)

-- the values that are tried for the base, where these clauses are
unfoldable pub points_at : List Clause → TypedBase → List ApiValue
points_at clauses (Variable maxint i var) = map api.Int (variable_numbers maxint clauses i var)
points_at clauses (Argument i kind) = values_in (passed_range kind) (constants_of (bases.Arg i) clauses)
points_at clauses (Result kind) = values_in (number_range kind) (constants_of bases.Result clauses)

-- ---- all choices

-- a choice of one of each list, the last changing first
abbrev pub each_choice : {X : Type 0} → List (List X) → List (List X)
each_choice [] = [] ∷ []
each_choice (xs ∷ others) = flat_map (λ x. map (λ ys. x ∷ ys) (each_choice others)) xs

-- ---- states

-- the points of each variable
abbrev pub choices_of : Policy → List Clause → List (List ApiValue)
choices_of policy clauses = map (λ (v : ℕ × Var). points_at clauses (Variable policy.maxint v.0 v.1)) (enumerate_from 0 policy.vars)

-- what a variable that has the value holds: its number
abbrev pub held : ApiValue → ℤ
held value = option_map_or (λ n. n) (number_in value) (pos 0)

-- the state in which the variables have these values
abbrev pub state_of : List ApiValue → Values
state_of values = map held values

-- the states that are tried for the clauses
abbrev pub states_of : Policy → List Clause → List Values
states_of policy clauses = map state_of (each_choice (choices_of policy clauses))

-- ---- events

abbrev pub arguments_of : Clause → List (List ApiValue)
arguments_of clause = map (λ (a : ℕ × Kind). points_at (clause ∷ []) (Argument a.0 a.1)) (enumerate_from 0 clause.args)

abbrev pub results_of : Clause → List (List ApiValue)
results_of clause = option_map_or (λ kind. points_at (clause ∷ []) (Result kind) ∷ []) clause.result []

-- the points of each argument, of the result, or of nothing
abbrev pub choices_in : Clause → Phase → List (List ApiValue)
choices_in clause Before = arguments_of clause
choices_in clause After = results_of clause
choices_in clause Exceptional = []

abbrev pub made_in : Clause → Phase → List ApiValue → Event
made_in clause Before values = events.Call 0 clause.method values
made_in clause After values = events.Return 0 clause.method (slice_get values 0)
made_in clause Exceptional values = events.Except 0 clause.method

-- the event of the clause with these values
abbrev pub made : Clause → List ApiValue → Event
made clause values = made_in clause clause.phase values

-- the events that are tried for a clause of the phase
abbrev pub events_in : Clause → Phase → List Event
events_in clause phase = map (made_in clause phase) (each_choice (choices_in clause phase))

abbrev pub events_of : Clause → List Event
events_of clause = events_in clause clause.phase

-- ---- how many there are

abbrev pub product : List ℕ → ℕ
product [] = 1
product (n ∷ ns) = n * product ns

abbrev pub size_of : {X : Type 0} → List (List X) → ℕ
size_of lists = product (map length lists)

-- how many states are tried
abbrev pub states_count : Policy → List Clause → ℕ
states_count policy clauses = size_of (choices_of policy clauses)

-- how many events are tried
abbrev pub events_count : Clause → Phase → ℕ
events_count clause phase = size_of (choices_in clause phase)
