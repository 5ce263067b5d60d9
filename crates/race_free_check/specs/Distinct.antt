-- The values of an argument or a result that a clause tells apart. Values are alike where each of the clause's atoms on them
-- holds of both or of neither: the event leads to the same state with each. So of alike values the first alone is tried.
-- (docs/RACES.md)
use Rattle.std.specs.Prelude.{ℕ, ◌+◌, ◌*◌, ◌%◌, ◌^◌, Bool, false, if◌then◌else◌, List, [], ◌∷◌, ◌++◌, map, filter, Option, Some, None}
use Rattle.std.specs.Bool.{beq}
use Rattle.std.specs.List.{enumerate_from, list_all, list_any}
use Rattle.std.specs.Option.{option_map_or}
use Rattle.api_listing.specs.declared.events.ApiValue.{ApiValue}
use Rattle.api_listing.specs.declared.events.Event.{Event}
use Rattle.conspec_tree.specs.declared.types.Atom.{Atom}
use Rattle.conspec_tree.specs.declared.types.Base.{Base}
use Rattle.conspec_tree.specs.declared.types.Base.TheVariants as bases
use Rattle.conspec_tree.specs.declared.types.Phase.{Phase}
use Rattle.conspec_tree.specs.declared.types.Phase.TheVariants.{Before, After, Exceptional}
use Rattle.conspec_automaton.specs.declared.policy.Clause.{Clause}
use Rattle.conspec_automaton.specs.Next.{number_in, relates}
use Rattle.conspec_automaton.specs.Points.{atoms_in, each_choice, is_same, made}
use Rattle.conspec_automaton.specs.Trying.{Placed}
use Rattle.race_free_check.specs.Choosing.{event_choices}

-- ---- alike values

-- the atoms of the clause on the base
abbrev pub atoms_on : Base → Clause → List Atom
atoms_on base clause = filter (λ (a : Atom). is_same base a.base) (atoms_in (clause ∷ []))

-- The atom holds where its base has the value.
abbrev pub holds_of : ApiValue → Atom → Bool
holds_of value atom = option_map_or (λ n. relates atom.rel n atom.value) (number_in value) false

-- Each of the atoms holds of both values, or of neither.
abbrev pub are_alike : List Atom → ApiValue → ApiValue → Bool
are_alike atoms value other = list_all (λ (a : Atom). beq (holds_of value a) (holds_of other a)) atoms

-- the items that are like none of those seen, and like none that is kept before them
abbrev pub unlike : {X : Type 0} → (X → X → Bool) → List X → List X → List X
unlike alike seen [] = []
unlike alike seen (x ∷ xs) = if list_any (alike x) seen then unlike alike seen xs else x ∷ unlike alike (seen ++ x ∷ []) xs

-- of the values that the atoms do not tell apart, the first
abbrev pub distinct : List Atom → List ApiValue → List ApiValue
distinct atoms values = unlike (are_alike atoms) [] values

-- ---- digests

-- the digest of one more answer
unfoldable pub mixed : ℕ → Bool → ℕ
mixed digest answer = (digest * 3 + (if answer then 1 else 0)) % 2 ^ 64

abbrev pub digest_from : ℕ → List Atom → ApiValue → ℕ
digest_from digest [] value = digest
digest_from digest (atom ∷ atoms) value = digest_from (mixed digest (holds_of value atom)) atoms value

-- a number that alike values share, so that values with different ones need not be held against each other
abbrev pub digest_of : List Atom → ApiValue → ℕ
digest_of atoms value = digest_from 0 atoms value

-- ---- the events that are tried

-- what the value at the place is to an atom: an argument, or the result
abbrev pub base_at : Phase → ℕ → Base
base_at Before place = bases.Arg place
base_at After place = bases.Result
base_at Exceptional place = bases.Result

-- the distinct ones of the values at each place, counted from this one
abbrev pub distinct_from : Clause → ℕ → List (List ApiValue) → List (List ApiValue)
distinct_from clause place lists = map (λ (c : ℕ × List ApiValue). distinct (atoms_on (base_at clause.phase c.0) clause) c.1) (enumerate_from place lists)

-- the distinct points of each value of an event of the clause
abbrev pub distinct_choices : Clause → List (List ApiValue)
distinct_choices clause = distinct_from clause 0 (event_choices clause)

abbrev pub distinct_events : Clause → List Event
distinct_events clause = map (made clause) (each_choice (distinct_choices clause))

-- the second events, or none where there is one clause alone
abbrev pub distinct_seconds : Option Placed → List (Option Event)
distinct_seconds None = None ∷ []
distinct_seconds (Some second) = map Some (distinct_events second.1)
