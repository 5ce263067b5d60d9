-- The state after an event depends on what is seen of the event alone.
use Rattle.std.proofs.Common.{◌≡◌, ℕ, zero, suc, ℤ, Bool, true, false, List, [], ◌∷◌, map, Option, Some, None, refl, sym, ap, ◌∙◌}
use Rattle.std.specs.Prelude.{◌==◌, ◌&&◌, find, option_and_then, option_map, slice_get}
use Rattle.std.specs.List.{list_all}
use Rattle.std.specs.Option.{option_map_or}
use Rattle.api_listing.specs.declared.events.ApiValue.{ApiValue}
use Rattle.api_listing.specs.declared.events.Event.{Event}
use Rattle.api_listing.specs.declared.events.Event.TheVariants as events
use Rattle.conspec_tree.specs.declared.types.Atom.{Atom}
use Rattle.conspec_tree.specs.declared.types.Base.{Base}
use Rattle.conspec_tree.specs.declared.types.Base.TheVariants as bases
use Rattle.conspec_tree.specs.declared.types.Phase.{Phase}
use Rattle.conspec_tree.specs.declared.types.Phase.TheVariants.{Before, After, Exceptional}
use Rattle.conspec_tree.specs.declared.types.Update.{Update}
use Rattle.conspec_tree.specs.declared.types.Update.TheVariants.{Add, Set}
use Rattle.conspec_automaton.specs.declared.policy.Branch.{Branch}
use Rattle.conspec_automaton.specs.declared.policy.Clause.{Clause}
use Rattle.conspec_automaton.specs.declared.policy.Policy.{Policy}
use Rattle.conspec_automaton.specs.Next.{Values, clause_of, holds, is_phase_of, is_taken, method_of, moment, next, next_by, number_in, relates, speaks_of, updated, value_of}
use Rattle.conspec_automaton.specs.Sight.{Sight, sight_of}

-- ---- tests that agree

found_same : {X : Type 0} (p q : X → Bool) (xs : List X) → ((x : X) → p x ≡ q x) → find p xs ≡ find q xs
found_same p q [] each = refl
found_same p q (x ∷ xs) each = rw (each x, found_same p q xs each) refl

all_same : {X : Type 0} (p q : X → Bool) (xs : List X) → ((x : X) → p x ≡ q x) → list_all p xs ≡ list_all q xs
all_same p q [] each = refl
all_same p q (x ∷ xs) each = rw (each x, all_same p q xs each) refl

-- ---- what is read is what is seen

method_seen : (e : Event) → method_of e ≡ (sight_of e).method
method_seen (events.Call thread method arguments) = refl
method_seen (events.Return thread method value) = refl
method_seen (events.Except thread method) = refl

abbrev is_phase : Phase → Phase → Bool
is_phase Before Before = true
is_phase Before After = false
is_phase Before Exceptional = false
is_phase After Before = false
is_phase After After = true
is_phase After Exceptional = false
is_phase Exceptional Before = false
is_phase Exceptional After = false
is_phase Exceptional Exceptional = true

phase_seen : (e : Event) (phase : Phase) → is_phase_of e phase ≡ is_phase (sight_of e).phase phase
phase_seen (events.Call thread method arguments) Before = refl
phase_seen (events.Call thread method arguments) After = refl
phase_seen (events.Call thread method arguments) Exceptional = refl
phase_seen (events.Return thread method value) Before = refl
phase_seen (events.Return thread method value) After = refl
phase_seen (events.Return thread method value) Exceptional = refl
phase_seen (events.Except thread method) Before = refl
phase_seen (events.Except thread method) After = refl
phase_seen (events.Except thread method) Exceptional = refl

-- the number at the place, where there is one
abbrev number_there : List (Option ℤ) → ℕ → Option ℤ
number_there numbers i = option_and_then (λ number. number) (slice_get numbers i)

argument_seen : (arguments : List ApiValue) (i : ℕ) → option_and_then number_in (slice_get arguments i) ≡ number_there (map number_in arguments) i
argument_seen [] i = refl
argument_seen (value ∷ arguments) zero = refl
argument_seen (value ∷ arguments) (suc i) = argument_seen arguments i

abbrev value_in : Values → Sight → Base → Option ℤ
value_in state sight (bases.Var i) = slice_get state i
value_in state sight (bases.Arg i) = number_there sight.arguments i
value_in state sight bases.Result = sight.result

value_seen : (state : Values) (e : Event) (base : Base) → value_of (moment state e) base ≡ value_in state (sight_of e) base
value_seen state (events.Call thread method arguments) (bases.Var i) = refl
value_seen state (events.Call thread method arguments) (bases.Arg i) = argument_seen arguments i
value_seen state (events.Call thread method arguments) bases.Result = refl
value_seen state (events.Return thread method value) (bases.Var i) = refl
value_seen state (events.Return thread method value) (bases.Arg i) = refl
value_seen state (events.Return thread method value) bases.Result = refl
value_seen state (events.Except thread method) (bases.Var i) = refl
value_seen state (events.Except thread method) (bases.Arg i) = refl
value_seen state (events.Except thread method) bases.Result = refl

-- ---- events of which the same is seen

module _ (e f : Event) (same : sight_of e ≡ sight_of f) where
  speaks_same : (clause : Clause) → speaks_of e clause ≡ speaks_of f clause
  speaks_same clause =
      let methods : method_of e ≡ method_of f = method_seen e ∙ ap (λ (s : Sight). s.method) same ∙ sym (method_seen f) in
      let phases : is_phase_of e clause.phase ≡ is_phase_of f clause.phase = phase_seen e clause.phase ∙ ap (λ (s : Sight). is_phase s.phase clause.phase) same ∙ sym (phase_seen f clause.phase) in
      ap (λ (m : ℕ). (clause.method == m) && is_phase_of e clause.phase) methods ∙ ap (λ (b : Bool). (clause.method == method_of f) && b) phases

  holds_same : (state : Values) (atom : Atom) → holds (moment state e) atom ≡ holds (moment state f) atom
  holds_same state atom =
      let values : value_of (moment state e) atom.base ≡ value_of (moment state f) atom.base = value_seen state e atom.base ∙ ap (λ (s : Sight). value_in state s atom.base) same ∙ sym (value_seen state f atom.base) in
      ap (λ (o : Option ℤ). option_map_or (λ n. relates atom.rel n atom.value) o false) values

  taken_same : (state : Values) (branch : Branch) → is_taken (moment state e) branch ≡ is_taken (moment state f) branch
  taken_same state branch = all_same (holds (moment state e)) (holds (moment state f)) branch.atoms (holds_same state)

  updated_same : (updates : List Update) (state : Values) → updated (moment state e) updates ≡ updated (moment state f) updates
  updated_same [] state = refl
  updated_same (Set var value ∷ updates) state = updated_same updates _
  updated_same (Add var by ∷ updates) state = updated_same updates _

  branch_same : (state : Values) (o : Option Branch) → option_map (λ (branch : Branch). updated (moment state e) branch.updates) o ≡ option_map (λ (branch : Branch). updated (moment state f) branch.updates) o
  branch_same state None = refl
  branch_same state (Some branch) = ap (λ (s : Values). Some s) (updated_same branch.updates state)

  by_same : (state : Values) (clause : Clause) → next_by clause (moment state e) ≡ next_by clause (moment state f)
  by_same state clause =
      ap (option_map (λ (branch : Branch). updated (moment state e) branch.updates)) (found_same (is_taken (moment state e)) (is_taken (moment state f)) clause.branches (taken_same state))
      ∙ branch_same state (find (is_taken (moment state f)) clause.branches)

  clause_same : (policy : Policy) → clause_of policy e ≡ clause_of policy f
  clause_same policy = found_same (speaks_of e) (speaks_of f) policy.clauses speaks_same

  next_same : (policy : Policy) (state : Values) → next policy state e ≡ next policy state f
  next_same policy state = ap (λ (o : Option Clause). option_map_or (λ clause. next_by clause (moment state e)) o (Some state)) (clause_same policy) ∙ by (clause_of policy f) where
    by : (o : Option Clause) → option_map_or (λ clause. next_by clause (moment state e)) o (Some state) ≡ option_map_or (λ clause. next_by clause (moment state f)) o (Some state)
    by None = refl
    by (Some clause) = by_same state clause

pub seen_is_enough : (policy : Policy) (state : Values) (e f : Event) → sight_of e ≡ sight_of f → next policy state e ≡ next policy state f
seen_is_enough policy state e f same = next_same e f same policy state
