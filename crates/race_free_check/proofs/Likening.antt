-- For each event with a clause, one of those that are tried for the clause is like it.
use Rattle.std.proofs.Common.{◌≡◌, inl, inr, ℕ, ℤ, true, List, [], ◌∷◌, Option, Some, None, refl, sym, subst, arith}
use Rattle.std.specs.Prelude.{◌==◌, flat_map, length, slice_get}
use Rattle.std.proofs.lemmas.Bool.{and_parts, eq-eqb, false≢true}
use Rattle.api_listing.specs.declared.events.ApiValue.{ApiValue}
use Rattle.api_listing.specs.declared.events.Event.{Event}
use Rattle.api_listing.specs.declared.events.Event.TheVariants as events
use Rattle.conspec_tree.specs.declared.types.Atom.{Atom}
use Rattle.conspec_tree.specs.declared.types.Base.{Base}
use Rattle.conspec_tree.specs.declared.types.Base.TheVariants as bases
use Rattle.conspec_tree.specs.declared.types.Kind.{Kind}
use Rattle.conspec_tree.specs.declared.types.Phase.{Phase}
use Rattle.conspec_tree.specs.declared.types.Phase.TheVariants.{Before, After, Exceptional}
use Rattle.conspec_tree.specs.declared.types.Var.{Var}
use Rattle.conspec_tree.specs.Tree.{IsBase, IsNumber, asked}
use Rattle.conspec_automaton.specs.declared.policy.Branch.{Branch}
use Rattle.conspec_automaton.specs.declared.policy.Clause.{Clause}
use Rattle.conspec_tree.specs.Kinds.{number_range, passed_range, is_number}
use Rattle.conspec_automaton.specs.Events.{FitsClause, IsNumberOf}
use Rattle.conspec_automaton.specs.Next.{is_phase_of, speaks_of}
use Rattle.conspec_automaton.specs.Points.{arguments_of, atoms_in, constants_of, each_choice, events_in, events_of, is_same, made_in, results_of}
use Rattle.conspec_automaton.specs.Sound.{IsClauseIn}
use Rattle.race_free_check.proofs.EachChoice.{in_each_choice}
use Rattle.race_free_check.proofs.Members.{Among, Has, flat_has, in_map, of_all}
use Rattle.race_free_check.proofs.Passing.{NumbersOf, Tried, numbers_given, numbers_meet, numbers_passed, try_all, try_result}
use Rattle.race_free_check.proofs.Sides.{LikeEvents, PassesAlike, constant_in}

-- ---- phases

pub phase_before : (phase : Phase) (thread method : ℕ) (given : List ApiValue) → is_phase_of (events.Call thread method given) phase ≡ true → phase ≡ Before
phase_before Before thread method given e = refl
phase_before After thread method given e = absurd (false≢true e)
phase_before Exceptional thread method given e = absurd (false≢true e)

pub phase_after : (phase : Phase) (thread method : ℕ) (given : Option ApiValue) → is_phase_of (events.Return thread method given) phase ≡ true → phase ≡ After
phase_after Before thread method given e = absurd (false≢true e)
phase_after After thread method given e = refl
phase_after Exceptional thread method given e = absurd (false≢true e)

pub phase_exceptional : (phase : Phase) (thread method : ℕ) → is_phase_of (events.Except thread method) phase ≡ true → phase ≡ Exceptional
phase_exceptional Before thread method e = absurd (false≢true e)
phase_exceptional After thread method e = absurd (false≢true e)
phase_exceptional Exceptional thread method e = refl

-- ---- what a clause asks

-- the kind of a number that may be asked
record Asks (o : Option Kind) : Type 0 where
  pub kind : Kind
  pub is : o ≡ Some kind
  pub number : is_number kind ≡ true

asks : (o : Option Kind) → IsNumber o → Asks o
asks None number = absurd number
asks (Some kind) number = record { kind = kind; is = refl; number = number }

module _ (vars : List Var) (maxint : ℤ) (c : Clause) (sound : IsClauseIn vars maxint c) where
  base_is : (a : Atom) → Has (atoms_in (c ∷ [])) a → IsBase (length vars) (asked c.phase c.args c.result) a.base
  base_is a h = by found.there where
    found : Among (c ∷ []) (λ (d : Clause). Has (flat_map (λ (b : Branch). b.atoms) d.branches) a)
    found = flat_has (λ (d : Clause). flat_map (λ (b : Branch). b.atoms) d.branches) (c ∷ []) a h

    at : Has (flat_map (λ (b : Branch). b.atoms) c.branches) a → IsBase (length vars) (asked c.phase c.args c.result) a.base
    at inside =
        let branch = flat_has (λ (b : Branch). b.atoms) c.branches a inside in
        let is = of_all _ c.branches branch.item sound.branches branch.there in
        of_all (λ (a : Atom). IsBase (length vars) (asked c.phase c.args c.result) a.base) branch.item.atoms a is.atoms branch.so

    by : Has (c ∷ []) found.item → IsBase (length vars) (asked c.phase c.args c.result) a.base
    by (inl same) = at (subst (λ (d : Clause). Has (flat_map (λ (b : Branch). b.atoms) d.branches) a) (sym same) found.so)
    by (inr none) = absurd none

  at_phase : (phase : Phase) (event : Event) → c.phase ≡ phase → Has (events_in c phase) event → Has (events_of c) event
  at_phase phase event e h = subst (λ (p : Phase). Has (events_in c p) event) (sym e) h

  -- ---- calls

  module _ (thread method : ℕ) (given : List ApiValue) (phase : c.phase ≡ Before) where
    call_like : (t : Tried c given 0 c.args) → LikeEvents c (events.Call thread method given) (events.Call 0 c.method t.values)
    call_like t a h = by a.base refl based where
      based : IsBase (length vars) (asked Before c.args c.result) a.base
      based = subst (λ (p : Phase). IsBase (length vars) (asked p c.args c.result) a.base) phase (base_is a h)

      by : (b : Base) → a.base ≡ b → IsBase (length vars) (asked Before c.args c.result) b → PassesAlike (events.Call thread method given) (events.Call 0 c.method t.values) a.value b
      by (bases.Var i) is of = tt
      by (bases.Arg i) is of =
          let asked = asks (slice_get c.args i) of in
          let numbers = t.tries i i asked.kind (omega arith) asked.is in
          let same : is_same (bases.Arg i) a.base ≡ true = rw is (eq-eqb i i refl) in
          numbers_meet (constants_of (bases.Arg i) (c ∷ [])) a.value (slice_get given i) (slice_get t.values i) (constant_in (c ∷ []) (bases.Arg i) a h same)
          (numbers_passed asked.kind (constants_of (bases.Arg i) (c ∷ [])) (slice_get given i) (slice_get t.values i) asked.number numbers)
      by bases.Result is of = absurd of

    try_call : FitsClause c (events.Call thread method given) → Among (events_of c) (LikeEvents c (events.Call thread method given))
    try_call fits =
        let t = try_all c given c.args 0 (λ j k kind e there. let same : j ≡ k = omega arith in subst (λ (i : ℕ). IsNumberOf (passed_range kind) (slice_get given i)) same (fits j kind there)) in
        let there : Has (events_in c Before) (events.Call 0 c.method t.values) = in_map (made_in c Before) (each_choice (arguments_of c)) t.values (in_each_choice (arguments_of c) t.values t.choice) in
        record { item = events.Call 0 c.method t.values; there = at_phase Before (events.Call 0 c.method t.values) phase there; so = call_like t }

  -- ---- returns

  module _ (thread method : ℕ) (given : Option ApiValue) (phase : c.phase ≡ After) where
    return_like : (value : Option ApiValue) → ((kind : Kind) → c.result ≡ Some kind → NumbersOf (number_range kind) (constants_of bases.Result (c ∷ [])) given value)
        → LikeEvents c (events.Return thread method given) (events.Return 0 c.method value)
    return_like value tries a h = by a.base refl based where
      based : IsBase (length vars) (asked After c.args c.result) a.base
      based = subst (λ (p : Phase). IsBase (length vars) (asked p c.args c.result) a.base) phase (base_is a h)

      by : (b : Base) → a.base ≡ b → IsBase (length vars) (asked After c.args c.result) b → PassesAlike (events.Return thread method given) (events.Return 0 c.method value) a.value b
      by (bases.Var i) is of = tt
      by (bases.Arg i) is of = absurd of
      by bases.Result is of =
          let asked = asks c.result of in
          let same : is_same bases.Result a.base ≡ true = rw is refl in
          numbers_meet (constants_of bases.Result (c ∷ [])) a.value given value (constant_in (c ∷ []) bases.Result a h same)
          (numbers_given asked.kind (constants_of bases.Result (c ∷ [])) given value asked.number (tries asked.kind asked.is))

    try_return : FitsClause c (events.Return thread method given) → Among (events_of c) (LikeEvents c (events.Return thread method given))
    try_return fits =
        let t = try_result c given c.result fits in
        let value = slice_get t.values 0 in
        let there : Has (events_in c After) (events.Return 0 c.method value) = in_map (made_in c After) (each_choice (results_of c)) t.values (in_each_choice (results_of c) t.values t.choice) in
        record { item = events.Return 0 c.method value; there = at_phase After (events.Return 0 c.method value) phase there; so = return_like value t.tries }

  -- ---- ends by an exception

  module _ (thread method : ℕ) (phase : c.phase ≡ Exceptional) where
    except_like : LikeEvents c (events.Except thread method) (events.Except 0 c.method)
    except_like a h = by a.base based where
      based : IsBase (length vars) (asked Exceptional c.args c.result) a.base
      based = subst (λ (p : Phase). IsBase (length vars) (asked p c.args c.result) a.base) phase (base_is a h)

      by : (b : Base) → IsBase (length vars) (asked Exceptional c.args c.result) b → PassesAlike (events.Except thread method) (events.Except 0 c.method) a.value b
      by (bases.Var i) of = tt
      by (bases.Arg i) of = absurd of
      by bases.Result of = absurd of

    try_except : Among (events_of c) (LikeEvents c (events.Except thread method))
    try_except =
        let there : Has (events_in c Exceptional) (events.Except 0 c.method) = inl refl in
        record { item = events.Except 0 c.method; there = at_phase Exceptional (events.Except 0 c.method) phase there; so = except_like }

  -- ---- events

  -- an event that is tried is like each that the clause speaks of
  pub try_event : (event : Event) → speaks_of event c ≡ true → FitsClause c event → Among (events_of c) (LikeEvents c event)
  try_event (events.Call thread method given) speaks fits =
      let p = and_parts (c.method == method) (is_phase_of (events.Call thread method given) c.phase) speaks in
      try_call thread method given (phase_before c.phase thread method given p.1) fits
  try_event (events.Return thread method given) speaks fits =
      let p = and_parts (c.method == method) (is_phase_of (events.Return thread method given) c.phase) speaks in
      try_return thread method given (phase_after c.phase thread method given p.1) fits
  try_event (events.Except thread method) speaks fits =
      let p = and_parts (c.method == method) (is_phase_of (events.Except thread method) c.phase) speaks in
      try_except thread method (phase_exceptional c.phase thread method p.1)
