-- Steps of a call that is granted: its arguments are loaded, and it is made.
use Rattle.std.proofs.Common.{◌≡◌, ℕ, suc, ◌≤◌, ◌+◌, Bool, true, false, List, [], ◌∷◌, ◌++◌, length, map, reverse, take, drop, Option, Some, None, refl, sym, ap, ◌∙◌, subst, arith, inl, inr, add-one, eqb-true}
use Rattle.std.specs.Prelude.{◌==◌, ◌⊎◌, IfSome, is_some, option_and_then, slice_get}
use Rattle.std.specs.Option.{option_map_or}
use Rattle.std.proofs.lemmas.Bool.{and_parts, cases_Bool}
use Rattle.std.proofs.lemmas.List.{take_at}
use Rattle.api_listing.specs.declared.events.Event.{Event}
use Rattle.api_listing.specs.declared.events.Event.TheVariants as events
use Rattle.api_listing.specs.declared.types.ListedMethod.{ListedMethod}
use Rattle.insn_codec.specs.declared.insn.Insn.{Insn}
use Rattle.insn_codec.specs.declared.shape.Heap.TheVariants as heap
use Rattle.insn_codec.specs.declared.shape.How.{How}
use Rattle.insn_codec.specs.declared.shape.Shape.{Shape}
use Rattle.insn_codec.specs.declared.shape.Shape.TheVariants as shapes
use Rattle.insn_codec.specs.Shapes.{shape_of}
use Rattle.insn_codec.specs.Table.{ends}
use Rattle.bytecode_model.specs.declared.program.Program.{Program}
use Rattle.bytecode_model.specs.declared.program.Target.{Target}
use Rattle.bytecode_model.specs.declared.program.Target.TheVariants as target
use Rattle.bytecode_model.specs.SearchOrder.{Name}
use Rattle.block_logic.specs.Annotations.{Annotations, holds_round, is_always}
use Rattle.cert_format.specs.declared.note.Note.TheVariants as notes
use Rattle.cert_format.specs.declared.note.Phase8.TheVariants.{Before}
use Rattle.cert_format.specs.declared.note.Site.{Site}
use Rattle.conspec_automaton.specs.declared.policy.Clause.{Clause}
use Rattle.conspec_automaton.specs.declared.policy.Policy.{Policy}
use Rattle.conspec_automaton.specs.Next.{Values, has_clause as event_has_clause, has_clauses}
use Rattle.conspec_automaton.specs.Range.{in_range}
use Rattle.conspec_automaton.specs.Events.{FitsClause}
use Rattle.conspec_automaton.specs.Sight.{sight_of}
use Rattle.guest_heap.specs.declared.thread.Doing.TheVariants as doings
use Rattle.conspec_automaton.proofs.Ranges.{found_is}
use Rattle.guest_heap.specs.declared.value.Value.{Value}
use Rattle.guest_frames.specs.Stepping.{moved_to}
use Rattle.guest_model.specs.declared.machine.Machine.{Machine}
use Rattle.guest_model.specs.Calling.{calls as calls_out, calls_library, calls_named, desc_named, is_static_call}
use Rattle.guest_model.specs.Calls.{Taken, arity, taken}
use Rattle.guest_model.specs.Changes.{Change, world_of}
use Rattle.guest_model.specs.Seen.{values_shown}
use Rattle.guest_model.specs.Stepping.{Acting}
use Rattle.guest_model.proofs.Options.{all_append, and_then_of, map_of, some_is}
use Rattle.block_logic.specs.Accepted.{rules_of}
use Rattle.block_logic.specs.Agreement.{Clear, Granted, Owed, Part, Settles, Turns, clause_event}
use Rattle.block_logic.specs.Clauses.{clause_at, needs}
use Rattle.block_logic.specs.Fitting.{IsBlockCall}
use Rattle.block_logic.specs.Meaning.{AreClean, IsAbove, IsChecked, IsClean, IsEventOf, IsGranted, IsJudged, MeansGranted, loads, lock_of, lock_on}
use Rattle.block_logic.specs.Obeying.{FitsListing, IsObeying}
use Rattle.block_logic.specs.Operands.{calls, has_clause}
use Rattle.block_logic.specs.Rows.{Given, Row, Rules, calls_of}
use Rattle.block_logic.specs.Weakening.{in_phase}
use Rattle.block_logic.proofs.Owner.Acting.{ActsIn, OwnLoose, gives_over, goes_with_after, leads_after}
use Rattle.block_logic.proofs.Agreement.{clause_or, its_clause, no_clause}
use Rattle.block_logic.proofs.Owner.Events.{clause_found, has_its_clause}
use Rattle.block_logic.proofs.Owner.Fair.{block_anywhere, clear_fair, event_loose, means_loose}
use Rattle.block_logic.proofs.Owner.Going.{frame_moved}
use Rattle.block_logic.proofs.Owner.GrantedRows.{CallsMethod, LeavesLock, LoadsNext, PushesLock, granted_cases}
use Rattle.block_logic.proofs.Owner.Moves.{loads as loads_local, on_heap}
use Rattle.block_logic.proofs.Owner.Passed.{TakesClean, loaded_clean, loaded_many, seen_same, takes_clean}
use Rattle.block_logic.proofs.Owner.Pushes.{pushes_lock}
use Rattle.block_logic.proofs.Owner.Rows.{Asks}
use Rattle.block_logic.proofs.Owner.Weakening.{beq_is}
use Rattle.block_logic.proofs.Owner.Unlocked.{never_unlocked}
use Rattle.block_logic.proofs.Ruled.{RulesHold}
use Rattle.block_logic.proofs.Racing.{IsLooseEvent}
use Rattle.block_logic.proofs.Steps.{AreLoose, ChangesBlock, IsFit, LocksAre, Stays, VariablesAre}

-- ---- calls

pub how_calls : (shape : Shape) → calls shape ≡ true → (how : How) × (shape ≡ shapes.Heap (heap.Call how))
how_calls (shapes.Heap (heap.Call how)) e = (how, refl)
how_calls shape e = absurd cc

-- the method of the site is called
called_of : (site : Site) (shape : Shape) (ref : Target) → calls_of site shape ref ≡ true → (calls shape ≡ true) × (ref ≡ target.ApiMethod site.method)
called_of site shape (target.ApiMethod method) e =
    let p = and_parts (calls shape) (method == site.method) e in
    (p.0, ap target.ApiMethod (eqb-true method site.method p.1))
called_of site shape ref e = absurd cc

-- what a call of the library comes to
record IsLibraryCall (program : Program) (machine : Machine) (a : Acting) (change : Change) (how : How) (method : ℕ) : Type 0 where
  pub listed : ListedMethod
  pub there : slice_get program.listing.methods method ≡ Some listed
  pub passed : Taken
  pub took : taken (is_static_call how) (arity listed.id.desc) a.frame.stack.items ≡ Some passed
  pub is : change ≡ calls_library program (world_of machine) (record { number = a.number; thread = a.thread; frame = a.frame; below = a.below; passed = passed }) method

library_call : (program : Program) (machine : Machine) (a : Acting) (change : Change) (how : How) (method : ℕ)
    → calls_out program machine a.number a.thread a.frame a.below how (target.ApiMethod method) ≡ Some change → IsLibraryCall program machine a change how method
library_call program machine a change how method e =
    let desc = and_then_of (λ (desc : Name). option_and_then (λ (passed : Taken). calls_named program machine
    (record { number = a.number; thread = a.thread; frame = a.frame; below = a.below; passed = passed }) how (target.ApiMethod method)) (taken (is_static_call how) (arity desc) a.frame.stack.items))
    (desc_named program (target.ApiMethod method)) change e in
    let passed = and_then_of (λ (passed : Taken). calls_named program machine
    (record { number = a.number; thread = a.thread; frame = a.frame; below = a.below; passed = passed }) how (target.ApiMethod method))
    (taken (is_static_call how) (arity desc.0) a.frame.stack.items) change desc.2 in
    let listed = map_of (λ (m : ListedMethod). m.id.desc) (slice_get program.listing.methods method) desc.0 desc.1 in
    record {
      listed = listed.0;
      there = listed.1;
      passed = passed.0;
      took = subst (λ (d : Name). taken (is_static_call how) (arity d) a.frame.stack.items ≡ Some passed.0) (sym listed.2) passed.1;
      is = sym (some_is _ change passed.2);
    }

module _ (program : Program) (policy : Policy) (annotations : Annotations) (o : IsObeying program policy annotations) where
  -- a method is granted as many arguments as it takes
  needs_all : (method : ℕ) (clause : Clause) (listed : ListedMethod) → clause_at policy method Before ≡ Some clause → slice_get program.listing.methods method ≡ Some listed
      → (length clause.args ≡ arity listed.id.desc) × (needs policy method ≡ arity listed.id.desc)
  needs_all method clause listed is there =
      let found = found_is (FitsListing program.listing) _ policy.clauses clause o.listed is in
      let p = and_parts (clause.method == method) _ found.passes in
      let same : slice_get program.listing.methods clause.method ≡ Some listed = ap (slice_get program.listing.methods) (eqb-true clause.method method p.0) ∙ there in
      let fits = (found.so listed same).0 in
      (fits, ap (λ (c : Option Clause). option_map_or (λ (d : Clause). length d.args) c 0) is ∙ fits)

  module _ (rules_hold : RulesHold program policy annotations)
      (mine : Bool) (machine : Machine) (a : Acting) (next : Insn × Target) (change : Change) (fields : List Value) (recorded : Values) (part : Part) (ranged : in_range policy recorded ≡ true)
      (site : Site) (locked : Bool) (count : ℕ) (top : Bool) (h : ActsIn program policy annotations mine machine a next change (notes.Granted site locked count top) fields)
      (m : MeansGranted program policy annotations.held mine recorded fields a.frame site locked count top part) where
    abbrev rules : Rules
    rules = rules_of program policy annotations

    abbrev Changes : Type 0
    Changes = ChangesBlock program policy annotations mine (world_of machine) a.number recorded part change

    abbrev r : Row
    r = h.ruled.r

    -- the same, with more on the stack
    granted_on : (to : ℕ) (items : List Value) (n : ℕ) (on : Bool) (loaded : List Value) → n ≤ needs policy site.method → map Some loaded ≡ loads site.base a.frame.locals n
        → IsAbove program (lock_on program on ++ loaded) items
        → MeansGranted program policy annotations.held mine recorded fields (moved_to a.frame to a.frame.locals items) site mine n on part
    granted_on to items n on loaded few are above = record {
      holds = refl;
      round = m.round;
      granted = m.granted;
      variables = m.variables;
      few = few;
      loaded = loaded;
      are = are;
      above = above;
    }

    bare_above : top ≡ false → IsAbove program m.loaded a.frame.stack.items
    bare_above bare = subst (λ (on : Bool). IsAbove program (lock_on program on ++ m.loaded) a.frame.stack.items) bare m.above

    -- ---- the next argument is loaded

    own_loose : OwnLoose program policy annotations mine part
    own_loose other =
        means_loose program policy annotations recorded fields a.frame (notes.Granted site locked count top) part
        (subst (λ (b : Bool). MeansGranted program policy annotations.held b recorded fields a.frame site locked count top part) other m)

    pub loading : LoadsNext rules site locked count top (shape_of next.0) next.1 r → Changes
    loading c =
        let l = loads_local program machine a change next h.step c.kind (site.base + count) c.is in
        let above = bare_above c.bare in
        let items = l.0 ∷ a.frame.stack.items in
        let more : map Some (l.0 ∷ m.loaded) ≡ loads site.base a.frame.locals (suc count) = rw (l.1.there, m.are) refl in
        let are : map Some (l.0 ∷ m.loaded) ≡ loads site.base a.frame.locals (count + 1) = rw (add-one count) more in
        let asks : Asks r (Given (notes.Granted site mine (count + 1) false)) = subst (λ (b : Bool). Asks r (Given (notes.Granted site b (count + 1) false))) m.holds c.asks in
        goes_with_after program policy annotations o mine machine a next change _ fields h recorded part ranged own_loose items (notes.Granted site mine (count + 1) false) (ap ends c.is) asks l.2
        (granted_on (a.frame.at + 1) items (count + 1) false (l.0 ∷ m.loaded) (omega (arith, c.less)) are
        (record { rest = above.rest; is = ap (λ (vs : List Value). l.0 ∷ vs) above.is; clean = above.clean }))

    -- ---- the lock is pushed

    pub pushing : PushesLock rules site locked count top (shape_of next.0) next.1 r → Changes
    pushing c =
        let p = pushes_lock program policy annotations machine a change next h.step c.pushes in
        let above = bare_above c.bare in
        let items = lock_of program ∷ a.frame.stack.items in
        let asks : Asks r (Given (notes.Granted site mine count true)) = subst (λ (b : Bool). Asks r (Given (notes.Granted site b count true))) m.holds c.asks in
        goes_with_after program policy annotations o mine machine a next change _ fields h recorded part ranged own_loose items (notes.Granted site mine count true) p.1 asks p.0
        (granted_on (a.frame.at + 1) items count true m.loaded m.few m.are
        (record { rest = above.rest; is = ap (λ (vs : List Value). lock_of program ∷ vs) above.is; clean = above.clean }))

    -- ---- the call is made

    module _ (c : CallsMethod rules site locked count top (shape_of next.0) next.1 r) where
      call_is : (calls (shape_of next.0) ≡ true) × (next.1 ≡ target.ApiMethod site.method)
      call_is = called_of site (shape_of next.0) next.1 c.calls

      -- its method has a clause
      clauses : has_clauses policy site.method ≡ true
      clauses = elim (cases_Bool (has_clause policy next.1)) [
        | inl has ↦ ap (has_clause policy) (sym call_is.1) ∙ has
        | inr none ↦ let not_so : false ≡ true = h.ruled.unclaused call_is.0 none in absurd cc
      ]

      items_clean : AreClean program a.frame.stack.items
      items_clean =
          let above = bare_above c.bare in
          subst (AreClean program) (sym above.is)
          (all_append (IsClean program) m.loaded above.rest (loaded_clean program site.base a.frame.locals count m.loaded h.acts.well.locals m.are) above.clean)

      module _ (how : How) (l : IsLibraryCall program machine a change how site.method) where
        taken_clean : TakesClean program (arity l.listed.id.desc) a.frame.stack.items l.passed
        taken_clean = takes_clean program (is_static_call how) (arity l.listed.id.desc) a.frame.stack.items l.passed items_clean l.took

        abbrev event : Event
        event = events.Call a.number site.method (values_shown program machine.heap l.passed.arguments)

        of_event : IsEventOf (in_phase Before site) event
        of_event = record { method = refl; phase = refl }

        has : event_has_clause policy event ≡ is_some (clause_at policy site.method Before)
        has = has_its_clause policy (in_phase Before site) event of_event

        -- what is passed was loaded
        arguments_are : (clause : Clause) → clause_at policy site.method Before ≡ Some clause → l.passed.arguments ≡ reverse m.loaded
        arguments_are clause there =
            let above = bare_above c.bare in
            let many : length m.loaded ≡ arity l.listed.id.desc = loaded_many program site.base a.frame.locals count m.loaded m.are ∙ c.all ∙ (needs_all site.method clause l.listed there l.there).1 in
            taken_clean.arguments_are ∙ ap (λ (vs : List Value). reverse (take (arity l.listed.id.desc) vs)) above.is ∙ ap reverse (take_at m.loaded above.rest (arity l.listed.id.desc) many)

        -- round its method the lock is held or not, as it is by the thread
        round : holds_round annotations.held site.method ≡ mine
        round = sym (beq_is locked (holds_round annotations.held site.method) c.locks) ∙ m.holds

        abbrev Known : Clause → Type 0
        Known clause = (is_always annotations.held ≡ true) ⊎ FitsClause clause (events.Call a.number site.method (values_shown program machine.heap (reverse m.loaded)))

        -- it is told of as it is
        seen_so : (clause : Clause) → clause_at policy site.method Before ≡ Some clause
            → (checked : IsChecked program policy annotations.held site clause part a.frame.locals) → IfSome (Some event) (IsFit program policy annotations) → sight_of event ≡ sight_of checked.event
        seen_so clause there checked fit =
            let all = needs_all site.method clause l.listed there l.there in
            let as_many : length clause.args ≡ count = all.0 ∙ sym all.1 ∙ sym c.all in
            let same = seen_same program machine.heap site a.frame.locals m.loaded a.number count m.are clause as_many checked.event checked.of (is_always annotations.held) checked.told
            (known_exactly clause there fit) in
            ap (λ (vs : List Value). sight_of (events.Call a.number site.method (values_shown program machine.heap vs))) (arguments_are clause there) ∙ same
          where
            known_exactly : (clause : Clause) → clause_at policy site.method Before ≡ Some clause → IsFit program policy annotations event → Known clause
            known_exactly clause there fit = by (is_always annotations.held) refl o.judged where
              by : (b : Bool) → is_always annotations.held ≡ b → IsJudged program policy annotations.held → Known clause
              by true always judged = inl always
              by false loose (inl always) = inl always
              by false loose (inr releasing) =
                  let fits = fit loose releasing.formed clause (clause_found policy (in_phase Before site) event of_event ∙ there) in
                  inr (subst (λ (vs : List Value). FitsClause clause (events.Call a.number site.method (values_shown program machine.heap vs))) (arguments_are clause there) fits)

        -- What was granted is called.
        called : (clause : Option Clause) → clause_at policy site.method Before ≡ clause → IsGranted program policy annotations.held site clause part a.frame.locals
            → IfSome (Some event) (IsFit program policy annotations) → Turns policy recorded part (clause_event policy (Some event)) recorded Clear
        called None there clear fit =
            let none : clause_event policy (Some event) ≡ None = no_clause policy (Some event) (has ∙ ap is_some there) in
            rw (none, clear) refl
        called (Some clause) there checked fit =
            let one : clause_event policy (Some event) ≡ Some event = its_clause policy event (has ∙ ap is_some there) in
            rw (one, checked.is) (refl, seen_so clause there checked fit)

        note_is : notes.Granted site locked count top ≡ notes.Granted site mine (needs policy site.method) false
        note_is = let counts : count ≡ needs policy site.method = c.all in let locks : locked ≡ mine = m.holds in let tops : top ≡ false = c.bare in rw (counts, locks, tops) refl

        -- the frame waits for the answer
        waits : IsBlockCall program policy annotations mine recorded fields site.method (moved_to a.frame a.frame.at a.frame.locals l.passed.beneath) Clear
        waits = record {
          round = round;
          well = frame_moved program policy annotations o a.frame h.acts.well a.frame.at a.frame.locals l.passed.beneath h.acts.well.locals;
          site = site;
          of = refl;
          at_call = record {
            insn = next.0;
            there = h.acts.there ∙ ap (λ (ref : Target). Some (next.0, ref)) call_is.1;
            call = call_is.0;
            told = h.acts.told ∙ ap Some note_is;
            clean = taken_clean.beneath;
          };
          clear = refl;
          variables = m.variables;
        }

        abbrev made : Change
        made = calls_library program (world_of machine) (record { number = a.number; thread = a.thread; frame = a.frame; below = a.below; passed = l.passed }) site.method

        -- the event is of the site, and loose where the thread does not hold the lock
        seen_loose : mine ≡ false → IfSome (clause_event policy (Some event)) (IsLooseEvent policy annotations.held (IsFit program policy annotations))
        seen_loose other = clause_or (IsLooseEvent policy annotations.held (IsFit program policy annotations)) policy event (event_loose program policy annotations (in_phase Before site) event of_event (round ∙ other))

        are_loose : (b : Bool) → mine ≡ b → AreLoose program policy annotations b part (clause_event policy (Some event)) Clear
        are_loose true is = tt
        are_loose false is = (own_loose is, tt, seen_loose is)

        stays : (b : Bool) → mine ≡ b → Stays program policy annotations b (world_of machine) a.number made recorded recorded Clear
        stays true is = inl (record {
          locks = subst (λ (x : Bool). LocksAre program policy annotations x a.number (world_of machine) (world_of machine)) is h.locked;
          fields = fields;
          variables = subst (λ (x : Bool). VariablesAre program policy annotations x fields (world_of machine) (world_of machine)) is h.there;
          owns = (clauses, (subst (λ (x : Bool). IsBlockCall program policy annotations x recorded fields site.method (moved_to a.frame a.frame.at a.frame.locals l.passed.beneath) Clear) is waits, h.acts.below), (taken_clean.receiver, taken_clean.arguments));
        })
        stays false is = record {
          locks = refl;
          variables = refl;
          still = refl;
          other = inr (block_anywhere program policy annotations recorded [] fields [] (moved_to a.frame a.frame.at a.frame.locals l.passed.beneath ∷ a.below)
              (doings.InCall site.method l.passed.receiver l.passed.arguments) Clear
              (clauses, (subst (λ (x : Bool). IsBlockCall program policy annotations x recorded fields site.method (moved_to a.frame a.frame.at a.frame.locals l.passed.beneath) Clear) is waits, h.acts.below), (taken_clean.receiver, taken_clean.arguments)));
        }

        changes : IfSome (Some event) (IsFit program policy annotations) → ChangesBlock program policy annotations mine (world_of machine) a.number recorded part made
        changes fit = record {
          begins = refl;
          now = recorded;
          ranged = ranged;
          due = Clear;
          turns = called (clause_at policy site.method Before) refl m.granted fit;
          fair = clear_fair program policy annotations;
          fit = clause_or (IsFit program policy annotations) policy event fit;
          loose = are_loose mine refl;
          goes = λ on. (h.acts.world, stays mine refl);
        }

      pub calling : Changes
      calling =
          let how = how_calls (shape_of next.0) call_is.0 in
          let made : calls_out program machine a.number a.thread a.frame a.below how.0 (target.ApiMethod site.method) ≡ Some change =
          subst (λ (ref : Target). calls_out program machine a.number a.thread a.frame a.below how.0 ref ≡ Some change) call_is.1 (on_heap program machine a change next h.step (heap.Call how.0) how.1) in
          let l = library_call program machine a change how.0 site.method made in
          subst (ChangesBlock program policy annotations mine (world_of machine) a.number recorded part) (sym l.is)
          (changes how.0 l (subst (λ (x : Change). IfSome x.event (IsFit program policy annotations)) l.is h.fit))

  -- ---- the lock is left

  module _ (rules_hold : RulesHold program policy annotations)
      (machine : Machine) (a : Acting) (next : Insn × Target) (change : Change) (fields : List Value) (recorded : Values) (part : Part) (ranged : in_range policy recorded ≡ true)
      (site : Site) (locked : Bool) (count : ℕ) (top : Bool) (h : ActsIn program policy annotations true machine a next change (notes.Granted site locked count top) fields)
      (m : MeansGranted program policy annotations.held true recorded fields a.frame site locked count top part) where
    abbrev Given_up : Type 0
    Given_up = ChangesBlock program policy annotations true (world_of machine) a.number recorded part change

    settles_still : (p : Part) → Settles policy recorded p recorded p
    settles_still Clear = refl
    settles_still (Granted call) = (refl, refl)
    settles_still (Owed end) = (refl, refl)

    leaving : LeavesLock (rules_of program policy annotations) site locked count top (shape_of next.0) next.1 h.ruled.r → Given_up
    leaving c = elim (cases_Bool (holds_round annotations.held site.method)) [
      | inl held ↦
          let leads = leads_after program policy annotations o true machine a next change _ fields h recorded part ranged (Given (notes.Granted site false count false)) (ap ends c.is) c.asks.past in
          absurd (never_unlocked program policy annotations o rules_hold site held a.frame next count h.acts.there (ap ends c.is) leads)
      | inr round ↦
          let on : IsAbove program (lock_of program ∷ m.loaded) a.frame.stack.items = subst (λ (b : Bool). IsAbove program (lock_on program b ++ m.loaded) a.frame.stack.items) c.on m.above in
          let in_locals : AreClean program m.loaded = loaded_clean program site.base a.frame.locals count m.loaded h.acts.well.locals m.are in
          let above : IsAbove program (lock_of program ∷ []) a.frame.stack.items =
          record { rest = m.loaded ++ on.rest; is = on.is; clean = all_append (IsClean program) m.loaded on.rest in_locals on.clean } in
          gives_over program policy annotations o machine a next change _ fields h recorded part ranged c.is above (notes.Granted site false count false) c.asks recorded part ranged (settles_still part) m.variables
          (record {
            holds = refl;
            round = round;
            granted = m.granted;
            variables = tt;
            few = m.few;
            loaded = m.loaded;
            are = m.are;
            above = record { rest = on.rest; is = ap (drop 1) on.is; clean = on.clean };
          })
    ]

    -- An instruction of a granted call changes what it may.
    pub granted_steps : Given_up
    granted_steps = elim (granted_cases (rules_of program policy annotations) site locked count top (shape_of next.0) next.1 h.ruled.r h.ruled.has) [
      | inl c ↦ loading rules_hold true machine a next change fields recorded part ranged site locked count top h m c
      | inr (inl c) ↦ pushing rules_hold true machine a next change fields recorded part ranged site locked count top h m c
      | inr (inr (inl c)) ↦ leaving c
      | inr (inr (inr c)) ↦ calling rules_hold true machine a next change fields recorded part ranged site locked count top h m c
    ]

  -- of a thread that does not hold the lock
  pub loose_steps : (rules_hold : RulesHold program policy annotations) (machine : Machine) (a : Acting) (next : Insn × Target) (change : Change) (fields : List Value) (recorded : Values) (part : Part)
      (ranged : in_range policy recorded ≡ true) (site : Site) (locked : Bool) (count : ℕ) (top : Bool) (h : ActsIn program policy annotations false machine a next change (notes.Granted site locked count top) fields)
      (m : MeansGranted program policy annotations.held false recorded fields a.frame site locked count top part)
      → ChangesBlock program policy annotations false (world_of machine) a.number recorded part change
  loose_steps rules_hold machine a next change fields recorded part ranged site locked count top h m =
      elim (granted_cases (rules_of program policy annotations) site locked count top (shape_of next.0) next.1 h.ruled.r h.ruled.has) [
        | inl c ↦ loading rules_hold false machine a next change fields recorded part ranged site locked count top h m c
        | inr (inl c) ↦ pushing rules_hold false machine a next change fields recorded part ranged site locked count top h m c
        | inr (inr (inl c)) ↦ let not_so : false ≡ true = sym m.holds ∙ c.locks in absurd cc
        | inr (inr (inr c)) ↦ calling rules_hold false machine a next change fields recorded part ranged site locked count top h m c
      ]
