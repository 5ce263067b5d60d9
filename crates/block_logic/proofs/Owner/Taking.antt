-- The lock is taken where nobody holds it, and is waited for while another thread does.
use Rattle.std.proofs.Common.{◌≡◌, ℕ, zero, suc, ◌<◌, ◌+◌, ℤ, pos, Bool, true, false, List, [], ◌∷◌, ◌++◌, length, drop, Option, Some, None, refl, sym, ap, ◌∙◌, subst, arith, inl, inr}
use Rattle.std.specs.Bool.{beq}
use Rattle.std.specs.Int.{w32}
use Rattle.std.specs.Prelude.{◌-ℤ◌, ◌≢◌, FitsSigned, int_le, is_some, negsuc, option_and_then, slice_get}
use Rattle.std.proofs.lemmas.Bool.{and_from, and_parts, cases_Bool, le-leb}
use Rattle.std.proofs.lemmas.List.{length-map}
use Rattle.api_listing.specs.declared.events.ApiValue.{ApiValue}
use Rattle.api_listing.specs.declared.events.ApiValue.TheVariants as api
use Rattle.api_listing.specs.declared.events.Event.{Event}
use Rattle.api_listing.specs.declared.events.Event.TheVariants as events
use Rattle.insn_codec.specs.declared.insn.Insn.{Insn}
use Rattle.insn_codec.specs.declared.shape.Heap.TheVariants as heap
use Rattle.insn_codec.specs.declared.shape.Shape.TheVariants as shapes
use Rattle.insn_codec.specs.Shapes.{shape_of}
use Rattle.insn_codec.specs.Table.{ends}
use Rattle.bytecode_model.specs.declared.program.Program.{Program}
use Rattle.bytecode_model.specs.declared.program.Target.{Target}
use Rattle.block_logic.specs.Annotations.{Annotations, is_always}
use Rattle.cert_format.specs.declared.note.Note.{Note}
use Rattle.cert_format.specs.declared.note.Note.TheVariants as notes
use Rattle.cert_format.specs.declared.note.Phase8.{Phase8}
use Rattle.cert_format.specs.declared.note.Phase8.TheVariants.{Before}
use Rattle.cert_format.specs.declared.note.Site.{Site}
use Rattle.conspec_tree.specs.declared.types.Kind.{Kind}
use Rattle.conspec_tree.specs.declared.types.Phase.TheVariants as phases
use Rattle.conspec_automaton.specs.declared.policy.Clause.{Clause}
use Rattle.conspec_automaton.specs.declared.policy.Policy.{Policy}
use Rattle.conspec_tree.specs.Kinds.{number_range, passed_range}
use Rattle.conspec_automaton.specs.Events.{IsNumberOf}
use Rattle.conspec_automaton.specs.Next.{Values, has_clauses, number_in as shown_number}
use Rattle.conspec_automaton.specs.Range.{in_range, is_between}
use Rattle.guest_heap.specs.declared.frame.Frame.{Frame}
use Rattle.guest_heap.specs.declared.value.Value.{Value}
use Rattle.guest_heap.specs.declared.value.Value.TheVariants as values
use Rattle.guest_frames.specs.Stepping.{moved_to}
use Rattle.guest_model.specs.Changes.{Change, with_monitors, world_of}
use Rattle.guest_model.specs.Parts.{number_in}
use Rattle.guest_model.specs.declared.machine.Machine.{Machine}
use Rattle.guest_model.specs.Stepping.{Acting, enters, insn_stepped}
use Rattle.guest_model.proofs.Options.{and_then_of, some_is}
use Rattle.block_logic.specs.Accepted.{rules_of}
use Rattle.block_logic.specs.Agreement.{Clear, Part}
use Rattle.block_logic.specs.Clauses.{clause_at, clause_of, is_of_phase}
use Rattle.block_logic.specs.Fitting.{held_locks, locked_by}
use Rattle.block_logic.specs.Formed.{FitsRuns}
use Rattle.block_logic.specs.Meaning.{AreClean, AreState, IsAbove, IsDue, IsEventOf, IsGranted, IsOwed, Means, MeansHeld, MeansOwed, TellsArguments, TellsIn, TellsOne, lock_of, lock_on}
use Rattle.block_logic.specs.Obeying.{IsObeying}
use Rattle.block_logic.specs.Rows.{Asked, Given, Nothing, begins_owed, note_taken}
use Rattle.block_logic.specs.Weakening.{asks_kept, begun, in_phase, is_before}
use Rattle.block_logic.specs.Terms.{as_taken}
use Rattle.block_logic.proofs.Owner.Events.{clause_found}
use Rattle.block_logic.proofs.Owner.Going.{block_frame, goes_after, goes_in}
use Rattle.block_logic.proofs.Owner.Lock.{lock_taken, lock_waits}
use Rattle.block_logic.proofs.Owner.Moves.{enters_lock}
use Rattle.block_logic.proofs.Owner.Owed.{TakesLock}
use Rattle.block_logic.proofs.Owner.Rows.{enters_is, gives_asks, where_so}
use Rattle.block_logic.proofs.Owner.Weakening.{before_is, begins_after, begun_means, beq_is, none_there, some_there}
use Rattle.block_logic.proofs.Ruled.{IsRuled, LeadsTo, RulesHold}
use Rattle.block_logic.proofs.Steps.{Acts, ChangesBlock, HasIntsIn, Takes, TakingSteps}

-- ---- an event that is told by locals

-- a number, where one is to be and none is known
abbrev number_for : Option (ℤ × ℤ) → ApiValue
number_for None = api.Null
number_for (Some range) = api.Int (pos 0)

-- an argument as the library sees it
abbrev shown : Bool → Kind → Option ℤ → ApiValue
shown strict kind (Some n) = api.Int n
shown true kind None = api.Null
shown false kind None = number_for (number_range kind)

-- arguments whose numbers stand in the locals from this one on
abbrev told_by : Bool → List Value → ℕ → List Kind → List ApiValue
told_by strict locals base [] = []
told_by strict locals base (kind ∷ kinds) = shown strict kind (option_and_then number_in (slice_get locals base)) ∷ told_by strict locals (base + 1) kinds

tells_none : (kind : Kind) → TellsOne false kind None (shown_number (number_for (number_range kind)))
tells_none kind = by (number_range kind) refl where
  by : (range : Option (ℤ × ℤ)) → number_range kind ≡ range → TellsOne false kind None (shown_number (number_for range))
  by None is = inl refl
  by (Some range) is = inr (refl, refl, ap is_some is)

tells_one : (strict : Bool) (kind : Kind) (known : Option ℤ) → TellsOne strict kind known (shown_number (shown strict kind known))
tells_one strict kind (Some n) = inl refl
tells_one true kind None = inl refl
tells_one false kind None = tells_none kind

told_many : (strict : Bool) (locals : List Value) (base : ℕ) (kinds : List Kind) → length (told_by strict locals base kinds) ≡ length kinds
told_many strict locals base [] = refl
told_many strict locals base (kind ∷ kinds) = ap suc (told_many strict locals (base + 1) kinds)

told_each : (strict : Bool) (locals : List Value) (base : ℕ) (kinds : List Kind) (i : ℕ) (kind : Kind) → slice_get kinds i ≡ Some kind
    → TellsOne strict kind (option_and_then number_in (slice_get locals (base + i))) (option_and_then shown_number (slice_get (told_by strict locals base kinds) i))
told_each strict locals base [] i kind there = absurd cc
told_each strict locals base (k ∷ kinds) zero kind there =
    let same : k ≡ kind = cc in
    let here : base + 0 ≡ base = omega arith in
    rw (here, same) (tells_one strict kind (option_and_then number_in (slice_get locals base)))
told_each strict locals base (k ∷ kinds) (suc i) kind there =
    let place : base + suc i ≡ base + 1 + i = omega arith in
    rw place (told_each strict locals (base + 1) kinds i kind there)

-- a call of the method that passes these
abbrev call_told : Bool → List Value → Site → Clause → Event
call_told strict locals site clause = events.Call 0 site.method (told_by strict locals site.base clause.args)

-- the locals tell of it
call_tells : (strict : Bool) (locals : List Value) (site : Site) (clause : Clause) → TellsArguments strict site.base clause.args locals (call_told strict locals site clause)
call_tells strict locals site clause = record {
  many = length-map (told_by strict locals site.base clause.args) shown_number ∙ told_many strict locals site.base clause.args;
  each = λ i kind there. told_each strict locals site.base clause.args i kind there;
}

-- a number of 32 bits is one of an int
word_between : (n : ℤ) → FitsSigned w32 n → is_between (pos 0 -ℤ pos 2147483648) (pos 2147483647) n ≡ true
word_between (pos m) fits = let lt : m < 2147483648 = fits.sfits in le-leb m 2147483647 (omega arith)
word_between (negsuc m) fits =
    let lt : m < 2147483648 = fits.sfits in and_from (int_le (pos 0 -ℤ pos 2147483648) (negsuc m)) (int_le (negsuc m) (pos 2147483647))
    (le-leb m 2147483647 (omega arith)) refl

-- It is well formed, where the numbers in the locals are of 32 bits.
number_told : (locals : List Value) (base : ℕ) (kind : Kind) → ((local : ℕ) (n : ℤ) → slice_get locals local ≡ Some (values.Int n) → FitsSigned w32 n)
    → IsNumberOf (passed_range kind) (Some (shown false kind (option_and_then number_in (slice_get locals base))))
number_told locals base kind ints = by (number_range kind) refl where
  number_is : (v : Value) (n : ℤ) → number_in v ≡ Some n → v ≡ values.Int n
  number_is (values.Int m) n e = ap values.Int (some_is m n e)
  number_is values.Null n e = absurd cc
  number_is (values.Ref at) n e = absurd cc
  number_is (values.Class index) n e = absurd cc
  number_is (values.Lit index) n e = absurd cc

  by : (range : Option (ℤ × ℤ)) → number_range kind ≡ range → IsNumberOf (passed_range kind) (Some (shown false kind (option_and_then number_in (slice_get locals base))))
  by None is = rw is tt
  by (Some range) is = rw is (of (option_and_then number_in (slice_get locals base)) refl) where
    of : (known : Option ℤ) → option_and_then number_in (slice_get locals base) ≡ known → (n : ℤ) × (Some (shown false kind known) ≡ Some (api.Int n)) × (is_between (pos 0 -ℤ pos 2147483648) (pos 2147483647) n ≡ true)
    of (Some n) e =
        let v = and_then_of number_in (slice_get locals base) n e in
        (n, refl, word_between n (ints base n (v.1 ∙ ap Some (number_is v.0 n v.2))))
    of None e = (pos 0, rw is refl, refl)

told_fits : (locals : List Value) (base : ℕ) (kinds : List Kind) → ((local : ℕ) (n : ℤ) → slice_get locals local ≡ Some (values.Int n) → FitsSigned w32 n)
    → (i : ℕ) (kind : Kind) → slice_get kinds i ≡ Some kind → IsNumberOf (passed_range kind) (slice_get (told_by false locals base kinds) i)
told_fits locals base [] ints i kind there = absurd cc
told_fits locals base (k ∷ kinds) ints zero kind there = let same : k ≡ kind = cc in rw same (number_told locals base kind ints)
told_fits locals base (k ∷ kinds) ints (suc i) kind there = told_fits locals (base + 1) kinds ints i kind there

module _ (program : Program) (policy : Policy) (annotations : Annotations) (o : IsObeying program policy annotations) where
  abbrev strict : Bool
  strict = is_always annotations.held

  module _ (site : Site) (before : site.phase ≡ Before) (recorded : Values) (fields : List Value) (frame : Frame) (ranged : in_range policy recorded ≡ true)
      (ints : HasIntsIn program policy annotations frame) (are : AreState fields recorded) (clean : AreClean program frame.stack.items) where
    -- the event is well formed, where the lock is not held round each call
    told_formed : (clause : Clause) → clause_at policy site.method Before ≡ Some clause → FitsRuns program policy annotations.held (call_told strict frame.locals site clause)
    told_formed clause there loose formed other is =
        let of : IsEventOf (in_phase Before site) (call_told strict frame.locals site clause) = record { method = refl; phase = refl } in
        let same : other ≡ clause = some_is other clause (sym is ∙ clause_found policy (in_phase Before site) (call_told strict frame.locals site clause) of ∙ there) in
        rw (same, loose) (told_fits frame.locals site.base clause.args (ints formed))

    -- the check begins
    checks : (clause : Clause) → clause_at policy site.method Before ≡ Some clause → Means program policy annotations.held true recorded fields frame (begun policy site) Clear
    checks clause there =
        let event = call_told strict frame.locals site clause in
        let of : IsEventOf site event = record { method = refl; phase = subst (λ (p : Phase8). is_of_phase p phases.Before ≡ true) (sym before) refl } in (
          refl,
          begun_means program policy annotations o recorded fields frame Clear site clause event
              (subst (λ (p : Phase8). clause_at policy site.method p ≡ Some clause) (sym before) there) ranged are of (told_formed clause there)
              (subst (λ (p : Phase8). IsDue p event Clear) (sym before) refl)
              (subst (λ (p : Phase8). TellsIn strict clause p site.base frame.locals event) (sym before) (call_tells strict frame.locals site clause)) clean,
        )

    -- there is none
    grants : is_some (clause_at policy site.method Before) ≡ false → Means program policy annotations.held true recorded fields frame (notes.Granted site true 0 false) Clear
    grants none =
        let nothing : clause_at policy site.method Before ≡ None = none_there (clause_at policy site.method Before) none in
        record {
          holds = refl;
          round = tt;
          granted = subst (λ (c : Option Clause). IsGranted program policy annotations.held site c Clear frame.locals) (sym nothing) refl;
          variables = are;
          few = omega arith;
          loaded = [];
          are = refl;
          above = record { rest = frame.stack.items; is = refl; clean = clean };
        }

    takes : Means program policy annotations.held true recorded fields frame (note_taken policy site) Clear
    takes = elim (cases_Bool (is_some (clause_at policy site.method Before))) [
      | inl some ↦
          let c = some_there (clause_at policy site.method Before) some in
          let is : note_taken policy site ≡ begun policy site = rw some refl in
          rw is (checks c.0 c.1)
      | inr none ↦
          let is : note_taken policy site ≡ notes.Granted site true 0 false = rw none refl in
          rw is (grants none)
    ]

  -- what is asked where the check of a return begins: the result is kept
  begins_given : {frame : Frame} {to : ℕ} (site : Site) (kept : Bool) (asked : Asked) → asked ≡ begins_owed policy site kept → LeadsTo program policy annotations frame to asked
      → (asked ≡ Given (begun policy site)) × (kept ≡ asks_kept policy site)
  begins_given {frame = frame} {to = to} site kept asked is leads = elim (cases_Bool (beq kept (asks_kept policy site))) [
    | inl same ↦ (is ∙ rw same refl, beq_is kept (asks_kept policy site) same)
    | inr other ↦
        let nothing : asked ≡ Nothing = is ∙ rw other refl in
        let none : LeadsTo program policy annotations frame to Nothing = subst (LeadsTo program policy annotations frame to) nothing leads in
        let not_so = none.meets in
        absurd cc
  ]

  -- ---- the lock is taken, and a note of a block is given

  module _ (machine : Machine) (a : Acting) (next : Insn × Target) (change : Change) (note : Note) (acts : Acts program policy annotations machine a next note)
      (ruled : IsRuled program policy annotations a.frame next note) (is : shape_of next.0 ≡ shapes.Heap heap.Enter)
      (above : IsAbove program (lock_of program ∷ []) a.frame.stack.items) (step : insn_stepped program machine a next ≡ Some change) where
    top_is : slice_get a.frame.stack.items 0 ≡ Some (lock_of program)
    top_is = rw above.is refl

    abbrev rest : List Value
    rest = drop 1 a.frame.stack.items

    rest_clean : AreClean program rest
    rest_clean = subst (λ (items : List Value). AreClean program (drop 1 items)) (sym above.is) above.clean

    waits_here : (owner : ℕ) → held_locks program machine.monitors ≡ locked_by program owner → a.number ≢ owner → ⊥
    waits_here owner locked other =
        let waits = lock_waits program a.number owner machine.monitors locked other in
        let none : enters program (world_of machine) a (lock_of program) ≡ None = rw waits refl in
        let stuck : insn_stepped program machine a next ≡ None = rw is (rw top_is none) in
        let not_so : None ≡ Some change = sym stuck ∙ step in
        absurd cc

    -- `given` is asked of the instruction after, and means what is so.
    pub takes_lock : (part : Part) (given : Note) → ruled.r.past ≡ Given given
        → ((recorded : Values) (fields : List Value) → in_range policy recorded ≡ true → AreState fields recorded
        → Means program policy annotations.held true recorded fields (moved_to a.frame (a.frame.at + 1) a.frame.locals rest) given part)
        → Takes program policy annotations (world_of machine) a.number part change
    takes_lock part given past means = record {
      waits = waits_here;
      unseen = λ free.
          let lock = lock_taken program a.number machine.monitors free in
          let g = enters_lock program machine a change next step (lock_of program) lock.held is top_is refl lock.taken in
          ap (λ (c : Change). c.event) g.is;
      takes = λ recorded fields free ranged are there.
          let lock = lock_taken program a.number machine.monitors free in
          let g = enters_lock program machine a change next step (lock_of program) lock.held is top_is refl lock.taken in
          let following : LeadsTo program policy annotations a.frame (a.frame.at + 1) (Given given) =
          subst (LeadsTo program policy annotations a.frame (a.frame.at + 1)) past
          (ruled.past (goes_after program policy annotations o a.frame next acts.there (ap ends is))) in
          let lands = block_frame program policy annotations o a.frame acts.well true recorded fields part ranged (a.frame.at + 1) a.frame.locals rest given acts.well.locals following
          (means recorded fields ranged are) in
          subst (ChangesBlock program policy annotations true (world_of machine) a.number recorded part) (sym g.is)
          (goes_in program policy annotations o a.number recorded fields part (world_of machine) (with_monitors (world_of machine) lock.held) a.thread
          (moved_to a.frame (a.frame.at + 1) a.frame.locals rest) a.below acts.below true part None tt
          (record { clean = record { heap = acts.world.heap; statics = acts.world.statics }; locks = lock.locks; variables = there }) lands lands.settles tt);
    }

  module _ (rules_hold : RulesHold program policy annotations) where
    -- An instruction under Taking takes the lock.
    pub taking_steps : TakingSteps program policy annotations
    taking_steps machine a next change site ints acts free step =
        let ruled = rules_hold a.frame next (notes.Taking site) acts.there acts.told in
        let w = where_so _ _ ruled.r ruled.has in
        let asks = and_parts (is_before site.phase) (has_clauses policy site.method) free.0 in
        takes_lock machine a next change (notes.Taking site) acts ruled (enters_is (shape_of next.0) w.0) free.1 step Clear (note_taken policy site) (gives_asks (note_taken policy site) ruled.r w.1).past
        (λ recorded fields ranged are.
        takes site (before_is site.phase asks.0) recorded fields (moved_to a.frame (a.frame.at + 1) a.frame.locals (drop 1 a.frame.stack.items)) ranged ints are
        (subst (λ (items : List Value). AreClean program (drop 1 items)) (sym free.1.is) free.1.clean))

    -- So does one after a call whose return is to be recorded.
    pub taking_again : (machine : Machine) (a : Acting) (next : Insn × Target) (change : Change) (site : Site) (stage : ℕ) (kept top : Bool) (part : Part)
        → (acts : Acts program policy annotations machine a next (notes.Owed site stage kept top)) → insn_stepped program machine a next ≡ Some change
        → (m : MeansOwed program policy annotations.held false [] [] a.frame site stage kept top part)
        → (ruled : IsRuled program policy annotations a.frame next (notes.Owed site stage kept top))
        → TakesLock (rules_of program policy annotations) site stage kept top (shape_of next.0) next.1 ruled.r
        → Takes program policy annotations (world_of machine) a.number part change
    taking_again machine a next change site stage kept top part acts step m ruled c =
        let above : IsAbove program (lock_of program ∷ []) a.frame.stack.items =
        record { rest = m.above.rest; is = m.above.is ∙ ap (λ (on : Bool). lock_on program on ++ m.above.rest) c.on; clean = m.above.clean } in
        let asked = begins_given site kept ruled.r.past c.asks.past (ruled.past (goes_after program policy annotations o a.frame next acts.there (ap ends c.is))) in
        takes_lock machine a next change (notes.Owed site stage kept top) acts ruled c.is above step part (begun policy site) asked.0
        (λ recorded fields ranged are. (refl, by stage m.owed asked.1 recorded fields ranged are)) where
          by : (n : ℕ) → IsOwed program policy annotations.held false site n (clause_of policy site) part kept a.frame.locals m.above.rest → kept ≡ asks_kept policy site
              → (recorded : Values) (fields : List Value) → in_range policy recorded ≡ true → AreState fields recorded
              → MeansHeld program policy annotations.held recorded fields (moved_to a.frame (a.frame.at + 1) a.frame.locals (drop 1 a.frame.stack.items)) site 0 0 [] (as_taken policy) part
          by zero owed asks recorded fields ranged are = of (clause_of policy site) refl owed where
            of : (clause : Option Clause) → clause_of policy site ≡ clause → IsOwed program policy annotations.held false site zero clause part kept a.frame.locals m.above.rest
                → MeansHeld program policy annotations.held recorded fields (moved_to a.frame (a.frame.at + 1) a.frame.locals (drop 1 a.frame.stack.items)) site 0 0 [] (as_taken policy) part
            of None there owed = absurd owed
            of (Some clause) there p =
                begins_after program policy annotations o recorded fields (moved_to a.frame (a.frame.at + 1) a.frame.locals (drop 1 a.frame.stack.items)) part ranged site kept clause there asks m.following
                m.above.rest p are (subst (λ (items : List Value). AreClean program (drop 1 items)) (sym (m.above.is ∙ ap (λ (on : Bool). lock_on program on ++ m.above.rest) c.on)) m.above.clean)
          by (suc n) owed asks recorded fields ranged are = absurd owed
