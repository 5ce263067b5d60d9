-- An answer to a call that was granted: the thread goes on after its call, or in the handler of what is thrown, and the update is due.
use Rattle.std.proofs.Common.{◌≡◌, ℕ, ◌<◌, ◌+◌, Bool, true, false, cond, List, [], ◌∷◌, ◌++◌, length, Option, Some, None, refl, sym, ap, ◌∙◌, subst, inl, inr, lt-ltb, eqb-true}
use Rattle.std.specs.Prelude.{◌==◌, IfSome, nat_lt, not, is_some, option_and_then, option_map, slice_get}
use Rattle.std.specs.Option.{option_map_or, option_to_list}
use Rattle.std.proofs.lemmas.Bool.{and_parts, cases_Bool}
use Rattle.api_listing.specs.declared.descriptor.FieldType.{FieldType}
use Rattle.api_listing.specs.declared.events.ApiAnswer.{ApiAnswer}
use Rattle.api_listing.specs.declared.events.ApiAnswer.TheVariants as answers
use Rattle.api_listing.specs.declared.events.Event.{Event}
use Rattle.api_listing.specs.declared.events.Event.TheVariants as events
use Rattle.api_listing.specs.declared.types.ListedMethod.{ListedMethod}
use Rattle.insn_codec.specs.declared.shape.Shape.{Shape}
use Rattle.insn_codec.specs.declared.shape.Shape.TheVariants as shapes
use Rattle.insn_codec.specs.declared.shape.Heap.TheVariants as heap
use Rattle.insn_codec.specs.Shapes.{shape_of}
use Rattle.insn_codec.specs.Table.{ends}
use Rattle.bytecode_model.specs.declared.program.Handler.{Handler}
use Rattle.bytecode_model.specs.declared.program.Method.{Method}
use Rattle.bytecode_model.specs.declared.program.Program.{Program}
use Rattle.bytecode_model.specs.declared.program.Target.{Target}
use Rattle.bytecode_model.specs.declared.program.Target.TheVariants as target
use Rattle.bytecode_model.specs.SearchOrder.{Name}
use Rattle.block_logic.specs.Annotations.{Annotations, holds_round}
use Rattle.cert_format.specs.declared.note.Note.{Note}
use Rattle.cert_format.specs.declared.note.Note.TheVariants as notes
use Rattle.cert_format.specs.declared.note.Phase8.TheVariants.{After, Exceptional}
use Rattle.cert_format.specs.declared.note.Site.{Site}
use Rattle.conspec_tree.specs.declared.types.Kind.{Kind}
use Rattle.conspec_automaton.specs.declared.policy.Clause.{Clause}
use Rattle.conspec_automaton.specs.declared.policy.Policy.{Policy}
use Rattle.conspec_automaton.specs.Next.{Values, has_clause, has_clauses, number_in as shown_number, returned as event_returned}
use Rattle.conspec_automaton.specs.Obeys.{is_return}
use Rattle.conspec_automaton.specs.Range.{in_range}
use Rattle.conspec_automaton.proofs.Ranges.{found_is}
use Rattle.guest_heap.specs.declared.frame.Frame.{Frame}
use Rattle.guest_heap.specs.declared.object.Object.{Object}
use Rattle.guest_heap.specs.declared.object.Object.TheVariants as objects
use Rattle.guest_heap.specs.declared.thread.Thread.{Thread}
use Rattle.guest_heap.specs.declared.value.Value.{Value}
use Rattle.guest_heap.specs.declared.value.Value.TheVariants as values
use Rattle.guest_frames.specs.Stepping.{after, moved_to}
use Rattle.guest_model.specs.Answering.{answer_fits, answered, answered_well, given, returned_by, thrown_by, thrown_by_library}
use Rattle.guest_model.specs.Calls.{types_of}
use Rattle.guest_model.specs.Changes.{Change, World, goes, returned, throws_new, with_event, with_object}
use Rattle.guest_model.specs.declared.machine.Choice.{Choice}
use Rattle.guest_model.specs.declared.machine.Choice.TheVariants as choices
use Rattle.guest_model.specs.Parts.{null_pointer, number_in}
use Rattle.guest_model.specs.Seen.{value_shown}
use Rattle.guest_model.specs.Stepping.{call_stepped, is_on_null}
use Rattle.guest_model.specs.Throwing.{bare_object, caught_in, handler_of}
use Rattle.guest_model.proofs.Options.{all_append, all_get, and_then_of, map_of, some_is, unless_of}
use Rattle.block_logic.specs.Accepted.{rules_of}
use Rattle.block_logic.specs.Agreement.{Clear, Granted, Owed, Part, Settles, Tells, Turns, clause_event}
use Rattle.block_logic.specs.Clauses.{clause_of, needs}
use Rattle.block_logic.specs.Fitting.{AreBelow, AreBlockCall, ArePassed, IsBlockCall, IsCleanObject, IsCleanWorld, held_locks, state_of}
use Rattle.block_logic.specs.Formed.{FitsRuns}
use Rattle.block_logic.specs.Meaning.{AreClean, GoesRound, HasResult, HasResultIn, IsClean, IsEventOf, IsOwed, Means}
use Rattle.block_logic.specs.Obeying.{FitsListing, IsObeying}
use Rattle.block_logic.specs.Operands.{calls, pushes_state}
use Rattle.block_logic.specs.Rows.{Given, Open, Row, Rules, granted_row, is_duty, returned as asked_after, thrown as asked_thrown}
use Rattle.block_logic.specs.Weakening.{in_phase, is_before}
use Rattle.block_logic.proofs.Agreement.{clause_or, its_clause, no_clause}
use Rattle.block_logic.proofs.Owner.Events.{has_its_clause}
use Rattle.block_logic.proofs.Client.Changes.{throws_new_good}
use Rattle.block_logic.proofs.Client.Values.{lock_kept}
use Rattle.block_logic.proofs.Client.Frames.{Laws, opens_free}
use Rattle.block_logic.proofs.Client.Throws.{AreCatching}
use Rattle.block_logic.proofs.Owner.Fair.{event_loose}
use Rattle.block_logic.proofs.Owner.Going.{IsShared, Lands, block_frame, client_changes_block, client_frame, frame_moved, goes_after, goes_in, goes_open, lands_loose}
use Rattle.block_logic.proofs.Owner.GrantedRows.{CallsMethod, granted_cases}
use Rattle.block_logic.proofs.Owner.Passed.{shown_as}
use Rattle.block_logic.proofs.Ruled.{IsRuled, LeadsTo, RulesHold}
use Rattle.block_logic.proofs.Racing.{IsLooseEvent}
use Rattle.block_logic.proofs.Steps.{BlockAnswers, ChangesBlock, IsFit, LocksAre, VariablesAre}

-- ---- the row of the call

call_not_pushed : (shape : Shape) (ref : Target) → calls shape ≡ true → pushes_state shape ref ≡ false
call_not_pushed (shapes.Heap (heap.Call how)) ref e = refl
call_not_pushed shape ref e = absurd cc

call_row : (rules : Rules) (site : Site) (locked : Bool) (count : ℕ) (shape : Shape) (ref : Target) (r : Row) → calls shape ≡ true
    → granted_row rules site locked count false shape ref ≡ Some r → CallsMethod rules site locked count false shape ref r
call_row rules site locked count shape ref r call e = elim (granted_cases rules site locked count false shape ref r e) [
  | inl loads ↦ let not_so : false ≡ true = ap calls (sym loads.is) ∙ call in absurd cc
  | inr (inl pushes) ↦ let not_so : false ≡ true = sym (call_not_pushed shape ref call) ∙ pushes.pushes in absurd cc
  | inr (inr (inl leaves)) ↦ let not_so : false ≡ true = leaves.on in absurd cc
  | inr (inr (inr c)) ↦ c
]

call_stays : (shape : Shape) → calls shape ≡ true → ends shape ≡ false
call_stays (shapes.Heap (heap.Call how)) e = refl
call_stays shape e = absurd cc

-- After the call an update is due, at a stage by whether the lock is held,
abbrev stage_by : Bool → ℕ
stage_by true = 1
stage_by false = 0

-- where the lock is held or there is a clause for it.
abbrev IsDueAfter : Policy → Bool → Site → Type 0
IsDueAfter policy true site = Unit {0}
IsDueAfter policy false site = is_some (clause_of policy site) ≡ true

after_due : (rules : Rules) (mine : Bool) (site : Site) → holds_round rules.held site.method ≡ mine → IsDueAfter rules.policy mine (in_phase After site)
    → asked_after rules site ≡ Given (notes.Owed (in_phase After site) (stage_by mine) false false)
after_due rules true site round due = rw round refl
after_due rules false site round due = rw (round, due) refl

after_open : (rules : Rules) (site : Site) → holds_round rules.held site.method ≡ false → is_some (clause_of rules.policy (in_phase After site)) ≡ false → asked_after rules site ≡ Open
after_open rules site round none = rw (round, none) refl

duty_due : (rules : Rules) (mine : Bool) (site : Site) → holds_round rules.held site.method ≡ mine → IsDueAfter rules.policy mine (in_phase Exceptional site) → is_duty rules site.method ≡ true
duty_due rules true site round due = rw round refl
duty_due rules false site round due = rw (round, due) refl

thrown_due : (rules : Rules) (mine : Bool) (site : Site) → holds_round rules.held site.method ≡ mine → IsDueAfter rules.policy mine (in_phase Exceptional site)
    → asked_thrown rules site ≡ Given (notes.Owed (in_phase Exceptional site) (stage_by mine) false false)
thrown_due rules true site round due = rw round refl
thrown_due rules false site round due = rw (round, due) refl

thrown_open : (rules : Rules) (site : Site) → holds_round rules.held site.method ≡ false → is_some (clause_of rules.policy (in_phase Exceptional site)) ≡ false → asked_thrown rules site ≡ Open
thrown_open rules site round none = rw (round, none) refl

-- what is thrown is caught in the frame that called
throws_caught : (program : Program) (world : World) (number : ℕ) (thread : Thread) (frame : Frame) (below : List Frame) (class : Name) (e : Event) (f : Frame)
    → caught_in program (values.Ref (length world.heap)) class frame ≡ Some f
    → throws_new program world number thread (frame ∷ below) class (Some e) ≡ with_event (goes (with_object world (bare_object class)) thread (f ∷ below)) (Some e)
throws_caught program world number thread frame below class e f is = rw is refl

-- The library sees what it throws.
throws_seen : (program : Program) (world : World) (number : ℕ) (thread : Thread) (frames : List Frame) (class : Name) (e : Event)
    → (throws_new program world number thread frames class (Some e)).event ≡ Some e
throws_seen program world number thread frames class e = refl

-- ---- what an answer gives

-- of an answer that is no exception what is shared is clean, but for the heap as it was, and the result is no lock
record GivesClean (program : Program) (state : ℕ) (world : World) (gave : World × Option Value) : Type 0 where
  pub clean : IsCleanWorld program state gave.0
  pub monitors : gave.0.monitors ≡ world.monitors
  pub statics : gave.0.statics ≡ world.statics
  pub result : IfSome gave.1 (IsClean program)

with_clean : (program : Program) (state : ℕ) (world : World) (object : Object) → IsCleanWorld program state world → IsCleanObject program object
    → IsCleanWorld program state (with_object world object)
with_clean program state world object clean this =
    record { heap = all_append (IsCleanObject program) world.heap (object ∷ []) clean.heap (this, tt); statics = clean.statics }

module _ (program : Program) (state : ℕ) (world : World) (clean : IsCleanWorld program state world) where
  unchanged : (v : Option Value) → IfSome v (IsClean program) → GivesClean program state world (world, v)
  unchanged v result = record { clean = clean; monitors = refl; statics = refl; result = result }

  new_object : (object : Object) → IsCleanObject program object → GivesClean program state world (with_object world object, Some (values.Ref (length world.heap)))
  new_object object this = record { clean = with_clean program state world object clean this; monitors = refl; statics = refl; result = refl }

  gives_clean : (receiver : Option Value) (arguments : List Value) (answer : ApiAnswer) (gave : World × Option Value) → ArePassed program receiver arguments
      → given world receiver arguments answer ≡ Some gave → GivesClean program state world gave
  gives_clean receiver arguments answers.Nothing gave passed e = subst (GivesClean program state world) (some_is _ gave e) (unchanged None tt)
  gives_clean receiver arguments (answers.Int n) gave passed e = subst (GivesClean program state world) (some_is _ gave e) (unchanged (Some (values.Int n)) refl)
  gives_clean receiver arguments answers.Null gave passed e = subst (GivesClean program state world) (some_is _ gave e) (unchanged (Some values.Null) refl)
  gives_clean receiver arguments (answers.Text text) gave passed e = subst (GivesClean program state world) (some_is _ gave e) (new_object (objects.Text text) tt)
  gives_clean receiver arguments (answers.Fresh class) gave passed e = subst (GivesClean program state world) (some_is _ gave e) (new_object (bare_object class) (tt, refl))
  gives_clean receiver arguments (answers.Arg i) gave passed e =
      let v = map_of (λ (v : Value). (world, Some v)) (slice_get arguments i) gave e in
      subst (GivesClean program state world) v.2 (unchanged (Some v.0) (all_get (IsClean program) arguments i v.0 passed.1 v.1))
  gives_clean None arguments answers.Receiver gave passed e = absurd cc
  gives_clean (Some v) arguments answers.Receiver gave passed e = subst (GivesClean program state world) (some_is _ gave e) (unchanged (Some v) passed.0)
  gives_clean receiver arguments (answers.Throws class) gave passed e = absurd cc

-- where the method gives something, so does the answer
gives_something : (program : Program) (world : World) (result : Option FieldType) (receiver : Option Value) (arguments : List Value) (answer : ApiAnswer) (gave : World × Option Value)
    → answer_fits program world.heap result receiver arguments answer ≡ true → is_some result ≡ true → given world receiver arguments answer ≡ Some gave
    → (v : Value) × (gave.1 ≡ Some v)
gives_something program world result receiver arguments answers.Nothing gave fits some e = let not_so : false ≡ true = subst (λ (b : Bool). not b ≡ true) some fits in absurd cc
gives_something program world result receiver arguments (answers.Int n) gave fits some e = (values.Int n, ap (λ (g : World × Option Value). g.1) (sym (some_is _ gave e)))
gives_something program world result receiver arguments answers.Null gave fits some e = (values.Null, ap (λ (g : World × Option Value). g.1) (sym (some_is _ gave e)))
gives_something program world result receiver arguments (answers.Text text) gave fits some e =
    (values.Ref (length world.heap), ap (λ (g : World × Option Value). g.1) (sym (some_is _ gave e)))
gives_something program world result receiver arguments (answers.Fresh class) gave fits some e =
    (values.Ref (length world.heap), ap (λ (g : World × Option Value). g.1) (sym (some_is _ gave e)))
gives_something program world result receiver arguments (answers.Arg i) gave fits some e =
    let v = map_of (λ (v : Value). (world, Some v)) (slice_get arguments i) gave e in
    (v.0, ap (λ (g : World × Option Value). g.1) (sym v.2))
gives_something program world result receiver arguments answers.Receiver gave fits some e =
    let v = map_of (λ (v : Value). (world, Some v)) receiver gave e in
    (v.0, ap (λ (g : World × Option Value). g.1) (sym v.2))
gives_something program world result receiver arguments (answers.Throws class) gave fits some e = absurd cc

-- ---- what a return comes to

-- A return with a clause is owed.
abbrev part_after : Option Clause → Event → Part
part_after None e = Clear
part_after (Some clause) e = Owed e

-- it may be recorded at once
returns_then : (policy : Policy) (recorded now : Values) (due : Part) (e : Event) → is_return e ≡ true → Settles policy recorded (Owed e) now due → Tells policy recorded Clear e now due
returns_then policy recorded now Clear e ends settles = (ends, settles)
returns_then policy recorded now (Granted call) e ends settles = absurd settles
returns_then policy recorded now (Owed other) e ends settles = (ends, settles.0, settles.1)

-- ---- the frame that waited

module _ (program : Program) (policy : Policy) (annotations : Annotations) (o : IsObeying program policy annotations) (rules_hold : RulesHold program policy annotations)
    (laws : Laws program policy annotations) (mine : Bool) (number : ℕ) (thread : Thread) (method : ℕ) (recorded : Values) (fields : List Value) (part : Part) (ranged : in_range policy recorded ≡ true)
    (frame : Frame) (below : List Frame) (under : AreBelow program policy annotations below)
    (c : IsBlockCall program policy annotations mine recorded fields method frame part) (has : has_clauses policy method ≡ true)
    (shared : World) (clean_shared : IsCleanWorld program (state_of program policy annotations) shared)
    (locked : LocksAre program policy annotations mine number shared shared) (variables : VariablesAre program policy annotations mine fields shared shared) where
  abbrev rules : Rules
  rules = rules_of program policy annotations

  abbrev note : Note
  note = notes.Granted c.site mine (needs policy method) false

  ruled : IsRuled program policy annotations frame (c.at_call.insn, target.ApiMethod method) note
  ruled = rules_hold frame (c.at_call.insn, target.ApiMethod method) note c.at_call.there c.at_call.told

  row_is : CallsMethod rules c.site mine (needs policy method) false (shape_of c.at_call.insn) (target.ApiMethod method) ruled.r
  row_is = call_row rules c.site mine (needs policy method) (shape_of c.at_call.insn) (target.ApiMethod method) ruled.r c.at_call.call ruled.has

  round_site : holds_round annotations.held c.site.method ≡ mine
  round_site = ap (holds_round annotations.held) c.of ∙ c.round

  goes_round : (site : Site) → site.method ≡ method → GoesRound mine (holds_round annotations.held site.method)
  goes_round site is = by mine (ap (holds_round annotations.held) is ∙ c.round) where
    by : (b : Bool) → holds_round annotations.held site.method ≡ b → GoesRound b (holds_round annotations.held site.method)
    by true round = tt
    by false round = round

  -- the update is due
  owes : (site : Site) (e : Event) (at : ℕ) (items : List Value) → site.method ≡ method → is_before site.phase ≡ false → IsEventOf site e → FitsRuns program policy annotations.held e → AreClean program items
      → ((clause : Clause) → clause_of policy site ≡ Some clause → HasResultIn clause site.phase false site.base frame.locals items e) → IsDueAfter policy mine site
      → Means program policy annotations.held mine recorded fields (moved_to frame at frame.locals items) (notes.Owed site (stage_by mine) false false) (part_after (clause_of policy site) e)
  owes site e at items is following of fit clean tells due = record {
    following = following;
    round = goes_round site is;
    variables = c.variables;
    above = record { rest = items; is = refl; clean = clean };
    owed = by mine (clause_of policy site) refl due;
  } where
    by : (b : Bool) (clause : Option Clause) → clause_of policy site ≡ clause → IsDueAfter policy b site
        → IsOwed program policy annotations.held b site (stage_by b) clause (part_after clause e) false frame.locals items
    by true None there due = refl
    by true (Some clause) there due = record { event = e; is = refl; of = of; formed = fit; told = tells clause there }
    by false None there due = let none : false ≡ true = ap is_some (sym there) ∙ due in absurd cc
    by false (Some clause) there due = record { event = e; is = refl; of = of; formed = fit; told = tells clause there }

  -- the event of a site that the library saw, and what is loose then
  seen_loose : (site : Site) (e : Event) → site.method ≡ method → IsEventOf site e → mine ≡ false
      → IfSome (clause_event policy (Some e)) (IsLooseEvent policy annotations.held (IsFit program policy annotations))
  seen_loose site e is of other =
      clause_or (IsLooseEvent policy annotations.held (IsFit program policy annotations)) policy e
      (event_loose program policy annotations site e of (ap (holds_round annotations.held) is ∙ c.round ∙ other))

  -- the thread goes on in its block
  goes_seen : (world : World) (site : Site) (e : Event) (f : Frame) → site.method ≡ method → IsEventOf site e → is_return e ≡ true → FitsRuns program policy annotations.held e
      → IsShared program policy annotations o mine number fields shared world
      → Lands program policy annotations o mine recorded fields f (part_after (clause_of policy site) e)
      → ChangesBlock program policy annotations mine shared number recorded part (with_event (goes world thread (f ∷ below)) (Some e))
  goes_seen world site e f is of ends fit held lands =
      goes_in program policy annotations o number recorded fields part shared world thread f below under mine (part_after (clause_of policy site) e) (Some e)
      (clause_or (IsFit program policy annotations) policy e fit) held lands (rw c.clear (ended (clause_of policy site) refl lands.settles))
      (lands_loose program policy annotations o mine recorded fields f (part_after (clause_of policy site) e) part (clause_event policy (Some e)) (λ other. rw c.clear tt) (seen_loose site e is of) lands)
    where
      ended : (clause : Option Clause) → clause_of policy site ≡ clause → Settles policy recorded (part_after clause e) lands.now lands.due
          → Turns policy recorded Clear (clause_event policy (Some e)) lands.now lands.due
      ended None there settles = rw (no_clause policy (Some e) (has_its_clause policy site e of ∙ ap is_some there)) settles
      ended (Some clause) there settles =
          rw (its_clause policy e (has_its_clause policy site e of ∙ ap is_some there)) (returns_then policy recorded lands.now lands.due e ends settles)

  -- by whether an update is due
  due_or_not : (site : Site) {P : Type 0} → (IsDueAfter policy mine site → P) → (mine ≡ false → is_some (clause_of policy site) ≡ false → P) → P
  due_or_not site {P = P} due not_due = by mine refl (is_some (clause_of policy site)) refl where
    by : (b : Bool) → mine ≡ b → (some : Bool) → is_some (clause_of policy site) ≡ some → P
    by true is some there = due (rw is tt)
    by false is true there = due (rw is there)
    by false is false there = not_due is there

  -- ---- the method returns

  module _ (receiver : Option Value) (arguments : List Value) (answer : ApiAnswer) (listed : ListedMethod)
      (there : slice_get program.listing.methods method ≡ Some listed)
      (fits : answer_fits program shared.heap (types_of listed.id.desc).result receiver arguments answer ≡ true)
      (gave : World × Option Value) (given_is : given shared receiver arguments answer ≡ Some gave)
      (clean : GivesClean program (state_of program policy annotations) shared gave) where
    abbrev event : Event
    event = events.Return number method (option_map (value_shown program gave.0.heap) gave.1)

    abbrev items : List Value
    items = option_to_list gave.1 ++ frame.stack.items

    abbrev site : Site
    site = in_phase After c.site

    result_shown : (v : Value) → gave.1 ≡ Some v → option_and_then number_in (slice_get items 0) ≡ event_returned event
    result_shown v is =
        let first : slice_get items 0 ≡ Some v = ap (λ (r : Option Value). slice_get (option_to_list r ++ frame.stack.items) 0) is in
        let told : event_returned event ≡ shown_number (value_shown program gave.0.heap v) =
        ap (λ (r : Option Value). option_and_then shown_number (option_map (value_shown program gave.0.heap) r)) is in
        ap (option_and_then number_in) first ∙ sym (told ∙ shown_as program gave.0.heap v)

    has_result : (clause : Clause) (result : Option Kind) → (is_some result ≡ true → is_some (types_of listed.id.desc).result ≡ true)
        → HasResult result false site.base frame.locals items event
    has_result clause None gives = tt
    has_result clause (Some kind) gives =
        let v = gives_something program shared (types_of listed.id.desc).result receiver arguments answer gave fits (gives refl) given_is in
        result_shown v.0 v.1

    tells_result : (clause : Clause) → clause_of policy site ≡ Some clause → HasResult clause.result false site.base frame.locals items event
    tells_result clause is =
        let found = found_is (FitsListing program.listing) _ policy.clauses clause o.listed is in
        let p = and_parts (clause.method == c.site.method) _ found.passes in
        let same : slice_get program.listing.methods clause.method ≡ Some listed =
        ap (slice_get program.listing.methods) (eqb-true clause.method c.site.method p.0 ∙ c.of) ∙ there in
        let agree = (found.so listed same).1 in
        has_result clause clause.result (λ some. sym agree ∙ some)

    result_clean : AreClean program items
    result_clean = all_append (IsClean program) (option_to_list gave.1) frame.stack.items (by gave.1 clean.result) c.at_call.clean where
      by : (r : Option Value) → IfSome r (IsClean program) → AreClean program (option_to_list r)
      by None is = tt
      by (Some v) is = (is, tt)

    after_call : ends (shape_of c.at_call.insn) ≡ false
    after_call = call_stays (shape_of c.at_call.insn) c.at_call.call

    leads_past : LeadsTo program policy annotations frame (frame.at + 1) ruled.r.past
    leads_past = ruled.past (goes_after program policy annotations o frame (c.at_call.insn, target.ApiMethod method) c.at_call.there after_call)

    past_is : ruled.r.past ≡ asked_after rules c.site
    past_is = ap (λ (r : Row). r.past) row_is.is

    of_site : IsEventOf site event
    of_site = record { method = sym c.of; phase = refl }

    world_now : IsShared program policy annotations o mine number fields shared gave.0
    world_now = record { clean = clean.clean; locks = same_locks mine locked; variables = same_variables mine variables } where
      same_locks : (b : Bool) → LocksAre program policy annotations b number shared shared → LocksAre program policy annotations b number shared gave.0
      same_locks true l = ap (held_locks program) clean.monitors ∙ l
      same_locks false l = ap (held_locks program) clean.monitors

      same_variables : (b : Bool) → VariablesAre program policy annotations b fields shared shared → VariablesAre program policy annotations b fields shared gave.0
      same_variables true v = ap (λ (statics : List (List Value)). slice_get statics (state_of program policy annotations)) clean.statics ∙ v
      same_variables false v = ap (λ (statics : List (List Value)). slice_get statics (state_of program policy annotations)) clean.statics

    abbrev Returns : Type 0
    Returns = ChangesBlock program policy annotations mine shared number recorded part (with_event (goes gave.0 thread (moved_to frame (frame.at + 1) frame.locals items ∷ below)) (Some event))

    returns_due : FitsRuns program policy annotations.held event → IsDueAfter policy mine site → Returns
    returns_due fit due =
        let asked : ruled.r.past ≡ Given (notes.Owed site (stage_by mine) false false) = past_is ∙ after_due rules mine c.site round_site due in
        let leads : LeadsTo program policy annotations frame (frame.at + 1) (Given (notes.Owed site (stage_by mine) false false)) = subst (LeadsTo program policy annotations frame (frame.at + 1)) asked leads_past in
        goes_seen gave.0 site event (moved_to frame (frame.at + 1) frame.locals items) c.of of_site refl fit world_now
        (block_frame program policy annotations o frame c.well mine recorded fields (part_after (clause_of policy site) event) ranged (frame.at + 1) frame.locals items
        (notes.Owed site (stage_by mine) false false) c.well.locals leads (owes site event (frame.at + 1) items c.of refl of_site fit result_clean tells_result due))

    returns_open : mine ≡ false → is_some (clause_of policy site) ≡ false → Returns
    returns_open other none =
        let asked : ruled.r.past ≡ Open = past_is ∙ after_open rules c.site (round_site ∙ other) none in
        let leads : LeadsTo program policy annotations frame (frame.at + 1) Open = subst (LeadsTo program policy annotations frame (frame.at + 1)) asked leads_past in
        subst (λ (b : Bool). ChangesBlock program policy annotations b shared number recorded part (with_event (goes gave.0 thread (moved_to frame (frame.at + 1) frame.locals items ∷ below)) (Some event))) (sym other)
        (goes_open program policy annotations o number recorded fields part shared gave.0 thread (moved_to frame (frame.at + 1) frame.locals items) below under (Some event) ranged
        (record { clean = clean.clean; locks = ap (held_locks program) clean.monitors; variables = ap (λ (statics : List (List Value)). slice_get statics (state_of program policy annotations)) clean.statics })
        c.clear (no_clause policy (Some event) (has_its_clause policy site event of_site ∙ none))
        (frame_moved program policy annotations o frame c.well (frame.at + 1) frame.locals items c.well.locals)
        (client_frame program policy annotations o frame c.well (opens_free program policy annotations) (frame.at + 1) frame.locals items result_clean leads))

    returns : FitsRuns program policy annotations.held event → Returns
    returns fit = due_or_not site (returns_due fit) returns_open

    returns_change : (change : Change) → IfSome change.event (IsFit program policy annotations) → returned program gave.0 thread (frame ∷ below) gave.1 (Some event) ≡ Some change
        → ChangesBlock program policy annotations mine shared number recorded part change
    returns_change change fit e =
        let onward = λ (f : Frame). with_event (goes gave.0 thread (f ∷ below)) (Some event) in
        let m = map_of onward (after frame items) change e in
        let f : moved_to frame (frame.at + 1) frame.locals items ≡ m.0 = unless_of (nat_lt frame.stack.size (length items)) _ _ m.1 in
        let same : onward (moved_to frame (frame.at + 1) frame.locals items) ≡ change = ap onward f ∙ m.2 in
        subst (ChangesBlock program policy annotations mine shared number recorded part) same
        (returns (subst (λ (x : Change). IfSome x.event (IsFit program policy annotations)) (sym same) fit))

  -- ---- the method throws

  module _ (class : Name) where
    abbrev thrown : Value
    thrown = values.Ref (length shared.heap)

    abbrev excepted : Event
    excepted = events.Except number method

    abbrev thrown_site : Site
    thrown_site = in_phase Exceptional c.site

    thrown_of : IsEventOf thrown_site excepted
    thrown_of = record { method = sym c.of; phase = refl }

    thrown_is : ruled.r.thrown ≡ asked_thrown rules c.site
    thrown_is = ap (λ (r : Row). r.thrown) row_is.is

    catches : IsDueAfter policy mine thrown_site → (handler : Handler) × (handler_of program frame class ≡ Some handler)
    catches due = ruled.duty method refl c.at_call.call has (subst (λ (m : ℕ). is_duty rules m ≡ true) c.of (duty_due rules mine c.site round_site due)) class

    abbrev caught_at : Handler → Frame
    caught_at handler = moved_to frame handler.at frame.locals (thrown ∷ [])

    caught_is : (handler : Handler) → handler_of program frame class ≡ Some handler → caught_in program thrown class frame ≡ Some (caught_at handler)
    caught_is handler there =
        let size : frame.stack.size ≡ ruled.of.max_stack = by _ ruled.there c.well.size in
        let room : 0 < frame.stack.size = subst (λ (n : ℕ). 0 < n) (sym size) (ruled.room class handler there) in
        let fits : nat_lt 0 frame.stack.size ≡ true = lt-ltb 0 frame.stack.size room in
        ap (option_and_then (λ (handler : Handler). cond (nat_lt 0 frame.stack.size) (Some (moved_to frame handler.at frame.locals (thrown ∷ []))) None)) there
        ∙ ap (λ (b : Bool). cond b (Some (caught_at handler)) None) fits where
          by : (m : Option Method) → m ≡ Some ruled.of → IfSome m (λ n. frame.stack.size ≡ n.max_stack) → frame.stack.size ≡ ruled.of.max_stack
          by None e size = absurd cc
          by (Some n) e size = let same : n ≡ ruled.of = cc in subst (λ (x : Method). frame.stack.size ≡ x.max_stack) same size

    abbrev with_thrown : World
    with_thrown = with_object shared (bare_object class)

    thrown_clean : IsCleanWorld program (state_of program policy annotations) with_thrown
    thrown_clean = with_clean program (state_of program policy annotations) shared (bare_object class) clean_shared (tt, refl)

    thrown_world : IsShared program policy annotations o mine number fields shared with_thrown
    thrown_world = record { clean = thrown_clean; locks = same_locks mine locked; variables = same_variables mine variables } where
      same_locks : (b : Bool) → LocksAre program policy annotations b number shared shared → LocksAre program policy annotations b number shared with_thrown
      same_locks true l = l
      same_locks false l = refl

      same_variables : (b : Bool) → VariablesAre program policy annotations b fields shared shared → VariablesAre program policy annotations b fields shared with_thrown
      same_variables true v = v
      same_variables false v = refl

    abbrev Throws : Change → Type 0
    Throws change = ChangesBlock program policy annotations mine shared number recorded part change

    throws_due : FitsRuns program policy annotations.held excepted → IsDueAfter policy mine thrown_site → Throws (throws_new program shared number thread (frame ∷ below) class (Some excepted))
    throws_due fit due =
        let h = catches due in
        let leads : LeadsTo program policy annotations frame h.0.at (Given (notes.Owed thrown_site (stage_by mine) false false)) =
        subst (LeadsTo program policy annotations frame h.0.at) (thrown_is ∙ thrown_due rules mine c.site round_site due) (ruled.caught class h.0 h.1) in
        subst Throws (sym (throws_caught program shared number thread frame below class excepted (caught_at h.0) (caught_is h.0 h.1)))
        (goes_seen with_thrown thrown_site excepted (caught_at h.0) c.of thrown_of refl fit thrown_world
        (block_frame program policy annotations o frame c.well mine recorded fields (part_after (clause_of policy thrown_site) excepted) ranged h.0.at frame.locals (thrown ∷ [])
        (notes.Owed thrown_site (stage_by mine) false false) c.well.locals leads (owes thrown_site excepted h.0.at (thrown ∷ []) c.of refl thrown_of fit (refl, tt) (λ clause is. tt) due)))

    -- It is caught in the client's code, in this frame or below, or ends the thread.
    throws_open : mine ≡ false → is_some (clause_of policy thrown_site) ≡ false → Throws (throws_new program shared number thread (frame ∷ below) class (Some excepted))
    throws_open other none =
        let asked : ruled.r.thrown ≡ Open = thrown_is ∙ thrown_open rules c.site (round_site ∙ other) none in
        let catching : AreCatching program policy annotations (frame ∷ below) = (
          record {
            well = c.well;
            caught = λ name handler there.
                let leads : LeadsTo program policy annotations frame handler.at Open = subst (LeadsTo program policy annotations frame handler.at) asked (ruled.caught name handler there) in
                (leads.note, leads.told, leads.meets);
          },
          under,
        ) in
        let kept = lock_kept program (state_of program policy annotations) shared clean_shared in
        let unseen : has_clause policy excepted ≡ false = has_its_clause policy thrown_site excepted thrown_of ∙ none in
        let good = throws_new_good program policy annotations laws shared shared number thread (frame ∷ below) class (Some excepted) kept catching unseen in
        subst (λ (b : Bool). ChangesBlock program policy annotations b shared number recorded part (throws_new program shared number thread (frame ∷ below) class (Some excepted))) (sym other)
        (client_changes_block program policy annotations shared number recorded part (throws_new program shared number thread (frame ∷ below) class (Some excepted)) ranged c.clear refl good)

    throws_change : FitsRuns program policy annotations.held excepted → Throws (throws_new program shared number thread (frame ∷ below) class (Some excepted))
    throws_change fit = due_or_not thrown_site (throws_due fit) throws_open

  -- ---- any answer

  module _ (frames : thread.frames ≡ frame ∷ below) (receiver : Option Value) (arguments : List Value) (passed : ArePassed program receiver arguments) (change : Change)
      (fit : IfSome change.event (IsFit program policy annotations)) where
    abbrev Changes : Type 0
    Changes = ChangesBlock program policy annotations mine shared number recorded part change

    throws : (class : Name) → Some (throws_new program shared number thread thread.frames class (Some (events.Except number method))) ≡ Some change → Changes
    throws class e =
        let same : throws_new program shared number thread (frame ∷ below) class (Some (events.Except number method)) ≡ change =
        ap (λ (fs : List Frame). throws_new program shared number thread fs class (Some (events.Except number method))) (sym frames) ∙ some_is _ change e in
        let seen : change.event ≡ Some (events.Except number method) = sym (ap (λ (x : Change). x.event) same) ∙ throws_seen program shared number thread (frame ∷ below) class (events.Except number method) in
        subst (ChangesBlock program policy annotations mine shared number recorded part) same
        (throws_change class (subst (λ (x : Option Event). IfSome x (IsFit program policy annotations)) seen fit))

    answers_well : (listed : ListedMethod) (answer : ApiAnswer) → slice_get program.listing.methods method ≡ Some listed
        → answer_fits program shared.heap (types_of listed.id.desc).result receiver arguments answer ≡ true
        → answered_well program shared number thread method receiver arguments answer ≡ Some change → Changes
    answers_well listed answer there fits e = by (thrown_by answer) e where
      by : (o : Option Name)
          → option_map_or (thrown_by_library program shared number thread method) o (option_and_then (returned_by program number thread method) (given shared receiver arguments answer)) ≡ Some change
          → Changes
      by (Some class) e = throws class e
      by None e =
          let gave = and_then_of (returned_by program number thread method) (given shared receiver arguments answer) change e in
          let returns : returned program gave.0.0 thread (frame ∷ below) gave.0.1 (Some (events.Return number method (option_map (value_shown program gave.0.0.heap) gave.0.1))) ≡ Some change =
          subst (λ (fs : List Frame). returned program gave.0.0 thread fs gave.0.1 (Some (events.Return number method (option_map (value_shown program gave.0.0.heap) gave.0.1))) ≡ Some change) frames gave.2 in
          returns_change receiver arguments answer listed there fits gave.0 gave.1
          (gives_clean program (state_of program policy annotations) shared clean_shared receiver arguments answer gave.0 passed gave.1) change fit returns

    answers_fit : (answer : ApiAnswer) → answered program shared number thread method receiver arguments answer ≡ Some change → Changes
    answers_fit answer e =
        let test = λ (listed : ListedMethod). answer_fits program shared.heap (types_of listed.id.desc).result receiver arguments answer in
        let listed = and_then_of (λ (listed : ListedMethod). cond (test listed) (answered_well program shared number thread method receiver arguments answer) None)
        (slice_get program.listing.methods method) change e in
        by (test listed.0) listed.0 refl listed.1 listed.2 where
          by : (b : Bool) (listed : ListedMethod) → answer_fits program shared.heap (types_of listed.id.desc).result receiver arguments answer ≡ b
              → slice_get program.listing.methods method ≡ Some listed
              → cond (answer_fits program shared.heap (types_of listed.id.desc).result receiver arguments answer) (answered_well program shared number thread method receiver arguments answer) None ≡ Some change
              → Changes
          by true listed fits there e = let well : answered_well program shared number thread method receiver arguments answer ≡ Some change = rw fits at e in answers_well listed answer there fits well
          by false listed fits there e = let none : None ≡ Some change = rw fits at e in absurd cc

    steps : (choice : Choice) → call_stepped program shared number thread method receiver arguments choice ≡ Some change → Changes
    steps choices.Plain e = elim (cases_Bool (is_on_null receiver)) [
      | inl null ↦ let thrown : Some (throws_new program shared number thread thread.frames null_pointer (Some (events.Except number method))) ≡ Some change = rw null at e in throws null_pointer thrown
      | inr there ↦ let none : None ≡ Some change = rw there at e in absurd cc
    ]
    steps (choices.Answer answer) e = elim (cases_Bool (is_on_null receiver)) [
      | inl null ↦ let none : None ≡ Some change = rw null at e in absurd cc
      | inr there ↦ let answers : answered program shared number thread method receiver arguments answer ≡ Some change = rw there at e in answers_fit answer answers
    ]

module _ (program : Program) (policy : Policy) (annotations : Annotations) (o : IsObeying program policy annotations) (rules_hold : RulesHold program policy annotations) where
  -- An answer to a call that was granted changes what it may.
  pub block_answers : Laws program policy annotations → BlockAnswers program policy annotations
  block_answers laws mine world number thread method receiver arguments choice change recorded fields part fit clean has call passed ranged locked variables step = by thread.frames refl call where
    by : (frames : List Frame) → thread.frames ≡ frames → AreBlockCall program policy annotations mine recorded fields method frames part → ChangesBlock program policy annotations mine world number recorded part change
    by [] is call = absurd call
    by (frame ∷ below) is call =
        steps program policy annotations o rules_hold laws mine number thread method recorded fields part ranged frame below call.1 call.0 has world clean locked variables is receiver arguments passed change fit choice step
