-- A thread that holds the lock acts in a frame: it goes on with the lock, or leaves it.
use Rattle.std.proofs.Common.{◌≡◌, ℕ, ◌+◌, Bool, true, false, List, [], ◌∷◌, drop, None, Some, refl, sym, ap, subst}
use Rattle.std.specs.Prelude.{IfSome, slice_get}
use Rattle.insn_codec.specs.declared.insn.Insn.{Insn}
use Rattle.insn_codec.specs.declared.shape.Heap.TheVariants as heap
use Rattle.insn_codec.specs.declared.shape.Shape.TheVariants as shapes
use Rattle.insn_codec.specs.Shapes.{shape_of}
use Rattle.insn_codec.specs.Table.{ends}
use Rattle.bytecode_model.specs.declared.program.Program.{Program}
use Rattle.bytecode_model.specs.declared.program.Target.{Target}
use Rattle.block_logic.specs.Annotations.{Annotations}
use Rattle.cert_format.specs.declared.note.Note.{Note}
use Rattle.conspec_automaton.specs.declared.policy.Policy.{Policy}
use Rattle.conspec_automaton.specs.Next.{Values}
use Rattle.conspec_automaton.specs.Range.{in_range}
use Rattle.guest_heap.specs.declared.value.Value.{Value}
use Rattle.guest_frames.specs.Stepping.{moved_to}
use Rattle.guest_model.specs.declared.machine.Machine.{Machine}
use Rattle.guest_model.specs.Changes.{Change, with_monitors, world_of}
use Rattle.guest_model.specs.Stepping.{Acting, insn_stepped}
use Rattle.block_logic.specs.Agreement.{Clear, Part, Settles}
use Rattle.block_logic.specs.Meaning.{AreClean, AreState, IsAbove, Means, lock_of}
use Rattle.block_logic.specs.Obeying.{IsObeying}
use Rattle.block_logic.specs.Rows.{Asked, Given, Open}
use Rattle.block_logic.proofs.Owner.Going.{IsShared, block_frame, client_frame, frame_moved, gives_free, gives_on, goes_after, goes_in, lands_loose}
use Rattle.block_logic.proofs.Owner.Lock.{lock_left}
use Rattle.block_logic.proofs.Owner.Moves.{Goes, leaves_lock}
use Rattle.block_logic.proofs.Owner.Rows.{Asks}
use Rattle.block_logic.proofs.Racing.{IsLoose}
use Rattle.block_logic.proofs.Ruled.{IsRuled, LeadsTo, OpensFree}
use Rattle.block_logic.proofs.Steps.{Acts, ChangesBlock, IsFit, LocksAre, VariablesAre}

module _ (program : Program) (policy : Policy) (annotations : Annotations) where
  -- the thread, its instruction, and what the step changes
  pub record ActsIn (mine : Bool) (machine : Machine) (a : Acting) (next : Insn × Target) (change : Change) (note : Note) (fields : List Value) : Type 0 where
    pub acts : Acts program policy annotations machine a next note
    pub locked : LocksAre program policy annotations mine a.number (world_of machine) (world_of machine)
    pub there : VariablesAre program policy annotations mine fields (world_of machine) (world_of machine)
    pub step : insn_stepped program machine a next ≡ Some change
    pub ruled : IsRuled program policy annotations a.frame next note
    pub fit : IfSome change.event (IsFit program policy annotations)

  -- Its part is loose, where it does not hold the lock.
  abbrev pub OwnLoose : Bool → Part → Type 0
  OwnLoose mine part = mine ≡ false → IsLoose policy annotations.held (IsFit program policy annotations) part

  module _ (o : IsObeying program policy annotations) (mine : Bool) (machine : Machine) (a : Acting) (next : Insn × Target) (change : Change) (note : Note) (fields : List Value)
      (h : ActsIn mine machine a next change note fields) (recorded : Values) (part : Part) (ranged : in_range policy recorded ≡ true) where
    abbrev Changes : Type 0
    Changes = ChangesBlock program policy annotations mine (world_of machine) a.number recorded part change

    -- what is asked of the instruction after
    pub leads_after : (asked : Asked) → ends (shape_of next.0) ≡ false → h.ruled.r.past ≡ asked → LeadsTo program policy annotations a.frame (a.frame.at + 1) asked
    leads_after asked stays past =
        subst (LeadsTo program policy annotations a.frame (a.frame.at + 1)) past (h.ruled.past (goes_after program policy annotations o a.frame next h.acts.there stays))

    -- what it shares, as it is
    shared : IsShared program policy annotations o mine a.number fields (world_of machine) (world_of machine)
    shared = record { clean = h.acts.world; locks = h.locked; variables = h.there }

    -- It goes on in its block, and what is shared is as it was.
    pub goes_with : OwnLoose mine part → (to : ℕ) (locals items : List Value) (given : Note) → AreClean program locals → LeadsTo program policy annotations a.frame to (Given given)
        → Goes program machine a change (world_of machine) to locals items
        → Means program policy annotations.held mine recorded fields (moved_to a.frame to locals items) given part → Changes
    goes_with loose to locals items given clean leads g means =
        let lands = block_frame program policy annotations o a.frame h.acts.well mine recorded fields part ranged to locals items given clean leads means in
        subst (ChangesBlock program policy annotations mine (world_of machine) a.number recorded part) (sym g.is)
        (goes_in program policy annotations o a.number recorded fields part (world_of machine) (world_of machine) a.thread (moved_to a.frame to locals items) a.below h.acts.below
        mine part None tt shared lands lands.settles
        (lands_loose program policy annotations o mine recorded fields (moved_to a.frame to locals items) part part None loose (λ other. tt) lands))

    -- to the instruction after
    pub goes_with_after : OwnLoose mine part → (items : List Value) (given : Note) → ends (shape_of next.0) ≡ false → Asks h.ruled.r (Given given)
        → Goes program machine a change (world_of machine) (a.frame.at + 1) a.frame.locals items
        → Means program policy annotations.held mine recorded fields (moved_to a.frame (a.frame.at + 1) a.frame.locals items) given part → Changes
    goes_with_after loose items given stays asks g means =
        goes_with loose (a.frame.at + 1) a.frame.locals items given h.acts.well.locals (leads_after (Given given) stays asks.past) g means

  module _ (o : IsObeying program policy annotations) (machine : Machine) (a : Acting) (next : Insn × Target) (change : Change) (note : Note) (fields : List Value)
      (h : ActsIn true machine a next change note fields) (recorded : Values) (part : Part) (ranged : in_range policy recorded ≡ true)
      (is : shape_of next.0 ≡ shapes.Heap heap.Exit) (above : IsAbove program (lock_of program ∷ []) a.frame.stack.items) where
    abbrev rest : List Value
    rest = drop 1 a.frame.stack.items

    rest_clean : AreClean program rest
    rest_clean = subst (λ (items : List Value). AreClean program (drop 1 items)) (sym above.is) above.clean

    top : slice_get a.frame.stack.items 0 ≡ Some (lock_of program)
    top = ap (λ (items : List Value). slice_get items 0) above.is

    -- It leaves the lock, and is in no block; the variables are what is recorded then.
    pub gives_up : OpensFree program policy annotations → Asks h.ruled.r Open
        → (now : Values) → in_range policy now ≡ true → Settles policy recorded part now Clear → AreState fields now
        → ChangesBlock program policy annotations true (world_of machine) a.number recorded part change
    gives_up opens asks now within settles are =
        let left = lock_left program a.number machine.monitors h.locked in
        let g = leaves_lock program machine a change next h.step (lock_of program) left.held is top refl left.given_up in
        let leads = leads_after o true machine a next change note fields h recorded part ranged Open (ap ends is) asks.past in
        subst (ChangesBlock program policy annotations true (world_of machine) a.number recorded part) (sym g.is)
        (gives_free program policy annotations o a.number recorded fields part (world_of machine) (with_monitors (world_of machine) left.held) a.thread
        (moved_to a.frame (a.frame.at + 1) a.frame.locals rest) a.below h.acts.below
        (record { heap = h.acts.world.heap; statics = h.acts.world.statics }) left.locks h.there now within settles are
        (frame_moved program policy annotations o a.frame h.acts.well (a.frame.at + 1) a.frame.locals rest h.acts.well.locals)
        (client_frame program policy annotations o a.frame h.acts.well opens (a.frame.at + 1) a.frame.locals rest rest_clean leads))

    -- It leaves the lock, and stays in its block.
    pub gives_over : (given : Note) → Asks h.ruled.r (Given given) → (now : Values) (due : Part) → in_range policy now ≡ true → Settles policy recorded part now due → AreState fields now
        → Means program policy annotations.held false now [] (moved_to a.frame (a.frame.at + 1) a.frame.locals rest) given due
        → ChangesBlock program policy annotations true (world_of machine) a.number recorded part change
    gives_over given asks now due within settles are means =
        let left = lock_left program a.number machine.monitors h.locked in
        let g = leaves_lock program machine a change next h.step (lock_of program) left.held is top refl left.given_up in
        let leads = leads_after o true machine a next change note fields h recorded part ranged (Given given) (ap ends is) asks.past in
        let lands = block_frame program policy annotations o a.frame h.acts.well false now [] due within (a.frame.at + 1) a.frame.locals rest given h.acts.well.locals leads means in
        let same : lands.due ≡ due = (lands.still refl).1 in
        subst (ChangesBlock program policy annotations true (world_of machine) a.number recorded part) (sym g.is)
        (gives_on program policy annotations o a.number recorded fields part (world_of machine) (with_monitors (world_of machine) left.held) a.thread
        (moved_to a.frame (a.frame.at + 1) a.frame.locals rest) a.below h.acts.below
        (record { heap = h.acts.world.heap; statics = h.acts.world.statics }) left.locks h.there now lands.due within (subst (Settles policy recorded part now) (sym same) settles) are lands.now [] lands.top)
