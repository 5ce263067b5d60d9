-- What the steps of threads change, by whether the thread holds the lock.
use Rattle.std.specs.Prelude.{◌≡◌, ◌≢◌, ◌⊎◌, ℕ, ℤ, Bool, false, true, FitsSigned, IfSome, List, [], Option, Some, None, slice_get}
use Rattle.std.specs.Int.{w32}
use Rattle.api_listing.specs.declared.events.Event.{Event}
use Rattle.insn_codec.specs.declared.insn.Insn.{Insn}
use Rattle.bytecode_model.specs.declared.program.Program.{Program}
use Rattle.bytecode_model.specs.declared.program.Target.{Target}
use Rattle.block_logic.specs.Annotations.{Annotations}
use Rattle.cert_format.specs.declared.note.Note.{Note}
use Rattle.cert_format.specs.declared.note.Note.TheVariants as notes
use Rattle.cert_format.specs.declared.note.Site.{Site}
use Rattle.conspec_automaton.specs.declared.policy.Policy.{Policy}
use Rattle.conspec_automaton.specs.Next.{Values, has_clause, has_clauses}
use Rattle.conspec_automaton.specs.Range.{in_range}
use Rattle.guest_heap.specs.declared.frame.Frame.{Frame}
use Rattle.guest_heap.specs.declared.thread.Thread.{Thread}
use Rattle.guest_heap.specs.declared.value.Value.{Value}
use Rattle.guest_heap.specs.declared.value.Value.TheVariants as values
use Rattle.guest_model.specs.declared.machine.Choice.{Choice}
use Rattle.guest_model.specs.declared.machine.Machine.{Machine}
use Rattle.guest_model.specs.Changes.{Change, World, world_of}
use Rattle.guest_model.specs.Places.{insn_at}
use Rattle.guest_model.specs.Runs.{start_of}
use Rattle.guest_model.specs.Stepping.{Acting, call_stepped, insn_stepped}
use Rattle.block_logic.specs.Agreement.{Part, Turns, clause_event}
use Rattle.block_logic.specs.Agreement as parts
use Rattle.block_logic.specs.Fitting.{AreBelow, AreBlockCall, ArePassed, Fits, IsClient, IsClientCall, IsCleanWorld, IsOther, IsOwner, held_locks, locked_by, state_of}
use Rattle.block_logic.specs.Formed.{FitsRuns, RunsAreFormed}
use Rattle.block_logic.specs.Meaning.{AreState, IsFrame, IsFree, Means, note_of}
use Rattle.block_logic.proofs.Racing.{IsGood, IsLoose, IsLooseEvent}

module _ (program : Program) (policy : Policy) (annotations : Annotations) where
  -- ---- a thread that does not hold the lock

  -- What its step changes: nothing of the lock and of the policy's variables; and it has no event with a clause.
  pub record ChangesClient (shared : World) (change : Change) : Type 0 where
    pub world : IsCleanWorld program (state_of program policy annotations) change.world
    pub locks : held_locks program change.world.monitors ≡ held_locks program shared.monitors
    pub variables : slice_get change.world.statics (state_of program policy annotations) ≡ slice_get shared.statics (state_of program policy annotations)
    pub thread : IsClient program policy annotations change.thread
    pub begins : IfSome change.begins (IsClient program policy annotations)
    pub event : IfSome change.event (λ (e : Event). has_clause policy e ≡ false)

  -- a thread that acts in a frame with this note
  pub record Acts (machine : Machine) (a : Acting) (next : Insn × Target) (note : Note) : Type 0 where
    pub world : IsCleanWorld program (state_of program policy annotations) (world_of machine)
    pub well : IsFrame program a.frame
    pub there : insn_at program a.frame ≡ Some next
    pub told : note_of program annotations a.frame ≡ Some note
    pub below : AreBelow program policy annotations a.below

  -- An instruction of the client, and the one that pushes the lock's class.
  abbrev pub ClientSteps : Type 0
  ClientSteps =
      (machine : Machine) (a : Acting) (next : Insn × Target) (change : Change) → Acts machine a next notes.Free
      → IsFree program policy annotations.held a.frame notes.Free → insn_stepped program machine a next ≡ Some change → ChangesClient (world_of machine) change

  -- An answer to a call without a clause.
  abbrev pub ClientAnswers : Type 0
  ClientAnswers =
      (world : World) (number : ℕ) (thread : Thread) (method : ℕ) (receiver : Option Value) (arguments : List Value) (choice : Choice) (change : Change)
      → IsCleanWorld program (state_of program policy annotations) world → has_clauses policy method ≡ false
      → IsClientCall program policy annotations method thread.frames → ArePassed program receiver arguments
      → call_stepped program world number thread method receiver arguments choice ≡ Some change → ChangesClient world change

  -- ---- a thread in a block, by whether it holds the lock

  -- its locks: those of the lock are its own, or none of its concern
  abbrev pub LocksAre : Bool → ℕ → World → World → Type 0
  LocksAre true number shared world = held_locks program world.monitors ≡ locked_by program number
  LocksAre false number shared world = held_locks program world.monitors ≡ held_locks program shared.monitors

  abbrev pub VariablesAre : Bool → List Value → World → World → Type 0
  VariablesAre true fields shared world = slice_get world.statics (state_of program policy annotations) ≡ Some fields
  VariablesAre false fields shared world = slice_get world.statics (state_of program policy annotations) ≡ slice_get shared.statics (state_of program policy annotations)

  -- Each number in a local has 32 bits.
  abbrev pub HasIntsIn : Frame → Type 0
  HasIntsIn frame = RunsAreFormed program policy → (local : ℕ) (n : ℤ) → slice_get frame.locals local ≡ Some (values.Int n) → FitsSigned w32 n

  -- What is known of an event that a part tells of.
  abbrev pub IsFit : Event → Type 0
  IsFit e = FitsRuns program policy annotations.held e

  -- What is known of the part of a thread.
  abbrev pub IsFair : Part → Type 0
  IsFair part = IsGood policy annotations.held IsFit part

  -- what is loose where the thread does not hold the lock
  abbrev pub AreLoose : Bool → Part → Option Event → Part → Type 0
  AreLoose true part event due = Unit {0}
  AreLoose false part event due =
      IsLoose policy annotations.held IsFit part × IsLoose policy annotations.held IsFit due × IfSome event (IsLooseEvent policy annotations.held IsFit)

  -- The step leaves the lock with its thread, which is as its note says.
  pub record StaysOwner (number : ℕ) (change : Change) (recorded : Values) (part : Part) : Type 0 where
    pub locks : held_locks program change.world.monitors ≡ locked_by program number
    pub fields : List Value
    pub variables : slice_get change.world.statics (state_of program policy annotations) ≡ Some fields
    pub owns : IsOwner program policy annotations recorded fields change.thread part

  -- It gives the lock up, and the variables are the state that is recorded.
  pub record GivesUp (change : Change) (recorded : Values) (part : Part) : Type 0 where
    pub locks : held_locks program change.world.monitors ≡ []
    pub fields : List Value
    pub variables : slice_get change.world.statics (state_of program policy annotations) ≡ Some fields
    pub are : AreState fields recorded
    pub other : IsOther program policy annotations change.thread part

  -- It does not hold the lock, and leaves it and the variables as they are.
  pub record StaysOther (shared : World) (change : Change) (recorded now : Values) (part : Part) : Type 0 where
    pub locks : held_locks program change.world.monitors ≡ held_locks program shared.monitors
    pub variables : slice_get change.world.statics (state_of program policy annotations) ≡ slice_get shared.statics (state_of program policy annotations)
    pub still : now ≡ recorded
    pub other : IsOther program policy annotations change.thread part

  abbrev pub Stays : Bool → World → ℕ → Change → Values → Values → Part → Type 0
  Stays true shared number change recorded now due = StaysOwner number change now due ⊎ GivesUp change now due
  Stays false shared number change recorded now due = StaysOther shared change recorded now due

  -- What a step of a thread in a block changes; and where it is then, unless it stops the program.
  pub record ChangesBlock (mine : Bool) (shared : World) (number : ℕ) (recorded : Values) (part : Part) (change : Change) : Type 0 where
    pub begins : change.begins ≡ None
    pub now : Values
    pub ranged : in_range policy now ≡ true
    pub due : Part
    pub turns : Turns policy recorded part (clause_event policy change.event) now due
    pub fair : IsFair due
    pub fit : IfSome (clause_event policy change.event) IsFit
    pub loose : AreLoose mine part (clause_event policy change.event) due
    pub goes : change.stops ≡ None
        → IsCleanWorld program (state_of program policy annotations) change.world × Stays mine shared number change recorded now due

  -- A step that takes the lock: it is made where nobody holds the lock, and then the library sees nothing.
  pub record Takes (shared : World) (number : ℕ) (part : Part) (change : Change) : Type 0 where
    pub waits : (owner : ℕ) → held_locks program shared.monitors ≡ locked_by program owner → number ≢ owner → ⊥
    pub unseen : held_locks program shared.monitors ≡ [] → change.event ≡ None
    pub takes : (recorded : Values) (fields : List Value) → held_locks program shared.monitors ≡ [] → in_range policy recorded ≡ true → AreState fields recorded
        → slice_get shared.statics (state_of program policy annotations) ≡ Some fields → ChangesBlock true shared number recorded part change

  -- The lock is taken for a call.
  abbrev pub TakingSteps : Type 0
  TakingSteps =
      (machine : Machine) (a : Acting) (next : Insn × Target) (change : Change) (site : Site)
      → HasIntsIn a.frame → Acts machine a next (notes.Taking site) → IsFree program policy annotations.held a.frame (notes.Taking site)
      → insn_stepped program machine a next ≡ Some change → Takes (world_of machine) a.number parts.Clear change

  -- An instruction of a block, of a thread that holds the lock; and of one that does not, which may take it.
  abbrev pub OwnerSteps : Type 0
  OwnerSteps =
      (machine : Machine) (a : Acting) (next : Insn × Target) (change : Change) (note : Note) (recorded : Values) (fields : List Value) (part : Part)
      → (IfSome change.event IsFit) → Acts machine a next note → Means program policy annotations.held true recorded fields a.frame note part → in_range policy recorded ≡ true
      → LocksAre true a.number (world_of machine) (world_of machine) → VariablesAre true fields (world_of machine) (world_of machine)
      → insn_stepped program machine a next ≡ Some change → ChangesBlock true (world_of machine) a.number recorded part change

  abbrev pub OtherSteps : Type 0
  OtherSteps =
      (machine : Machine) (a : Acting) (next : Insn × Target) (change : Change) (note : Note) (recorded : Values) (part : Part)
      → (IfSome change.event IsFit) → Acts machine a next note → Means program policy annotations.held false [] [] a.frame note part → in_range policy recorded ≡ true
      → insn_stepped program machine a next ≡ Some change → ChangesBlock false (world_of machine) a.number recorded part change ⊎ Takes (world_of machine) a.number part change

  -- An answer to a call that was granted.
  abbrev pub BlockAnswers : Type 0
  BlockAnswers =
      (mine : Bool) (world : World) (number : ℕ) (thread : Thread) (method : ℕ) (receiver : Option Value) (arguments : List Value) (choice : Choice) (change : Change)
      (recorded : Values) (fields : List Value) (part : Part)
      → (IfSome change.event IsFit) → IsCleanWorld program (state_of program policy annotations) world → has_clauses policy method ≡ true
      → AreBlockCall program policy annotations mine recorded fields method thread.frames part → ArePassed program receiver arguments → in_range policy recorded ≡ true
      → LocksAre mine number world world → VariablesAre mine fields world world
      → call_stepped program world number thread method receiver arguments choice ≡ Some change → ChangesBlock mine world number recorded part change

  -- ---- the start

  abbrev pub StartsWell : Type 0
  StartsWell = Fits program policy annotations (start_of program) []
