-- What a note means for the machine: what its thread owns, what stands on its stack, what it is granted and owes.
-- (docs/CERTIFICATES.md)
use Rattle.std.specs.Prelude.{◌≡◌, ◌⊎◌, ◌&&◌, not, ℕ, zero, suc, ◌+◌, ◌+ℤ◌, ◌<◌, ◌≤◌, ℤ, pos, Bool, true, false, if◌then◌else◌, IfSome, List, [], ◌∷◌, ◌++◌, length, map, reverse, Option, Some, None, option_map, option_and_then, slice_get}
use Rattle.std.specs.List.{AllByRecursion}
use Rattle.std.specs.Option.{option_map_or}
use Rattle.api_listing.specs.declared.events.Event.{Event}
use Rattle.insn_codec.specs.declared.insn.Insn.{Insn}
use Rattle.insn_codec.specs.Shapes.{shape_of}
use Rattle.bytecode_model.specs.declared.program.LinkedClass.{LinkedClass}
use Rattle.bytecode_model.specs.declared.program.Method.{Method}
use Rattle.bytecode_model.specs.declared.program.Program.{Program}
use Rattle.bytecode_model.specs.declared.program.Target.{Target}
use Rattle.bytecode_model.specs.Classes.{classes_of}
use Rattle.bytecode_model.specs.Typed.{reached}
use Rattle.block_logic.specs.declared.held_calls.HeldCalls.{HeldCalls}
use Rattle.block_logic.specs.Annotations.{Annotations, holds_round, is_always}
use Rattle.cert_format.specs.declared.note.Note.{Note}
use Rattle.cert_format.specs.declared.note.Note.TheVariants as notes
use Rattle.cert_format.specs.declared.note.Phase8.{Phase8}
use Rattle.cert_format.specs.declared.note.Phase8.TheVariants.{Before, After, Exceptional}
use Rattle.cert_format.specs.declared.note.Site.{Site}
use Rattle.cert_format.specs.declared.note.Term.{Term}
use Rattle.cert_format.specs.declared.note.Term.TheVariants as terms
use Rattle.conspec_tree.specs.declared.types.Atom.{Atom}
use Rattle.conspec_tree.specs.declared.types.Kind.{Kind}
use Rattle.conspec_automaton.specs.declared.policy.Branch.{Branch}
use Rattle.conspec_automaton.specs.declared.policy.Clause.{Clause}
use Rattle.conspec_automaton.specs.declared.policy.Policy.{Policy}
use Rattle.conspec_automaton.specs.Next.{Values, argument, holds, is_taken, moment, returned}
use Rattle.conspec_tree.specs.Kinds.{is_number}
use Rattle.conspec_automaton.specs.Obeys.{is_return}
use Rattle.conspec_automaton.specs.Racing.{IsRaceFreeFor, Pairs}
use Rattle.conspec_automaton.specs.Sight.{sight_of}
use Rattle.guest_heap.specs.declared.frame.Frame.{Frame}
use Rattle.guest_heap.specs.declared.value.Value.{Value}
use Rattle.guest_heap.specs.declared.value.Value.TheVariants as values
use Rattle.guest_frames.specs.Values.{are_one}
use Rattle.guest_model.specs.Parts.{number_in}
use Rattle.guest_model.specs.Places.{class_index, insn_at, method_at}
use Rattle.block_logic.specs.Accepted.{notes_in, notes_told}
use Rattle.block_logic.specs.Agreement.{Part}
use Rattle.block_logic.specs.Agreement as parts
use Rattle.block_logic.specs.Clauses.{clause_at, clause_of, is_of_phase, needs}
use Rattle.block_logic.specs.Operands.{calls, has_clause, state_name}
use Rattle.block_logic.specs.Formed.{FitsRuns, RunsAreFormed}
use Rattle.block_logic.specs.Weakening.{in_phase, is_before, is_open, takes_for_call}

-- of two methods the lock is not held round the calls of both
abbrev pub one_is_loose : HeldCalls → Pairs
one_is_loose held first second = not (holds_round held first && holds_round held second)

-- The policy is race-free but for methods round whose calls the lock is held.
pub record IsReleasing (program : Program) (policy : Policy) (held : HeldCalls) : Type 0 where
  pub race : IsRaceFreeFor (one_is_loose held) policy
  pub formed : RunsAreFormed program policy

-- The lock is held round each call that has a clause, or the policy is race-free.
abbrev pub IsJudged : Program → Policy → HeldCalls → Type 0
IsJudged program policy held = (is_always held ≡ true) ⊎ IsReleasing program policy held

-- ---- the lock

-- the object of the class that holds the policy's variables
abbrev pub lock_of : Program → Value
lock_of program = values.Class (option_map_or (λ (at : ℕ). at) (class_index program state_name) (length (classes_of program)))

-- A value that is not the lock.
abbrev pub IsClean : Program → Value → Type 0
IsClean program v = are_one v (lock_of program) ≡ false

abbrev pub AreClean : Program → List Value → Type 0
AreClean program list = AllByRecursion (IsClean program) list

-- On top stand these, and below them no lock.
pub record IsAbove (program : Program) (tops items : List Value) : Type 0 where
  pub rest : List Value
  pub is : items ≡ tops ++ rest
  pub clean : AreClean program rest

-- ---- notes of frames

-- the note of an instruction, by class, method and index, where that is reached
abbrev pub note_in : Program → Annotations → ℕ → ℕ → ℕ → Option Note
note_in program annotations class method at =
    option_and_then (λ (c : LinkedClass). slice_get (notes_in c.methods (notes_told annotations class) method) at) (slice_get program.classes class)

abbrev pub note_at : Program → Annotations → ℕ → ℕ → ℕ → Option Note
note_at program annotations class method at = if reached program annotations.typing class method at then note_in program annotations class method at else None

-- that of the instruction at which a frame stands
abbrev pub note_of : Program → Annotations → Frame → Option Note
note_of program annotations frame = note_at program annotations frame.class frame.method frame.at

-- What each frame has, whatever its note: the size of its stack is its method's, and its locals and its lock are not the policy's lock.
pub record IsFrame (program : Program) (frame : Frame) : Type 0 where
  pub size : IfSome (method_at program frame.class frame.method) (λ (m : Method). frame.stack.size ≡ m.max_stack)
  pub lock : IfSome frame.lock (IsClean program)
  pub locals : AreClean program frame.locals

-- A frame below another: it stands at a call without a clause, in the client's code.
pub record IsBelow (program : Program) (policy : Policy) (annotations : Annotations) (frame : Frame) : Type 0 where
  pub well : IsFrame program frame
  pub insn : Insn
  pub ref : Target
  pub there : insn_at program frame ≡ Some (insn, ref)
  pub call : calls (shape_of insn) ≡ true
  pub unclaused : has_clause policy ref ≡ false
  pub free : note_of program annotations frame ≡ Some notes.Free
  pub clean : AreClean program frame.stack.items

-- ---- events

-- The event is one that the clause of the site is for.
pub record IsEventOf (site : Site) (event : Event) : Type 0 where
  pub method : (sight_of event).method ≡ site.method
  pub phase : is_of_phase site.phase (sight_of event).phase ≡ true

-- ---- what locals tell of events

-- What is known of an argument is told. Where the lock is not held round each call, and where a number is to be, one may be told where
-- none is known.
abbrev pub TellsOne : Bool → Kind → Option ℤ → Option ℤ → Type 0
TellsOne strict kind known told = (known ≡ told) ⊎ ((strict ≡ false) × (known ≡ None) × (is_number kind ≡ true))

-- the locals from the base on hold the numbers of a call's arguments
pub record TellsArguments (strict : Bool) (base : ℕ) (kinds : List Kind) (locals : List Value) (event : Event) : Type 0 where
  pub many : length (sight_of event).arguments ≡ length kinds
  pub each : (i : ℕ) (kind : Kind) → slice_get kinds i ≡ Some kind → TellsOne strict kind (option_and_then number_in (slice_get locals (base + i))) (argument event i)

-- the local at the base holds the number of a result, where there is one
abbrev pub TellsResult : ℕ → Option Kind → List Value → Event → Type 0
TellsResult base None locals event = Unit {0}
TellsResult base (Some kind) locals event = option_and_then number_in (slice_get locals base) ≡ returned event

-- what locals tell while a check is made
abbrev pub TellsIn : Bool → Clause → Phase8 → ℕ → List Value → Event → Type 0
TellsIn strict clause Before base locals event = TellsArguments strict base clause.args locals event
TellsIn strict clause After base locals event = TellsResult base clause.result locals event
TellsIn strict clause Exceptional base locals event = Unit {0}

-- ---- the policy's variables

-- the fields of the variables hold the state
abbrev pub AreState : List Value → Values → Type 0
AreState fields state = fields ≡ map values.Int state

-- They do, where the thread holds the lock.
abbrev pub HasState : Bool → List Value → Values → Type 0
HasState true fields state = AreState fields state
HasState false fields state = Unit {0}

-- what a term stands for, at the state when the lock was taken and for the event of the check
abbrev pub term_value : Program → Values → Event → Term → Option Value
term_value program state event (terms.Const n) = Some (values.Int n)
term_value program state event (terms.Var var) = option_map values.Int (slice_get state var)
term_value program state event (terms.VarAdd var n) = option_map (λ m. values.Int (m +ℤ n)) (slice_get state var)
term_value program state event (terms.Arg i) = option_map values.Int (argument event i)
term_value program state event terms.Result = option_map values.Int (returned event)
term_value program state event terms.Lock = Some (lock_of program)

abbrev pub AreTerms : Program → Values → Event → List Term → List Value → Type 0
AreTerms program state event list held = map (term_value program state event) list ≡ map Some held

-- ---- a check

-- A call that is checked is not granted yet, and a return that is checked is owed.
abbrev pub IsDue : Phase8 → Event → Part → Type 0
IsDue Before event part = part ≡ parts.Clear
IsDue After event part = part ≡ parts.Owed event
IsDue Exceptional event part = part ≡ parts.Owed event

-- The first branches fail, and of the next one so many atoms hold.
pub record IsTried (state : Values) (event : Event) (branches : List Branch) (failed holding : ℕ) : Type 0 where
  pub few : failed ≤ length branches
  pub fail : (j : ℕ) (b : Branch) → j < failed → slice_get branches j ≡ Some b → is_taken (moment state event) b ≡ false
  pub hold : (b : Branch) → slice_get branches failed ≡ Some b → (holding ≤ length b.atoms)
      × ((j : ℕ) (atom : Atom) → j < holding → slice_get b.atoms j ≡ Some atom → holds (moment state event) atom ≡ true)

-- The lock is held, and the check is made so far, in the recorded state; the variables are those of `map`, and `list` stands on the
-- stack, the last on top.
pub record MeansHeld (program : Program) (policy : Policy) (held : HeldCalls) (recorded : Values) (fields : List Value) (frame : Frame)
    (site : Site) (failed holding : ℕ) (list map : List Term) (part : Part) : Type 0 where
  pub clause : Clause
  pub there : clause_of policy site ≡ Some clause
  pub event : Event
  pub of : IsEventOf site event
  pub formed : FitsRuns program policy held event
  pub due : IsDue site.phase event part
  pub told : TellsIn (is_always held) clause site.phase site.base frame.locals event
  pub tried : IsTried recorded event clause.branches failed holding
  pub variables : AreTerms program recorded event map fields
  pub tops : List Value
  pub pushed : AreTerms program recorded event (reverse list) tops
  pub above : IsAbove program tops frame.stack.items

-- ---- granted

-- The call was checked, with the numbers that locals hold, and accepted.
pub record IsChecked (program : Program) (policy : Policy) (held : HeldCalls) (site : Site) (clause : Clause) (part : Part) (locals : List Value) : Type 0 where
  pub event : Event
  pub is : part ≡ parts.Granted event
  pub of : IsEventOf (in_phase Before site) event
  pub formed : FitsRuns program policy held event
  pub told : TellsArguments (is_always held) site.base clause.args locals event

-- It is granted, or has no clause.
abbrev pub IsGranted : Program → Policy → HeldCalls → Site → Option Clause → Part → List Value → Type 0
IsGranted program policy held site None part locals = part ≡ parts.Clear
IsGranted program policy held site (Some clause) part locals = IsChecked program policy held site clause part locals

-- so many locals from the base on, as they stand on the stack once they are loaded in order
abbrev pub loads : ℕ → List Value → ℕ → List (Option Value)
loads base locals zero = []
loads base locals (suc n) = slice_get locals (base + n) ∷ loads base locals n

-- the lock on top, if it is
abbrev pub lock_on : Program → Bool → List Value
lock_on program top = if top then lock_of program ∷ [] else []

-- A thread that does not hold the lock is at a method round whose calls it is not held.
abbrev pub GoesRound : Bool → Bool → Type 0
GoesRound true round = Unit {0}
GoesRound false round = round ≡ false

-- The check is done, and the lock is still held or was let go; so many arguments are loaded.
pub record MeansGranted (program : Program) (policy : Policy) (held : HeldCalls) (mine : Bool) (recorded : Values) (fields : List Value) (frame : Frame)
    (site : Site) (locked : Bool) (count : ℕ) (top : Bool) (part : Part) : Type 0 where
  pub holds : locked ≡ mine
  pub round : GoesRound mine (holds_round held site.method)
  pub granted : IsGranted program policy held site (clause_at policy site.method Before) part frame.locals
  pub variables : HasState mine fields recorded
  pub few : count ≤ needs policy site.method
  pub loaded : List Value
  pub are : map Some loaded ≡ loads site.base frame.locals count
  pub above : IsAbove program (lock_on program top ++ loaded) frame.stack.items

-- ---- owed

-- The result of the event, where there is one, is kept in its local, or is the topmost operand.
abbrev pub HasResult : Option Kind → Bool → ℕ → List Value → List Value → Event → Type 0
HasResult None kept base locals rest event = Unit {0}
HasResult (Some kind) true base locals rest event = option_and_then number_in (slice_get locals base) ≡ returned event
HasResult (Some kind) false base locals rest event = option_and_then number_in (slice_get rest 0) ≡ returned event

-- It is so after a return that gives something.
abbrev pub HasResultIn : Clause → Phase8 → Bool → ℕ → List Value → List Value → Event → Type 0
HasResultIn clause Before kept base locals rest event = Unit {0}
HasResultIn clause Exceptional kept base locals rest event = Unit {0}
HasResultIn clause After kept base locals rest event = HasResult clause.result kept base locals rest event

-- The return is not recorded yet, where a clause is for it.
pub record IsPending (program : Program) (policy : Policy) (held : HeldCalls) (site : Site) (clause : Clause) (part : Part) (kept : Bool) (locals rest : List Value) : Type 0 where
  pub event : Event
  pub is : part ≡ parts.Owed event
  pub of : IsEventOf site event
  pub formed : FitsRuns program policy held event
  pub told : HasResultIn clause site.phase kept site.base locals rest event

-- by whether the lock is held: it is not at stage 0, and is at 1 and 2
abbrev pub IsOwed : Program → Policy → HeldCalls → Bool → Site → ℕ → Option Clause → Part → Bool → List Value → List Value → Type 0
IsOwed program policy held false site zero None part kept locals rest = ⊥
IsOwed program policy held false site zero (Some clause) part kept locals rest = IsPending program policy held site clause part kept locals rest
IsOwed program policy held false site (suc n) clause part kept locals rest = ⊥
IsOwed program policy held true site zero clause part kept locals rest = ⊥
IsOwed program policy held true site (suc zero) None part kept locals rest = part ≡ parts.Clear
IsOwed program policy held true site (suc zero) (Some clause) part kept locals rest = IsPending program policy held site clause part kept locals rest
IsOwed program policy held true site (suc (suc zero)) clause part kept locals rest = part ≡ parts.Clear
IsOwed program policy held true site (suc (suc (suc n))) clause part kept locals rest = ⊥

-- The call is over.
pub record MeansOwed (program : Program) (policy : Policy) (held : HeldCalls) (mine : Bool) (recorded : Values) (fields : List Value) (frame : Frame)
    (site : Site) (stage : ℕ) (kept top : Bool) (part : Part) : Type 0 where
  pub following : is_before site.phase ≡ false
  pub round : GoesRound mine (holds_round held site.method)
  pub variables : HasState mine fields recorded
  pub above : IsAbove program (lock_on program top) frame.stack.items
  pub owed : IsOwed program policy held mine site stage (clause_of policy site) part kept frame.locals above.rest

-- ---- the way out

-- a return of which a clause tells
pub record IsKnownEnd (program : Program) (policy : Policy) (held : HeldCalls) (end : Event) : Type 0 where
  pub ends : is_return end ≡ true
  pub formed : FitsRuns program policy held end

-- A call that is refused is not granted; a return that is refused is owed for ever.
abbrev pub IsRefused : Program → Policy → HeldCalls → Part → Type 0
IsRefused program policy held parts.Clear = Unit {0}
IsRefused program policy held (parts.Granted call) = ⊥
IsRefused program policy held (parts.Owed end) = IsKnownEnd program policy held end

abbrev pub IsStopping : ℕ → List Value → Type 0
IsStopping zero items = Unit {0}
IsStopping (suc zero) items = slice_get items 0 ≡ Some (values.Int (pos 77))
IsStopping (suc (suc n)) items = ⊥

-- The program is about to be stopped.
pub record MeansStop (program : Program) (policy : Policy) (held : HeldCalls) (frame : Frame) (place : ℕ) (part : Part) : Type 0 where
  pub refused : IsRefused program policy held part
  pub stopping : IsStopping place frame.stack.items

-- ---- notes of blocks, and of the client

-- what a note of a block means, by whether its thread holds the lock
abbrev pub Means : Program → Policy → HeldCalls → Bool → Values → List Value → Frame → Note → Part → Type 0
Means program policy held mine recorded fields frame notes.Free part = ⊥
Means program policy held mine recorded fields frame (notes.Taking site) part = ⊥
Means program policy held mine recorded fields frame (notes.Held site failed holding list map) part =
    (mine ≡ true) × MeansHeld program policy held recorded fields frame site failed holding list map part
Means program policy held mine recorded fields frame (notes.Granted site locked count top) part =
    MeansGranted program policy held mine recorded fields frame site locked count top part
Means program policy held mine recorded fields frame (notes.Owed site stage kept top) part =
    MeansOwed program policy held mine recorded fields frame site stage kept top part
Means program policy held mine recorded fields frame (notes.Stop site place) part = (mine ≡ true) × MeansStop program policy held frame place part

-- what a note means in the client's code: also the one of a call that needs no lock, before it
abbrev pub IsFree : Program → Policy → HeldCalls → Frame → Note → Type 0
IsFree program policy held frame notes.Free = AreClean program frame.stack.items
IsFree program policy held frame (notes.Taking site) =
    (takes_for_call policy (notes.Taking site) ≡ true) × IsAbove program (lock_of program ∷ []) frame.stack.items
IsFree program policy held frame (notes.Held site failed holding list map) = ⊥
IsFree program policy held frame (notes.Granted site locked count top) =
    (is_open held policy (notes.Granted site locked count top) ≡ true) × AreClean program frame.stack.items
IsFree program policy held frame (notes.Owed site stage kept top) = ⊥
IsFree program policy held frame (notes.Stop site place) = ⊥
