-- One step of the client, whatever it is, is lifted: the woven program goes up to the call of a block, makes the step, and leaves the
-- block, and the machines mirror each other again. (docs/TRANSPARENCY.md)
use Rattle.std.specs.Prelude.{◌≡◌, ⊤, ◌+◌, ◌≤◌, ℕ, suc, Bool, true, false, if◌then◌else◌, IfSome, List, [], ◌∷◌, length, map, slice_get, Option, Some, None}
use Rattle.std.specs.List.{AllByRecursion}
use Rattle.std.specs.Option.{option_map_or}
use Rattle.api_listing.specs.declared.events.ApiValue.{ApiValue}
use Rattle.api_listing.specs.declared.events.Event.{Event}
use Rattle.api_listing.specs.declared.events.Event.TheVariants as events
use Rattle.insn_codec.specs.declared.insn.Insn.{Insn}
use Rattle.insn_codec.specs.declared.shape.Heap.TheVariants as heap
use Rattle.insn_codec.specs.declared.shape.How.{How}
use Rattle.insn_codec.specs.Shapes.{shape_of}
use Rattle.bytecode_model.specs.declared.program.Method.{Method}
use Rattle.bytecode_model.specs.declared.program.Program.{Program}
use Rattle.bytecode_model.specs.declared.program.Target.TheVariants as target
use Rattle.cert_format.specs.declared.certificate.Mode.{Mode}
use Rattle.cert_format.specs.declared.certificate.Mode.TheVariants.{Hold, Release}
use Rattle.conspec_tree.specs.declared.types.Kind.{Kind}
use Rattle.conspec_tree.specs.declared.types.Phase.TheVariants.{Before, After}
use Rattle.conspec_automaton.specs.declared.policy.Policy.{Policy}
use Rattle.conspec_automaton.specs.Next.{Values, has_clauses, next}
use Rattle.conspec_automaton.specs.Range.{in_range}
use Rattle.conspec_automaton.specs.Sound.{IsPolicy}
use Rattle.offset_patch.specs.declared.block.Block.{Block}
use Rattle.offset_patch.specs.Entries.{state_name}
use Rattle.offset_patch.specs.Splicing.{operands_needed}
use Rattle.block_template.specs.Blocks.{block, clause_at, locals_used, plan_of}
use Rattle.block_template.specs.Typed.{operand_of}
use Rattle.guest_frames.specs.Values.{fits}
use Rattle.guest_heap.specs.declared.frame.Frame.{Frame}
use Rattle.guest_heap.specs.declared.object.Monitor.{Monitor}
use Rattle.guest_heap.specs.declared.thread.Doing.{Doing}
use Rattle.guest_heap.specs.declared.thread.Doing.TheVariants as doings
use Rattle.guest_heap.specs.declared.thread.Thread.{Thread}
use Rattle.guest_heap.specs.declared.value.Value.{Value}
use Rattle.guest_heap.specs.declared.value.Value.TheVariants as values
use Rattle.guest_model.specs.declared.machine.Machine.{Machine}
use Rattle.guest_model.specs.declared.machine.Step.{Step}
use Rattle.guest_model.specs.Moving.{StackFits}
use Rattle.guest_model.specs.Places.{class_index, insn_at, insn_in, method_at}
use Rattle.guest_model.specs.Runs.{exec_from, start_of, trace_from}
use Rattle.guest_model.specs.Stepping.{heap_in, stepped}
use Rattle.guest_erasing.specs.Climbing.{Lifts}
use Rattle.guest_erasing.specs.Laid.{TellAlike}
use Rattle.guest_erasing.specs.Lifting.{lifted_from}
use Rattle.guest_erasing.specs.Mirrors.{IsClientMachine, Mirrors}
use Rattle.guest_erasing.specs.Places.{Sites, front}
use Rattle.guest_erasing.specs.Runs.{GoOn, Ran}
use Rattle.guest_erasing.specs.Steps.{AreRoomy}
use Rattle.class_weaving.specs.Woven.{plan_sites}
use Rattle.block_runs.specs.Made.{IsCodeOf}
use Rattle.block_runs.specs.Passed.{AreOfKinds}
use Rattle.block_runs.specs.Steps.{StateIndex, held_by, locks_in}

-- ---- the woven program

-- the blocks of a method, where a policy is woven in this mode
abbrev pub sites : Policy → Mode → Method → Sites
sites policy mode = plan_sites (plan_of policy mode)

-- conspec/State stands after all classes of the client.
abbrev pub state_of : Program → StateIndex
state_of client = record { class = length client.classes; number = length client.listing.classes + length client.classes }

-- The block of a call of this method stands in the code, which has room for what it keeps and pushes.
pub record IsPut (policy : Policy) (mode : Mode) (client woven : Program) (class method : ℕ) (old new : Method) (index listed : ℕ)
    (made : Block) : Type 0 where
  pub code : IsCodeOf woven (state_of client) class method (front (sites policy mode old) index) made.insns
  pub locals : old.max_locals + locals_used policy listed ≤ new.max_locals
  pub stack : old.max_stack + operands_needed ≤ new.max_stack

abbrev pub BlocksArePut : Policy → Mode → Program → Program → Type 0
BlocksArePut policy mode client woven =
    (class method : ℕ) (old new : Method) → method_at client class method ≡ Some old → method_at woven class method ≡ Some new
    → (index listed : ℕ) (made : Block) → slice_get old.refs index ≡ Some (target.ApiMethod listed)
    → block policy mode listed old.max_locals ≡ Some made
    → IsPut policy mode client woven class method old new index listed made

-- An instruction that names a method of the library calls it.
abbrev pub ListedAreCalled : Program → Type 0
ListedAreCalled client =
    (class method : ℕ) (old : Method) → method_at client class method ≡ Some old
    → (index listed : ℕ) (insn : Insn) → insn_in old index ≡ Some (insn, target.ApiMethod listed)
    → (how : How) × (heap_in (shape_of insn) ≡ Some (heap.Call how))

-- What is known of a client and of what the policy's weaving makes of it.
pub record IsWovenBy (policy : Policy) (mode : Mode) (client woven : Program) : Type 0 where
  pub sound : IsPolicy policy
  pub tell : TellAlike (sites policy mode) client woven
  pub state : class_index woven state_name ≡ Some (state_of client).number
  pub put : BlocksArePut policy mode client woven
  pub called : ListedAreCalled client

-- ---- machines

-- The thread is in a call of a method with clauses.
abbrev pub is_calling : Policy → Doing → Bool
is_calling policy doings.Running = false
is_calling policy (doings.InCall method receiver arguments) = has_clauses policy method
is_calling policy doings.Ended = false

-- the numbers of the threads in such calls, of which the first has this number
abbrev pub callers : Policy → ℕ → List Thread → List ℕ
callers policy number [] = []
callers policy number (thread ∷ threads) =
    if is_calling policy thread.doing then number ∷ callers policy (suc number) threads else callers policy (suc number) threads

-- In mode release the lock is free. In mode hold the one thread that is in such a call holds it, and where there is none it is free.
abbrev pub LockIs : ℕ → Mode → List ℕ → List Monitor → Type 0
LockIs state Release numbers locks = locks ≡ []
LockIs state Hold [] locks = locks ≡ []
LockIs state Hold (number ∷ []) locks = locks ≡ held_by state number true
LockIs state Hold (number ∷ other ∷ numbers) locks = ⊥

-- The machines mirror each other, and conspec/State holds this state of the policy.
pub record MirrorsIn (policy : Policy) (mode : Mode) (client woven : Program) (now : Values) (machine other : Machine) : Type 0 where
  pub mirrors : Mirrors (sites policy mode) client woven machine other
  pub fields : slice_get other.statics (state_of client).class ≡ Some (map values.Int now)
  pub ranged : in_range policy now ≡ true
  pub lock : LockIs (state_of client).number mode (callers policy 0 machine.threads) (locks_in (state_of client).number other.monitors)

-- ---- the step

-- the operands of the frame that a thread has on top
abbrev pub top_items : Thread → List Value
top_items thread = option_map_or (λ (f : Frame). f.stack.items) (slice_get thread.frames 0) []

abbrev pub items_of : Machine → ℕ → List Value
items_of machine number = option_map_or top_items (slice_get machine.threads number) []

-- what is passed by the call for whose end a thread waits
abbrev pub passed_by : Doing → List Value
passed_by doings.Running = []
passed_by (doings.InCall method receiver arguments) = arguments
passed_by doings.Ended = []

abbrev pub passed_in : Machine → ℕ → List Value
passed_in machine number = option_map_or (λ (t : Thread). passed_by t.doing) (slice_get machine.threads number) []

-- A result is seen, and one of the kind stands on top, where the clause is for one.
abbrev pub GivesKind : Option Kind → Option ApiValue → List Value → Type 0
GivesKind None value items = ⊤
GivesKind (Some kind) None items = ⊥
GivesKind (Some kind) (Some shown) [] = ⊥
GivesKind (Some kind) (Some shown) (v ∷ items) = fits (operand_of kind) v ≡ true

-- What a call passes and what it gives are of the kinds that the policy's clauses name, in the machine after the step of this thread.
abbrev pub AreKinds : Policy → Option Event → Machine → ℕ → Type 0
AreKinds policy None machine number = ⊤
AreKinds policy (Some (events.Call thread method arguments)) machine number =
    IfSome (clause_at policy method Before) (λ c. AreOfKinds c.args (passed_in machine number))
AreKinds policy (Some (events.Return thread method value)) machine number =
    IfSome (clause_at policy method After) (λ c. GivesKind c.result value (items_of machine number))
AreKinds policy (Some (events.Except thread method)) machine number = ⊤

-- A thread that waits for the library stands at the call of that method.
abbrev pub StandsAtCall : Program → Doing → List Frame → Type 0
StandsAtCall client doings.Running frames = ⊤
StandsAtCall client (doings.InCall method receiver arguments) [] = ⊥
StandsAtCall client (doings.InCall method receiver arguments) (frame ∷ below) =
    (insn : Insn) × (insn_at client frame ≡ Some (insn, target.ApiMethod method))
StandsAtCall client doings.Ended frames = ⊤

abbrev pub AllWait : Program → Machine → Type 0
AllWait client machine = AllByRecursion (λ (t : Thread). StandsAtCall client t.doing t.frames) machine.threads

-- What the client's types tell of a step of this thread.
pub record StepFits (policy : Policy) (client : Program) (machine : Machine) (step : Step) (made : Machine × Option Event) : Type 0 where
  pub fits : (thread : Thread) (frame : Frame) → slice_get machine.threads step.thread ≡ Some thread
      → slice_get thread.frames 0 ≡ Some frame
      → StackFits frame
  pub kinds : AreKinds policy made.1 made.0 step.thread

-- The policy accepts what is seen, and its state is this one then.
abbrev pub Accepts : Policy → Values → Option Event → Values → Type 0
Accepts policy now None new = new ≡ now
Accepts policy now (Some event) new = next policy now event ≡ Some new

-- In mode hold a call of a method with clauses begins where no thread is in one.
abbrev pub MayBegin : Policy → Mode → Option Event → List Thread → Type 0
MayBegin policy mode None threads = ⊤
MayBegin policy mode (Some (events.Call thread method arguments)) threads =
    mode ≡ Hold → has_clauses policy method ≡ true → callers policy 0 threads ≡ []
MayBegin policy mode (Some (events.Return thread method value)) threads = ⊤
MayBegin policy mode (Some (events.Except thread method)) threads = ⊤

-- A step as typing, the policy and the mode allow it.
pub record IsAllowed (policy : Policy) (mode : Mode) (client : Program) (now : Values) (machine : Machine) (step : Step)
    (made : Machine × Option Event) (new : Values) : Type 0 where
  pub ours : IsClientMachine client machine
  pub fits : StepFits policy client machine step made
  pub accepts : Accepts policy now made.1 new
  pub begins : MayBegin policy mode made.1 machine.threads

-- The step is lifted, and the machines mirror each other then, in this state.
pub record IsLifted (policy : Policy) (mode : Mode) (client woven : Program) (other : Machine) (step : Step) (made : Machine × Option Event)
    (new : Values) : Type 0 where
  pub after : Machine
  pub lifts : Lifts (sites policy mode) client woven other step made.1 after
  pub mirrors : MirrorsIn policy mode client woven new made.0 after

-- ---- the laws

-- One step is lifted.
abbrev pub StepsAreLifted : Type 0
StepsAreLifted =
    (policy : Policy) (mode : Mode) (client woven : Program) → IsWovenBy policy mode client woven → AreRoomy client
    → (now new : Values) (machine other : Machine) (step : Step) (made : Machine × Option Event)
    → MirrorsIn policy mode client woven now machine other
    → AllWait client machine
    → stepped client machine step ≡ Some made → IsAllowed policy mode client now machine step made new
    → IsLifted policy mode client woven other step made new

-- The lifted steps are a run of the woven program of which the library sees the same, and the machines mirror each other at its end.
pub record AreLifted (policy : Policy) (mode : Mode) (client woven : Program) (machine other : Machine) (steps : List Step)
    (end : Values) : Type 0 where
  pub after : Machine
  pub ran : Ran woven other (lifted_from (sites policy mode) client woven other steps) (trace_from client machine steps) after
  pub mirrors : MirrorsIn policy mode client woven end (exec_from client machine steps) after

-- So is every list of steps of which each is allowed in its place.
abbrev pub RunsAreLifted : Type 0
RunsAreLifted =
    (policy : Policy) (mode : Mode) (client woven : Program) → IsWovenBy policy mode client woven → AreRoomy client
    → (steps : List Step) (now end : Values) (machine other : Machine) → MirrorsIn policy mode client woven now machine other
    → AllWait client machine → GoOn (IsAllowed policy mode client) client now machine steps end
    → AreLifted policy mode client woven machine other steps end

-- A thread that waits stands at its call after each step, where each did so before it, and before the first.
abbrev pub WaitsAreKept : Type 0
WaitsAreKept =
    (program : Program) (machine : Machine) (step : Step) (made : Machine × Option Event) → AllWait program machine
    → stepped program machine step ≡ Some made → AllWait program made.0

abbrev pub StartsWait : Type 0
StartsWait = (program : Program) → AllWait program (start_of program)
