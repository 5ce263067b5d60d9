-- When a machine is as the notes of its threads say, and what of it is no part of any block. (docs/CERTIFICATES.md)
use Rattle.std.specs.Prelude.{◌≡◌, ◌≢◌, ◌⊎◌, ℕ, Bool, true, false, IfSome, IsSome, List, [], ◌∷◌, filter, length, Option, Some, None, slice_get}
use Rattle.std.specs.List.{AllByRecursion}
use Rattle.api_listing.specs.declared.events.Event.{Event}
use Rattle.insn_codec.specs.declared.insn.Insn.{Insn}
use Rattle.insn_codec.specs.Shapes.{shape_of}
use Rattle.bytecode_model.specs.declared.program.Program.{Program}
use Rattle.bytecode_model.specs.declared.program.Target.TheVariants as target
use Rattle.block_logic.specs.Annotations.{Annotations, holds_round, is_always}
use Rattle.cert_format.specs.declared.note.Note.{Note}
use Rattle.cert_format.specs.declared.note.Note.TheVariants as notes
use Rattle.cert_format.specs.declared.note.Site.{Site}
use Rattle.conspec_automaton.specs.declared.policy.Policy.{Policy}
use Rattle.conspec_automaton.specs.Next.{Values, has_clauses, initial, next}
use Rattle.conspec_automaton.specs.Obeys.{IsFollowed, after, spoken}
use Rattle.conspec_automaton.specs.Range.{in_range}
use Rattle.guest_heap.specs.declared.frame.Frame.{Frame}
use Rattle.guest_heap.specs.declared.object.Monitor.{Monitor}
use Rattle.guest_heap.specs.declared.object.Object.{Object}
use Rattle.guest_heap.specs.declared.object.Object.TheVariants as objects
use Rattle.guest_heap.specs.declared.thread.Doing.{Doing}
use Rattle.guest_heap.specs.declared.thread.Doing.TheVariants as doings
use Rattle.guest_heap.specs.declared.thread.Thread.{Thread}
use Rattle.guest_heap.specs.declared.value.Value.{Value}
use Rattle.guest_frames.specs.Values.{are_one}
use Rattle.guest_model.specs.declared.machine.Machine.{Machine}
use Rattle.guest_model.specs.Changes.{World, world_of}
use Rattle.guest_model.specs.Places.{insn_at}
use Rattle.block_logic.specs.Accepted.{rules_of}
use Rattle.block_logic.specs.Agreement.{Agree, Part, all_granted, all_owed}
use Rattle.block_logic.specs.Agreement as parts
use Rattle.block_logic.specs.Clauses.{needs}
use Rattle.block_logic.specs.Meaning.{AreClean, AreState, IsBelow, IsClean, HasState, IsFrame, IsFree, Means, lock_of, note_of}
use Rattle.block_logic.specs.Operands.{calls}

-- ---- what all share

-- An object holds no lock.
abbrev pub IsCleanObject : Program → Object → Type 0
IsCleanObject program (objects.Plain class fields target thread) = AreClean program fields × IsClean program target
IsCleanObject program (objects.Array desc items) = AreClean program items
IsCleanObject program (objects.Text text) = Unit {0}

-- the number of the class that holds the policy's variables
abbrev pub state_of : Program → Policy → Annotations → ℕ
state_of program policy annotations = (rules_of program policy annotations).state

-- No object and no static field but the policy's variables holds the lock.
pub record IsCleanWorld (program : Program) (state : ℕ) (world : World) : Type 0 where
  pub heap : AllByRecursion (IsCleanObject program) world.heap
  pub statics : (class : ℕ) (fields : List Value) → class ≢ state → slice_get world.statics class ≡ Some fields → AreClean program fields

-- the lock, as often as it is held
abbrev pub held_locks : Program → List Monitor → List Monitor
held_locks program monitors = filter (λ (m : Monitor). are_one m.on (lock_of program)) monitors

-- it is held once, by the thread of this number
abbrev pub locked_by : Program → ℕ → List Monitor
locked_by program number = record { on = lock_of program; owner = number; count = 1 } ∷ []

-- ---- a thread that does not hold the lock

-- the frame at whose instruction it goes on: there is none, or its note is no note of a block that holds the lock
abbrev pub IsClientFrame : Program → Policy → Annotations → Frame → Type 0
IsClientFrame program policy annotations frame =
    (insn_at program frame ≡ None) ⊎ ((note : Note) × (note_of program annotations frame ≡ Some note) × IsFree program policy annotations.held frame note)

-- Below stand frames that wait.
abbrev pub AreBelow : Program → Policy → Annotations → List Frame → Type 0
AreBelow program policy annotations below = AllByRecursion (IsBelow program policy annotations) below

abbrev pub AreClientFrames : Program → Policy → Annotations → List Frame → Type 0
AreClientFrames program policy annotations [] = Unit {0}
AreClientFrames program policy annotations (frame ∷ below) =
    IsFrame program frame × IsClientFrame program policy annotations frame × AreBelow program policy annotations below

-- A frame waits for the answer to a call of the method.
pub record IsAtCall (program : Program) (annotations : Annotations) (method : ℕ) (note : Note) (frame : Frame) : Type 0 where
  pub insn : Insn
  pub there : insn_at program frame ≡ Some (insn, target.ApiMethod method)
  pub call : calls (shape_of insn) ≡ true
  pub told : note_of program annotations frame ≡ Some note
  pub clean : AreClean program frame.stack.items

abbrev pub IsClientCall : Program → Policy → Annotations → ℕ → List Frame → Type 0
IsClientCall program policy annotations method [] = ⊥
IsClientCall program policy annotations method (frame ∷ below) =
    IsFrame program frame × IsAtCall program annotations method notes.Free frame × AreBelow program policy annotations below

-- what it passed
abbrev pub ArePassed : Program → Option Value → List Value → Type 0
ArePassed program receiver arguments = IfSome receiver (IsClean program) × AreClean program arguments

abbrev pub IsClientDoing : Program → Policy → Annotations → List Frame → Doing → Type 0
IsClientDoing program policy annotations frames doings.Running = AreClientFrames program policy annotations frames
IsClientDoing program policy annotations frames (doings.InCall method receiver arguments) =
    (has_clauses policy method ≡ false) × IsClientCall program policy annotations method frames × ArePassed program receiver arguments
IsClientDoing program policy annotations frames doings.Ended = Unit {0}

abbrev pub IsClient : Program → Policy → Annotations → Thread → Type 0
IsClient program policy annotations thread = IsClientDoing program policy annotations thread.frames thread.doing

-- ---- a thread in a block, by whether it holds the lock

pub record IsBlockFrame (program : Program) (policy : Policy) (annotations : Annotations) (mine : Bool) (recorded : Values) (fields : List Value) (frame : Frame) (part : Part) : Type 0 where
  pub well : IsFrame program frame
  pub note : Note
  pub told : note_of program annotations frame ≡ Some note
  pub means : Means program policy annotations.held mine recorded fields frame note part

abbrev pub AreBlockFrames : Program → Policy → Annotations → Bool → Values → List Value → List Frame → Part → Type 0
AreBlockFrames program policy annotations mine recorded fields [] part = ⊥
AreBlockFrames program policy annotations mine recorded fields (frame ∷ below) part =
    IsBlockFrame program policy annotations mine recorded fields frame part × AreBelow program policy annotations below

-- It is in a call that was granted and made, round which the lock is held or not.
pub record IsBlockCall (program : Program) (policy : Policy) (annotations : Annotations) (mine : Bool) (recorded : Values) (fields : List Value) (method : ℕ) (frame : Frame) (part : Part) : Type 0 where
  pub round : holds_round annotations.held method ≡ mine
  pub well : IsFrame program frame
  pub site : Site
  pub of : site.method ≡ method
  pub at_call : IsAtCall program annotations method (notes.Granted site mine (needs policy method) false) frame
  pub clear : part ≡ parts.Clear
  pub variables : HasState mine fields recorded

abbrev pub AreBlockCall : Program → Policy → Annotations → Bool → Values → List Value → ℕ → List Frame → Part → Type 0
AreBlockCall program policy annotations mine recorded fields method [] part = ⊥
AreBlockCall program policy annotations mine recorded fields method (frame ∷ below) part =
    IsBlockCall program policy annotations mine recorded fields method frame part × AreBelow program policy annotations below

abbrev pub IsBlockDoing : Program → Policy → Annotations → Bool → Values → List Value → List Frame → Doing → Part → Type 0
IsBlockDoing program policy annotations mine recorded fields frames doings.Running part = AreBlockFrames program policy annotations mine recorded fields frames part
IsBlockDoing program policy annotations mine recorded fields frames (doings.InCall method receiver arguments) part =
    (has_clauses policy method ≡ true) × AreBlockCall program policy annotations mine recorded fields method frames part × ArePassed program receiver arguments
IsBlockDoing program policy annotations mine recorded fields frames doings.Ended part = ⊥

abbrev pub IsInBlock : Program → Policy → Annotations → Bool → Values → List Value → Thread → Part → Type 0
IsInBlock program policy annotations mine recorded fields thread part = IsBlockDoing program policy annotations mine recorded fields thread.frames thread.doing part

-- the thread that holds the lock
abbrev pub IsOwner : Program → Policy → Annotations → Values → List Value → Thread → Part → Type 0
IsOwner program policy annotations recorded fields thread part = IsInBlock program policy annotations true recorded fields thread part

-- A thread that does not hold it: in the client's code, with nothing begun; or in a block. The variables are none of its concern.
abbrev pub IsOther : Program → Policy → Annotations → Thread → Part → Type 0
IsOther program policy annotations thread part =
    (IsClient program policy annotations thread × (part ≡ parts.Clear)) ⊎ IsInBlock program policy annotations false [] [] thread part

-- ---- the machine

-- All threads but those that are left out are no owners of the lock.
abbrev pub AreOthers : Program → Policy → Annotations → (ℕ → Type 0) → List Thread → List Part → Type 0
AreOthers program policy annotations IsMeant threads among =
    (number : ℕ) (thread : Thread) (part : Part) → IsMeant number → slice_get threads number ≡ Some thread → slice_get among number ≡ Some part
    → IsOther program policy annotations thread part

-- Nobody holds the lock: the variables are the state that is recorded.
pub record IsUnlocked (program : Program) (policy : Policy) (annotations : Annotations) (machine : Machine) (recorded : Values) (fields : List Value) (among : List Part) : Type 0 where
  pub free : held_locks program machine.monitors ≡ []
  pub variables : AreState fields recorded
  pub threads : AreOthers program policy annotations (λ number. Unit {0}) machine.threads among

-- One thread holds it.
pub record IsLocked (program : Program) (policy : Policy) (annotations : Annotations) (machine : Machine) (recorded : Values) (fields : List Value) (among : List Part) : Type 0 where
  pub owner : ℕ
  pub locked : held_locks program machine.monitors ≡ locked_by program owner
  pub thread : Thread
  pub there : slice_get machine.threads owner ≡ Some thread
  pub part : Part
  pub part_there : slice_get among owner ≡ Some part
  pub owns : IsOwner program policy annotations recorded fields thread part
  pub others : AreOthers program policy annotations (λ number. number ≢ owner) machine.threads among

-- The machine is as its notes say, and what the monitor has recorded agrees with the events so far.
pub record Fits (program : Program) (policy : Policy) (annotations : Annotations) (machine : Machine) (seen : List Event) : Type 0 where
  pub world : IsCleanWorld program (state_of program policy annotations) (world_of machine)
  pub fields : List Value
  pub there : slice_get machine.statics (state_of program policy annotations) ≡ Some fields
  pub recorded : Values
  pub ranged : in_range policy recorded ≡ true
  pub among : List Part
  pub each : length among ≡ length machine.threads
  pub agree : Agree (next policy) (initial policy) (spoken policy seen) recorded (all_granted among) (all_owed among)
  pub lock : IsUnlocked program policy annotations machine recorded fields among ⊎ IsLocked program policy annotations machine recorded fields among

-- What the events so far do: they are followed where the lock is held round each call, and else accepted.
abbrev pub ObeysIn : Bool → Policy → List Event → Type 0
ObeysIn true policy seen = IsFollowed policy seen
ObeysIn false policy seen = IsSome (after (next policy) (initial policy) (spoken policy seen))

-- The events obey, and until the program is stopped the machine is as the notes say.
pub record IsKept (program : Program) (policy : Policy) (annotations : Annotations) (machine : Machine) (seen : List Event) : Type 0 where
  pub obeys : ObeysIn (is_always annotations.held) policy seen
  pub fits : machine.stopped ≡ None → Fits program policy annotations machine seen
