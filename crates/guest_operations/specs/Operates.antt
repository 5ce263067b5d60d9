-- What an instruction did to the heap, the static fields and the operands, beside what the machine's definition says.
-- (docs/MACHINE.md)
use Rattle.std.specs.Prelude.{◌≡◌, ℕ, nat_lt, if◌then◌else◌, List, ◌∷◌, length, Option, Some, None, Result, Ok, Err}
use Rattle.guest_heap.specs.declared.object.Monitor.{Monitor}
use Rattle.guest_heap.specs.declared.object.Object.{Object}
use Rattle.guest_heap.specs.declared.value.Value.{Value}
use Rattle.guest_heap.specs.Stack.{Operands}
use Rattle.mon_base.specs.declared.memory.NoMemory.{NoMemory}
use Rattle.guest_model.specs.Changes.{World}
use Rattle.guest_model.specs.HeapOperations.{HeapResult}
use Rattle.guest_operations.specs.declared.completion.Comes.{Comes}
use Rattle.guest_operations.specs.declared.completion.Comes.TheVariants as come
use Rattle.guest_operations.specs.declared.completion.Completion.{Completion}
use Rattle.guest_operations.specs.declared.completion.Completion.TheVariants as completions
use Rattle.guest_model.specs.Exceptions.{name_of}

-- ---- what is worked on

pub record OperationState : Type 0 where
  pub heap : List Object
  pub statics : List (List Value)
  pub stack : Operands

-- the workplace with this heap, these static fields and these operands
abbrev pub at : List Object → List (List Value) → Operands → OperationState
at heap statics stack = record { heap = heap; statics = statics; stack = stack }

-- the same with the monitors, as all threads share it
abbrev pub with_monitors : OperationState → List Monitor → World
with_monitors place monitors = record { heap = place.heap; statics = place.statics; monitors = monitors }

-- what an instruction comes to, where the operands that it leaves are at most so many
abbrev pub fitting : ℕ → HeapResult → HeapResult
fitting size None = None
fitting size (Some (Err name)) = Some (Err name)
fitting size (Some (Ok made)) = if nat_lt size (length made.1) then None else Some (Ok made)

-- what is told by an outcome, with what was left
abbrev pub told : OperationState → List Monitor → Option Completion → HeapResult
told left monitors None = None
told left monitors (Some completions.Goes) = Some (Ok (with_monitors left monitors, left.stack.items))
told left monitors (Some (completions.Throws t)) = Some (Err (name_of t))

-- the stack keeps its size; and all is as it was, unless it went on
abbrev pub Stays : OperationState → OperationState → Option Completion → Type 0
Stays old new None = new ≡ old
Stays old new (Some completions.Goes) = new.stack.size ≡ old.stack.size
Stays old new (Some (completions.Throws t)) = new ≡ old

-- Whatever the monitors are, the instruction comes to what the outcome tells, with what was left; or memory ran out, and all is
-- as it was.
abbrev pub Operates : Result (Option Completion) NoMemory → OperationState → OperationState → (World → HeapResult) → Type 0
Operates (Ok completion) old new made = ((monitors : List Monitor) → fitting old.stack.size (made (with_monitors old monitors)) ≡ told new monitors completion) × Stays old new completion
Operates (Err e) old new made = new ≡ old

-- ---- what comes of operands

-- a value, which stands above those that are left, or an exception
abbrev pub comes : World → List Value → Option Comes → HeapResult
comes world left None = None
comes world left (Some (come.Value v)) = Some (Ok (world, v ∷ left))
comes world left (Some (come.Throws t)) = Some (Err (name_of t))
