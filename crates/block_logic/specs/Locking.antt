-- A thread takes the lock where nobody holds it. (The Java Virtual Machine Specification, section 6.5, monitorenter.)
use Rattle.std.specs.Prelude.{◌≡◌, ℕ, List, [], ◌∷◌, Some, None, slice_get}
use Rattle.insn_codec.specs.declared.insn.Insn.TheVariants as insns
use Rattle.insn_codec.specs.declared.opcodes.TheConstants.{MONITORENTER}
use Rattle.bytecode_model.specs.declared.program.Program.{Program}
use Rattle.bytecode_model.specs.declared.program.Target.{Target}
use Rattle.guest_heap.specs.declared.frame.Frame.{Frame}
use Rattle.guest_heap.specs.declared.thread.Doing.TheVariants as doings
use Rattle.guest_heap.specs.declared.thread.Thread.{Thread}
use Rattle.guest_model.specs.declared.machine.Choice.TheVariants as choices
use Rattle.guest_model.specs.declared.machine.Machine.{Machine}
use Rattle.guest_model.specs.declared.machine.Step.{Step}
use Rattle.guest_model.specs.Enabled.{IsEnabled}
use Rattle.guest_model.specs.Moving.{StackFits}
use Rattle.guest_model.specs.Places.{insn_at}
use Rattle.guest_model.specs.Runs.{stepped_or_same}
use Rattle.block_logic.specs.Fitting.{held_locks, locked_by}
use Rattle.block_logic.specs.Meaning.{lock_of}

-- The thread goes on at `monitorenter`, with the lock on top of its operands.
pub record IsAtLock (program : Program) (machine : Machine) (number : ℕ) : Type 0 where
  pub runs : machine.stopped ≡ None
  pub thread : Thread
  pub there : slice_get machine.threads number ≡ Some thread
  pub running : thread.doing ≡ doings.Running
  pub frame : Frame
  pub below : List Frame
  pub top : thread.frames ≡ frame ∷ below
  pub ref : Target
  pub next : insn_at program frame ≡ Some (insns.Plain MONITORENTER, ref)
  pub lock : slice_get frame.stack.items 0 ≡ Some (lock_of program)
  pub fits : StackFits frame

-- the step in which the thread goes on
abbrev pub plain_step : ℕ → Step
plain_step number = record { thread = number; choice = choices.Plain }

-- Where nobody holds the lock, the step of such a thread is enabled, and after it the thread holds the lock.
abbrev pub FreeLockIsTaken : Type 0
FreeLockIsTaken =
    (program : Program) (machine : Machine) (number : ℕ) → IsAtLock program machine number → held_locks program machine.monitors ≡ []
    → IsEnabled program machine (plain_step number)
    × (held_locks program (stepped_or_same program machine (plain_step number)).monitors ≡ locked_by program number)
