-- The machine makes the run of a block: plain steps of its thread, of which the library sees nothing, lead to where the run ends.
-- (docs/BLOCKS.md)
use Rattle.std.specs.Prelude.{◌≡◌, ◌≢◌, ◌⊎◌, ℕ, zero, suc, ◌+◌, ◌<◌, ◌≤◌, List, ◌∷◌, length, slice_get, slice_set, Some, None}
use Rattle.std.specs.List.{AllByRecursion}
use Rattle.class_codec.specs.declared.tree.Const.{Const}
use Rattle.bytecode_model.specs.declared.program.Method.{Method}
use Rattle.bytecode_model.specs.declared.program.Program.{Program}
use Rattle.bytecode_model.specs.declared.program.Target.{Target}
use Rattle.insn_codec.specs.declared.insn.Insn.{Insn}
use Rattle.offset_patch.specs.declared.block.BlockInsn.{BlockInsn}
use Rattle.offset_patch.specs.Entries.{state_name}
use Rattle.offset_patch.specs.Fits.{IsBlockInsn}
use Rattle.guest_heap.specs.declared.frame.Frame.{Frame}
use Rattle.guest_frames.specs.Stepping.{moved_to}
use Rattle.guest_model.specs.declared.machine.Choice.TheVariants as choices
use Rattle.guest_model.specs.declared.machine.Machine.{Machine}
use Rattle.guest_model.specs.declared.machine.Step.{Step}
use Rattle.guest_model.specs.Parts.{running}
use Rattle.guest_model.specs.Places.{class_index, insn_in, method_at}
use Rattle.guest_model.specs.Stepping.{Acting, stepped}
use Rattle.block_runs.specs.Running.{Called, End, Left, Lost, Stopped, Thrown, run_from}
use Rattle.block_runs.specs.Spots.{Calls, Goes, Spot, Stops, Stuck, Throws, Went, block_insn_stepped}
use Rattle.block_runs.specs.Steps.{StandsAt, StateIndex, held_by, locks_in, others_in, placed_insn}

-- ---- a thread in a block

-- The block's instructions stand in the code of a method, from this place on.
pub record IsCodeOf (program : Program) (state : StateIndex) (class method begin : ℕ) (insns : List BlockInsn) : Type 0 where
  pub pool : List Const
  pub fronts : List ℕ
  pub own : Insn
  pub ref : Target
  pub code : Method
  pub there : method_at program class method ≡ Some code
  pub each : (k : ℕ) (insn : BlockInsn) → slice_get insns k ≡ Some insn → insn_in code (begin + k)
      ≡ Some (placed_insn pool fronts begin own state ref insn)
  pub are : AllByRecursion IsBlockInsn insns

-- the thread, where this is its frame on top
abbrev pub acting : ℕ → Frame → List Frame → List (ℕ × ℕ) → Acting
acting number frame below to_begin = record { number = number; thread = running (frame ∷ below) to_begin; frame = frame; below = below }

-- The thread of this number runs, and its frame stands at this place of the block, at this spot.
pub record IsIn (state : StateIndex) (begin at number : ℕ) (frame : Frame) (below : List Frame) (to_begin : List (ℕ × ℕ))
    (machine : Machine) (spot : Spot) : Type 0 where
  pub thread : slice_get machine.threads number ≡ Some (running (frame ∷ below) to_begin)
  pub goes_on : machine.stopped ≡ None
  pub stands : StandsAt state begin at machine (acting number frame below to_begin) spot

-- ---- steps

abbrev pub plain_step : ℕ → Step
plain_step number = record { thread = number; choice = choices.Plain }

-- The thread's frame is of this method, and stands from `low` on, and below `high`.
pub record IsBetween (number class method low high : ℕ) (machine : Machine) : Type 0 where
  pub frame : Frame
  pub in_class : frame.class ≡ class
  pub in_method : frame.method ≡ method
  pub below : List Frame
  pub to_begin : List (ℕ × ℕ)
  pub thread : slice_get machine.threads number ≡ Some (running (frame ∷ below) to_begin)
  pub least : low ≤ frame.at
  pub most : frame.at < high

-- So many plain steps of the thread, before each of which it is in this method between these places, lead from one machine to another; the
-- library sees
-- nothing.
abbrev pub LeadsTo : Program → ℕ → ℕ → ℕ → ℕ → ℕ → ℕ → Machine → Machine → Type 0
LeadsTo program number class method low high zero machine end = machine ≡ end
LeadsTo program number class method low high (suc count) machine end =
    IsBetween number class method low high machine
    × ((next : Machine) × ((stepped program machine (plain_step number)
    ≡ Some (next, None)) × LeadsTo program number class method low high count next end))

-- The frame has come to this place of the block and to this spot; what is neither the thread's nor conspec/State's stays.
pub record HasCome (state : StateIndex) (begin place number : ℕ) (frame : Frame) (below : List Frame) (to_begin : List (ℕ × ℕ))
    (machine end : Machine)
    (spot : Spot) : Type 0 where
  pub threads : end.threads
      ≡ slice_set machine.threads number (running (moved_to frame (begin + place) spot.locals spot.stack.items ∷ below) to_begin)
  pub size : spot.stack.size ≡ frame.stack.size
  pub goes_on : end.stopped ≡ None
  pub heap : end.heap ≡ machine.heap
  pub statics : end.statics ≡ slice_set machine.statics state.class spot.fields
  pub lock : locks_in state.number end.monitors ≡ held_by state.number number spot.locked
  pub others : others_in state.number end.monitors ≡ others_in state.number machine.monitors

-- ---- the end of a run

-- what an instruction at this place makes of a run that it ends
abbrev pub ended_by : ℕ → Spot → Went → End
ended_by place spot (Goes to after) = Lost
ended_by place spot Calls = Called place spot
ended_by place spot (Throws v) = Thrown v spot
ended_by place spot (Stops status) = Stopped status
ended_by place spot Stuck = Lost

-- The run ends with the instruction at this place, or after all of them.
pub record EndsWith (state : StateIndex) (insns : List BlockInsn) (place : ℕ) (spot : Spot) (end : End) : Type 0 where
  pub insn : BlockInsn
  pub there : slice_get insns place ≡ Some insn
  pub is : end ≡ ended_by place spot (block_insn_stepped state.number (place + 1) spot insn)

pub record EndsAfter (insns : List BlockInsn) (place : ℕ) (spot : Spot) (end : End) : Type 0 where
  pub past : place ≡ length insns
  pub is : end ≡ Left spot

-- Steps lead to the place at which the run ends, each at a place before it.
pub record IsMade (program : Program) (state : StateIndex) (insns : List BlockInsn) (begin from number : ℕ) (frame : Frame)
    (below : List Frame)
    (to_begin : List (ℕ × ℕ)) (machine : Machine) (end : End) : Type 0 where
  pub place : ℕ
  pub spot : Spot
  pub last : EndsWith state insns place spot end ⊎ EndsAfter insns place spot end
  pub count : ℕ
  pub few : from + count ≤ place
  pub after : Machine
  pub steps : LeadsTo program number frame.class frame.method (begin + from) (begin + place) count machine after
  pub come : HasCome state begin place number frame below to_begin machine after spot

-- So it is of each run that is not lost.
abbrev pub RunsAreMade : Type 0
RunsAreMade =
    (program : Program) (state : StateIndex) → class_index program state_name ≡ Some state.number
    → (insns : List BlockInsn) (begin from number : ℕ) (frame : Frame) (below : List Frame) (to_begin : List (ℕ × ℕ))
    (machine : Machine) (spot : Spot)
    → IsCodeOf program state frame.class frame.method begin insns
    → IsIn state begin from number frame below to_begin machine spot
    → run_from state.number insns from spot ≢ Lost
    → IsMade program state insns begin from number frame below to_begin machine (run_from state.number insns from spot)
