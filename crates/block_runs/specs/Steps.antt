-- The machine makes what a block does: where a frame stands at an instruction of a block, a step of its thread changes the frame, the
-- fields of conspec/State and its monitor as is told of blocks, and nothing else. (docs/BLOCKS.md)
use Rattle.std.specs.Prelude.{
  ◌≡◌,
  ℕ,
  ◌+◌,
  Bool,
  true,
  false,
  not,
  List,
  [],
  ◌∷◌,
  filter,
  slice_get,
  slice_set,
  Option,
  Some,
  None,
  option_map,
}
use Rattle.bytecode_model.specs.declared.program.Program.{Program}
use Rattle.bytecode_model.specs.declared.program.Target.{Target}
use Rattle.class_codec.specs.declared.tree.Const.{Const}
use Rattle.insn_codec.specs.declared.insn.Insn.{Insn}
use Rattle.offset_patch.specs.declared.block.BlockInsn.{BlockInsn}
use Rattle.offset_patch.specs.Entries.{state_name}
use Rattle.offset_patch.specs.Fits.{IsBlockInsn}
use Rattle.offset_patch.specs.Splicing.{part_named, put}
use Rattle.guest_heap.specs.declared.object.Monitor.{Monitor}
use Rattle.guest_heap.specs.declared.value.Value.{Value}
use Rattle.guest_heap.specs.declared.value.Value.TheVariants as values
use Rattle.guest_frames.specs.Stepping.{moved_to}
use Rattle.guest_frames.specs.Values.{are_one}
use Rattle.guest_model.specs.declared.machine.Machine.{Machine}
use Rattle.guest_model.specs.Changes.{Change, World, goes, throws, world_of}
use Rattle.guest_model.specs.Kinds.{class_of_value}
use Rattle.guest_model.specs.Places.{class_index}
use Rattle.guest_model.specs.Stepping.{Acting, insn_stepped}
use Rattle.block_runs.specs.Spots.{Spot, Goes, Throws, block_insn_stepped}

-- ---- the lock

-- The monitor is the lock's, where conspec/State has this number among all classes.
abbrev pub is_lock : ℕ → Monitor → Bool
is_lock state m = are_one m.on (values.Class state)

-- the lock, held once by the thread of this number, or by none
abbrev pub held_by : ℕ → ℕ → Bool → List Monitor
held_by state number true = record { on = values.Class state; owner = number; count = 1 } ∷ []
held_by state number false = []

abbrev pub locks_in : ℕ → List Monitor → List Monitor
locks_in state monitors = filter (is_lock state) monitors

abbrev pub others_in : ℕ → List Monitor → List Monitor
others_in state monitors = filter (λ (m : Monitor). not (is_lock state m)) monitors

-- ---- a frame in a block

-- conspec/State: its index among the given classes, and its number among all
pub record StateIndex : Type 0 where
  pub class : ℕ
  pub number : ℕ

-- The thread's frame stands at this place of a block that begins at `begin`, and the thread is at this spot.
pub record StandsAt (state : StateIndex) (begin at : ℕ) (machine : Machine) (a : Acting) (spot : Spot) : Type 0 where
  pub place : a.frame.at ≡ begin + at
  pub stack : a.frame.stack ≡ spot.stack
  pub locals : a.frame.locals ≡ spot.locals
  pub fields : slice_get machine.statics state.class ≡ Some spot.fields
  pub lock : locks_in state.number machine.monitors ≡ held_by state.number a.number spot.locked

-- What the step changes: the frame goes on to this place of the block, and the thread is at this spot then.
pub record ComesTo (state : StateIndex) (begin place : ℕ) (machine : Machine) (a : Acting) (after : Spot)
    (made : Option Change) : Type 0 where
  pub world : World
  pub is : made ≡ Some (goes world a.thread (moved_to a.frame (begin + place) after.locals after.stack.items ∷ a.below))
  pub size : after.stack.size ≡ a.frame.stack.size
  pub heap : world.heap ≡ machine.heap
  pub statics : world.statics ≡ slice_set machine.statics state.class after.fields
  pub lock : locks_in state.number world.monitors ≡ held_by state.number a.number after.locked
  pub others : others_in state.number world.monitors ≡ others_in state.number machine.monitors

-- ---- the laws

-- A block's instruction as it stands in code, with what its operand names.
abbrev pub placed_insn : List Const → List ℕ → ℕ → Insn → StateIndex → Target → BlockInsn → Insn × Target
placed_insn pool fronts begin own state ref insn = (put pool fronts begin own insn, part_named state.class ref insn)

-- Where the instruction goes on, the machine does so.
abbrev pub MovesAreMade : Type 0
MovesAreMade =
    (program : Program) (state : StateIndex) → class_index program state_name ≡ Some state.number
    → (pool : List Const) (fronts : List ℕ) (begin at : ℕ) (own : Insn) (ref : Target) (insn : BlockInsn) → IsBlockInsn insn
    → (machine : Machine) (a : Acting) (spot : Spot) → StandsAt state begin at machine a spot
    → (place : ℕ) (after : Spot) → block_insn_stepped state.number (at + 1) spot insn ≡ Goes place after
    → ComesTo state begin place machine a after (insn_stepped program machine a (placed_insn pool fronts begin own state ref insn))

-- Where it throws, the machine throws that.
abbrev pub ThrowsAreMade : Type 0
ThrowsAreMade =
    (program : Program) (state : StateIndex) (pool : List Const) (fronts : List ℕ) (begin at : ℕ) (own : Insn) (ref : Target)
    (insn : BlockInsn)
    → (machine : Machine) (a : Acting) (spot : Spot) → StandsAt state begin at machine a spot
    → (v : Value) → block_insn_stepped state.number (at + 1) spot insn ≡ Throws v
    → insn_stepped program machine a (placed_insn pool fronts begin own state ref insn)
    ≡ option_map (λ (class : List ℕ). throws program (world_of machine) a.number a.thread (a.frame ∷ a.below) v class None)
    (class_of_value machine.heap v)
