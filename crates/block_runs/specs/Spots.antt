-- What an instruction of a block does to the thread that runs it: a machine that knows no program and no place of the client.
-- (docs/BLOCKS.md)
use Rattle.std.specs.Prelude.{
  ℕ,
  ℤ,
  ◌==◌,
  ◌&&◌,
  Bool,
  true,
  false,
  not,
  nat_lt,
  if◌then◌else◌,
  List,
  ◌∷◌,
  length,
  drop,
  slice_get,
  slice_set,
}
use Rattle.std.specs.Option.{option_map_or}
use Rattle.insn_codec.specs.declared.insn.Insn.TheVariants as insns
use Rattle.insn_codec.specs.declared.shape.Shape.{Shape}
use Rattle.insn_codec.specs.declared.shape.Shape.TheVariants as shapes
use Rattle.insn_codec.specs.declared.opcodes.TheConstants.{ATHROW, GETSTATIC, INVOKESTATIC, LDC_W, MONITORENTER, MONITOREXIT, PUTSTATIC}
use Rattle.insn_codec.specs.Control.{goes_to}
use Rattle.insn_codec.specs.Effect.{Moved, effect}
use Rattle.insn_codec.specs.Shapes.{branch_shape, local_shape, plain_shape}
use Rattle.offset_patch.specs.declared.block.BlockInsn.{BlockInsn}
use Rattle.offset_patch.specs.declared.block.BlockInsn.TheVariants.{Plain, Byte, Short, Local, Want, Jump, Call}
use Rattle.offset_patch.specs.declared.block.PoolWant.{PoolWant}
use Rattle.offset_patch.specs.declared.block.PoolWant.TheVariants as wants
use Rattle.guest_heap.specs.declared.value.Value.{Value}
use Rattle.guest_heap.specs.declared.value.Value.TheVariants as values
use Rattle.guest_heap.specs.Stack.{Operands}
use Rattle.guest_frames.specs.Values.{are_one, is_null, values_moved, values_seen}
use Rattle.guest_model.specs.Parts.{number_in}

-- Where a thread is with a block: the operands and the locals of its frame, the fields of conspec/State, and whether the thread has
-- the monitor of that class, which is the lock.
pub record Spot : Type 0 where
  pub stack : Operands
  pub locals : List Value
  pub fields : List Value
  pub locked : Bool

-- what comes of an instruction
pub data Went : Type 0 where
  -- the thread goes on to this place of the block
  Goes : ℕ → Spot → Went
  -- the client's call stands there
  Calls : Went
  Throws : Value → Went
  -- the program is stopped, with this status
  Stops : ℤ → Went
  -- an operand or a local is missing or not of its kind, or the lock is taken twice, or left when it is not held
  Stuck : Went

-- ---- going on

-- the thread goes on to the place, with these locals and operands, where these are at most the stack's size
abbrev pub goes_with : ℕ → Spot → List Value → List Value → Went
goes_with place spot locals items =
    if nat_lt spot.stack.size (length items) then Stuck
    else Goes place (record {
      stack = record { items = items; size = spot.stack.size };
      locals = locals;
      fields = spot.fields;
      locked =
          spot.locked;
    })

abbrev pub pushes : ℕ → Spot → Value → Went
pushes next spot v = goes_with next spot spot.locals (v ∷ spot.stack.items)

-- It goes on with the topmost operand taken, which is the one that is worked on.
abbrev pub takes_one : ℕ → Spot → Went
takes_one next spot = goes_with next spot spot.locals (drop 1 spot.stack.items)

abbrev pub with_top : Spot → (Value → Went) → Went
with_top spot f = option_map_or f (slice_get spot.stack.items 0) Stuck

-- ---- on the frame alone

-- an instruction of this shape, after which this place comes next
abbrev pub frame_went : Shape → ℕ → Spot → Went
frame_went shape next spot =
    option_map_or (λ (m : Moved Value). goes_with (goes_to values_seen (insns.GotoW next) shape next spot.stack.items) spot m.0 m.1)
    (effect values_moved shape spot.locals spot.stack.items) Stuck

-- ---- the lock, and what is thrown

abbrev pub with_lock : Spot → Bool → Spot
with_lock spot locked = record { stack = spot.stack; locals = spot.locals; fields = spot.fields; locked = locked }

-- The lock is the monitor of the class of this number, conspec/State.
abbrev pub enters : ℕ → ℕ → Spot → Value → Went
enters state next spot on = if are_one on (values.Class state) && not spot.locked then takes_one next (with_lock spot true) else Stuck

abbrev pub leaves : ℕ → ℕ → Spot → Value → Went
leaves state next spot on = if are_one on (values.Class state) && spot.locked then takes_one next (with_lock spot false) else Stuck

abbrev pub thrown : Value → Went
thrown v = if is_null v then Stuck else Throws v

abbrev pub plain_went : ℕ → ℕ → Spot → ℕ → Went
plain_went state next spot op =
    if op == MONITORENTER then with_top spot (enters state next spot)
    else if op == MONITOREXIT then with_top spot (leaves state next spot)
    else if op == ATHROW then with_top spot thrown
    else frame_went (plain_shape op) next spot

-- ---- what blocks name

abbrev pub with_fields : Spot → List Value → Spot
with_fields spot fields = record { stack = spot.stack; locals = spot.locals; fields = fields; locked = spot.locked }

abbrev pub reads_field : ℕ → Spot → ℕ → Went
reads_field next spot var = option_map_or (pushes next spot) (slice_get spot.fields var) Stuck

abbrev pub writes_field : ℕ → Spot → ℕ → Value → Went
writes_field next spot var v = option_map_or (λ (old : Value). takes_one next (with_fields spot (slice_set spot.fields var v)))
    (slice_get spot.fields var) Stuck

abbrev pub stopped_by : Value → Went
stopped_by v = option_map_or Stops (number_in v) Stuck

-- an opcode and what it names
abbrev pub want_went : ℕ → ℕ → Spot → ℕ → PoolWant → Went
want_went state next spot op wants.StateClass = if op == LDC_W then pushes next spot (values.Class state) else Stuck
want_went state next spot op (wants.Integer n) = if op == LDC_W then pushes next spot (values.Int n) else Stuck
want_went state next spot op (wants.StateField var is_bool) =
    if op == GETSTATIC then reads_field next spot var
    else if op == PUTSTATIC then with_top spot (writes_field next spot var)
    else Stuck
want_went state next spot op wants.Exit = if op == INVOKESTATIC then with_top spot stopped_by else Stuck

-- ---- an instruction

-- what comes of an instruction of a block after which this place comes next
abbrev pub block_insn_stepped : ℕ → ℕ → Spot → BlockInsn → Went
block_insn_stepped state next spot (Plain op) = plain_went state next spot op
block_insn_stepped state next spot (Byte n) = frame_went (shapes.Push n) next spot
block_insn_stepped state next spot (Short n) = frame_went (shapes.Push n) next spot
block_insn_stepped state next spot (Local op slot wide) = frame_went (local_shape op slot) next spot
block_insn_stepped state next spot (Want op want) = want_went state next spot op want
block_insn_stepped state next spot (Jump op place) = frame_went (branch_shape op place) next spot
block_insn_stepped state next spot Call = Calls
