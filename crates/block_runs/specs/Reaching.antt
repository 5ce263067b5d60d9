-- What blocks do in the machine: plain steps of the thread lead from the front of a block to its call, from after the call to the
-- block's end, and from its handler to where it throws on. (docs/BLOCKS.md)
use Rattle.std.specs.Prelude.{◌≡◌, ℕ, ◌+◌, ◌≤◌, Bool, false, IfSome, List, [], ◌∷◌, length, Some, None, option_map, slice_get}
use Rattle.api_listing.specs.declared.events.Event.{Event}
use Rattle.bytecode_model.specs.declared.program.Program.{Program}
use Rattle.cert_format.specs.declared.certificate.Mode.{Mode}
use Rattle.conspec_tree.specs.declared.types.Phase.TheVariants.{Before, After, Exceptional}
use Rattle.conspec_automaton.specs.declared.policy.Policy.{Policy}
use Rattle.conspec_automaton.specs.Next.{Values, next}
use Rattle.conspec_automaton.specs.Sound.{IsPolicy}
use Rattle.offset_patch.specs.declared.block.Block.{Block}
use Rattle.offset_patch.specs.declared.block.BlockInsn.{BlockInsn}
use Rattle.offset_patch.specs.Entries.{state_name}
use Rattle.offset_patch.specs.Splicing.{call_place}
use Rattle.block_template.specs.Blocks.{block, clause_at, is_locked, locals_used}
use Rattle.guest_heap.specs.declared.frame.Frame.{Frame}
use Rattle.guest_heap.specs.declared.value.Value.{Value}
use Rattle.guest_frames.specs.Stepping.{moved_to}
use Rattle.guest_frames.specs.Values.{is_null}
use Rattle.guest_model.specs.declared.machine.Machine.{Machine}
use Rattle.guest_model.specs.Changes.{throws, world_of}
use Rattle.guest_model.specs.Kinds.{class_of_value}
use Rattle.guest_model.specs.Parts.{running}
use Rattle.guest_model.specs.Places.{class_index}
use Rattle.guest_model.specs.Stepping.{changed}
use Rattle.block_runs.specs.Made.{HasCome, IsCodeOf, IsIn, LeadsTo, plain_step}
use Rattle.block_runs.specs.Passed.{ArePassed, IsGiven}
use Rattle.block_runs.specs.Spots.{Spot, Throws, block_insn_stepped}
use Rattle.block_runs.specs.Steps.{StateIndex}
use Rattle.block_runs.specs.Transparent.{Holds, IsAfter, IsEvent}

-- A program with the block of a method, in a policy that was read; and a thread of a machine whose frame stands in the block.
pub record InBlock : Type 0 where
  pub program : Program
  pub state : StateIndex
  pub policy : Policy
  pub mode : Mode
  pub method : ℕ
  pub base : ℕ
  pub made : Block
  pub begin : ℕ
  pub number : ℕ
  pub frame : Frame
  pub below : List Frame
  pub to_begin : List (ℕ × ℕ)
  pub machine : Machine

-- The frame stands at this place of the block, at this spot.
pub record IsInBlock (b : InBlock) (at : ℕ) (spot : Spot) : Type 0 where
  pub known : class_index b.program state_name ≡ Some b.state.number
  pub sound : IsPolicy b.policy
  pub is_block : block b.policy b.mode b.method b.base ≡ Some b.made
  pub code : IsCodeOf b.program b.state b.frame.class b.frame.method b.begin b.made.insns
  pub stands : IsIn b.state b.begin at b.number b.frame b.below b.to_begin b.machine spot

-- Plain steps lead from a place of the block to another, where the client's operands and locals are as they were at the spot, the fields
-- hold this state, and the lock is held or not.
pub record Reaches (b : InBlock) (from place : ℕ) (spot : Spot) (new : Values) (held : Bool) : Type 0 where
  pub after : Spot
  pub is : IsAfter b.base new held spot after
  pub count : ℕ
  pub few : from + count ≤ place
  pub end : Machine
  pub steps : LeadsTo b.program b.number b.frame.class b.frame.method (b.begin + from) (b.begin + place) count b.machine end
  pub come : HasCome b.state b.begin place b.number b.frame b.below b.to_begin b.machine end after

abbrev pub CallsAreReached : Type 0
CallsAreReached =
    (b : InBlock) (spot : Spot) → IsInBlock b 0 spot → (event : Event) (now new : Values) → IsEvent b.policy b.method Before event now
    → Holds b.base (locals_used b.policy b.method) now false spot
    → IfSome (clause_at b.policy b.method Before) (λ c. ArePassed c.args event spot.stack.items)
    → next b.policy now event ≡ Some new → Reaches b 0 (call_place b.made.insns) spot new (is_locked b.mode)

abbrev pub EndsAreReached : Type 0
EndsAreReached =
    (b : InBlock) (spot : Spot) → IsInBlock b (call_place b.made.insns + 1) spot → (event : Event) (now new : Values)
    → IsEvent b.policy b.method After event now
    → Holds b.base (locals_used b.policy b.method) now (is_locked b.mode) spot
    → IfSome (clause_at b.policy b.method After) (λ c. IsGiven c.result event spot.stack.items)
    → next b.policy now event ≡ Some new → Reaches b (call_place b.made.insns + 1) (length b.made.insns) spot new false

-- At its end the frame throws this value on.
pub record ReachesThrow (b : InBlock) (from : ℕ) (spot : Spot) (new : Values) (v : Value) : Type 0 where
  pub place : ℕ
  pub reaches : Reaches b from place spot new false
  pub insn : BlockInsn
  pub there : slice_get b.made.insns place ≡ Some insn
  pub thrown : block_insn_stepped b.state.number (place + 1) reaches.after insn ≡ Throws v
  pub throws_on : changed b.program reaches.end (plain_step b.number)
      ≡ option_map
      (λ (class : List ℕ). throws b.program (world_of reaches.end) b.number
      (running (moved_to b.frame (b.begin + place) reaches.after.locals reaches.after.stack.items ∷ b.below) b.to_begin)
      (moved_to b.frame (b.begin + place) reaches.after.locals reaches.after.stack.items ∷ b.below) v class None)
      (class_of_value reaches.end.heap v)

abbrev pub ThrowsAreReached : Type 0
ThrowsAreReached =
    (b : InBlock) (from : ℕ) (spot : Spot) → IsInBlock b from spot → b.made.handler ≡ Some from → (event : Event) (now new : Values)
    → IsEvent b.policy b.method Exceptional event now → (v : Value)
    → Holds b.base 0 now (is_locked b.mode) spot → spot.stack.items ≡ v ∷ [] → is_null v ≡ false
    → next b.policy now event ≡ Some new → ReachesThrow b from spot new v
