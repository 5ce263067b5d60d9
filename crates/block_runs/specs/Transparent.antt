-- What the block of a call does: the client finds its operands and its locals as they were, and the policy's variables are what the
-- automaton tells; or the program is stopped, where it refuses. (docs/BLOCKS.md)
use Rattle.std.specs.Prelude.{◌≡◌, ℕ, pos, ◌+◌, ◌≤◌, Bool, true, false, IfSome, [], ◌∷◌, length, map, take, Some, None}
use Rattle.api_listing.specs.declared.events.Event.{Event}
use Rattle.cert_format.specs.declared.certificate.Mode.{Mode}
use Rattle.cert_format.specs.declared.certificate.Mode.TheVariants.{Release}
use Rattle.conspec_tree.specs.declared.types.Phase.{Phase}
use Rattle.conspec_tree.specs.declared.types.Phase.TheVariants.{Before, After, Exceptional}
use Rattle.conspec_automaton.specs.declared.policy.Policy.{Policy}
use Rattle.conspec_automaton.specs.Next.{Values, is_phase_of, method_of, next}
use Rattle.conspec_automaton.specs.Range.{in_range}
use Rattle.conspec_automaton.specs.Sound.{IsPolicy}
use Rattle.offset_patch.specs.declared.block.Block.{Block}
use Rattle.offset_patch.specs.Splicing.{call_place}
use Rattle.block_template.specs.Blocks.{block, clause_at, is_locked, locals_used}
use Rattle.guest_heap.specs.declared.value.Value.{Value}
use Rattle.guest_heap.specs.declared.value.Value.TheVariants as values
use Rattle.guest_frames.specs.Values.{is_null}
use Rattle.block_runs.specs.Passed.{ArePassed, IsGiven}
use Rattle.block_runs.specs.Running.{Called, End, Left, Stopped, Thrown, run_from}
use Rattle.block_runs.specs.Spots.{Spot}

-- ---- before and after

-- An event of a method, and the state of the policy before it.
pub record IsEvent (policy : Policy) (method : ℕ) (phase : Phase) (event : Event) (now : Values) : Type 0 where
  pub method_is : method_of event ≡ method
  pub phase_is : is_phase_of event phase ≡ true
  pub ranged : in_range policy now ≡ true

-- A block pushes so many operands at most above those that it finds. The third for which weaving makes room is what its handler catches.
abbrev pub most_pushed : ℕ
most_pushed = 2

-- The fields hold the policy's state, and the lock is held or not. From the base on so many locals are the block's, and there is room
-- for what it pushes.
pub record Holds (base used : ℕ) (now : Values) (held : Bool) (spot : Spot) : Type 0 where
  pub fields : spot.fields ≡ map values.Int now
  pub lock : spot.locked ≡ held
  pub locals : base + used ≤ length spot.locals
  pub room : length spot.stack.items + most_pushed ≤ spot.stack.size

-- The client's operands and locals are as they were, the fields hold this state, and the lock is held or not.
pub record IsAfter (base : ℕ) (new : Values) (held : Bool) (before after : Spot) : Type 0 where
  pub stack : after.stack ≡ before.stack
  pub locals : take base after.locals ≡ take base before.locals
  pub count : length after.locals ≡ length before.locals
  pub fields : after.fields ≡ map values.Int new
  pub lock : after.locked ≡ held

-- A run ends so, in such a spot.
abbrev pub EndsSo : ℕ → Values → Bool → Spot → End → (Spot → End) → Type 0
EndsSo base new held before end so = (after : Spot) × (end ≡ so after) × IsAfter base new held before after

-- the status of a program that is stopped since the policy refuses
abbrev pub refused : End
refused = Stopped (pos 77)

-- ---- what comes of an event

-- Where the automaton accepts the event the run ends so, in the new state, and where it refuses the program is stopped.
pub record Judges (policy : Policy) (base : ℕ) (event : Event) (now : Values) (held : Bool) (before : Spot) (end : End) (so : Spot
    → End) : Type 0 where
  pub accepts : (new : Values) → next policy now event ≡ Some new → EndsSo base new held before end so
  pub refuses : next policy now event ≡ None → end ≡ refused

-- From its front a block reaches its call, with the lock held in mode hold and free in mode release.
abbrev pub BlocksReachCalls : Type 0
BlocksReachCalls =
    (policy : Policy) (mode : Mode) (method base state : ℕ) (made : Block) → IsPolicy policy → block policy mode method base ≡ Some made
    → (event : Event) (now : Values) → IsEvent policy method Before event now
    → (spot : Spot) → Holds base (locals_used policy method) now false spot
    → IfSome (clause_at policy method Before) (λ c. ArePassed c.args event spot.stack.items)
    → Judges policy base event now (is_locked mode) spot (run_from state made.insns 0 spot) (Called (call_place made.insns))

-- After the call it is left at its end, with the lock free.
abbrev pub BlocksReturn : Type 0
BlocksReturn =
    (policy : Policy) (mode : Mode) (method base state : ℕ) (made : Block) → IsPolicy policy → block policy mode method base ≡ Some made
    → (event : Event) (now : Values) → IsEvent policy method After event now
    → (spot : Spot) → Holds base (locals_used policy method) now (is_locked mode) spot
    → IfSome (clause_at policy method After) (λ c. IsGiven c.result event spot.stack.items)
    → Judges policy base event now false spot (run_from state made.insns (call_place made.insns + 1) spot) Left

-- From its handler it throws on what was caught, with the lock free.
abbrev pub BlocksThrowOn : Type 0
BlocksThrowOn =
    (policy : Policy) (mode : Mode) (method base state place : ℕ) (made : Block) → IsPolicy policy → block policy mode method base
    ≡ Some made
    → made.handler ≡ Some place → (event : Event) (now : Values) → IsEvent policy method Exceptional event now
    → (spot : Spot) (v : Value) → Holds base 0 now (is_locked mode) spot → spot.stack.items ≡ v ∷ [] → is_null v ≡ false
    → Judges policy base event now false spot (run_from state made.insns place spot) (Thrown v)

-- A block without a handler has nothing to do where its call throws.
abbrev pub BlocksNeedNoHandler : Type 0
BlocksNeedNoHandler =
    (policy : Policy) (mode : Mode) (method base : ℕ) (made : Block) → block policy mode method base ≡ Some made → made.handler ≡ None
    → (mode ≡ Release) × (clause_at policy method Exceptional ≡ None)
