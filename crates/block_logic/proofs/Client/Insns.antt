-- Steps of the client's code, by what their instruction does.
use Rattle.std.proofs.Common.{◌≡◌, ◌≢◌, ℕ, zero, suc, ◌+◌, ◌<◌, Bool, true, false, cond, List, [], ◌∷◌, drop, get_or, Option, Some, None, Result, Ok, Err, refl, sym, ap, subst, ◌∙◌, inl, inr, arith}
use Rattle.std.specs.Prelude.{Contains, IfSome, slice_get}
use Rattle.std.specs.Option.{option_map_or, option_to_list}
use Rattle.std.proofs.lemmas.Bool.{false≢true}
use Rattle.std.proofs.lemmas.List.Elements.{Contains-append_cases}
use Rattle.std.proofs.lemmas.Slice.Eq.{bytes_eq-Decides}
use Rattle.block_logic.specs.Annotations.{Annotations}
use Rattle.cert_format.specs.declared.note.Note.TheVariants as notes
use Rattle.insn_codec.specs.declared.insn.Insn.{Insn}
use Rattle.insn_codec.specs.declared.shape.Heap.{Heap}
use Rattle.insn_codec.specs.declared.shape.Heap.TheVariants as heap
use Rattle.insn_codec.specs.declared.shape.How.{How}
use Rattle.insn_codec.specs.declared.shape.ValueKind.{ValueKind}
use Rattle.insn_codec.specs.declared.shape.Shape.{Shape}
use Rattle.insn_codec.specs.declared.shape.Shape.TheVariants as shapes
use Rattle.insn_codec.specs.Control.{jump_targets, next_of}
use Rattle.insn_codec.specs.Effect.{Moved, effect}
use Rattle.insn_codec.specs.Opcodes.{goes_on}
use Rattle.insn_codec.specs.Shapes.{shape_of}
use Rattle.insn_codec.specs.Encoding.{opcode_of}
use Rattle.insn_codec.specs.Table.{ends, is_heap}
use Rattle.insn_codec.proofs.Table.{goes_to_successor}
use Rattle.bytecode_model.specs.declared.program.Program.{Program}
use Rattle.bytecode_model.specs.declared.program.Target.{Target}
use Rattle.bytecode_model.specs.declared.program.Target.TheVariants as target
use Rattle.bytecode_model.specs.SearchOrder.{Name}
use Rattle.conspec_automaton.specs.declared.policy.Policy.{Policy}
use Rattle.guest_heap.specs.declared.frame.Frame.{Frame}
use Rattle.guest_heap.specs.declared.object.Monitor.{Monitor}
use Rattle.guest_heap.specs.declared.value.Value.{Value}
use Rattle.guest_heap.specs.declared.value.Value.TheVariants as values
use Rattle.guest_frames.specs.Stepping.{after, fitted, frame_stepped}
use Rattle.guest_frames.specs.Values.{fits, is_null, values_moved, values_seen}
use Rattle.guest_model.specs.declared.machine.Machine.{Machine}
use Rattle.guest_model.specs.Changes.{Change, World, with_monitors, world_of}
use Rattle.guest_model.specs.Kinds.{class_of_value}
use Rattle.guest_model.specs.Monitors.{all_given_up, entered, left}
use Rattle.guest_model.specs.Parts.{bad_monitor, constant_value, null_pointer, result_of}
use Rattle.guest_model.specs.Places.{insn_at}
use Rattle.guest_model.specs.Stepping.{
  Acting,
  acts_on,
  acts_throwing,
  comes_to,
  enters,
  heap_in,
  heap_stepped,
  leaves,
  left_with,
  returns,
  throws_top,
  operates,
}
use Rattle.guest_model.specs.HeapOperations.{heap_result}
use Rattle.guest_model.proofs.HeapResults.{Comes, result_comes}
use Rattle.guest_model.proofs.Effects.{effect_keeps}
use Rattle.guest_model.proofs.Options.{IfThere, all_drop, all_get, and_then_of, if_either, if_mapped, if_none, if_some, if_then, is_there}
use Rattle.block_logic.specs.Fitting.{AreBelow, AreClientFrames, IsCleanObject, held_locks, state_of}
use Rattle.block_logic.specs.Meaning.{AreClean, IsClean, IsFrame, note_of}
use Rattle.block_logic.specs.Operands.{calls, has_clause, is_state_name, pushes_state, state_name, variable_named}
use Rattle.block_logic.proofs.Client.Begins.{clean_list}
use Rattle.block_logic.proofs.Client.Calls.{calls_good}
use Rattle.block_logic.proofs.Client.Changes.{Good, GoodIf, Keeps, after_free, fitted_free, returned_good, throws_good, throws_new_good, went_on, with_held}
use Rattle.block_logic.proofs.Client.Classes.{named_clean}
use Rattle.block_logic.proofs.Client.Frames.{FreeAt, GoesFree, Laws, insn_is, may_go_on}
use Rattle.block_logic.proofs.Client.Monitors.{all_given_up_stay, entered_stays, left_stays}
use Rattle.block_logic.proofs.Client.Throws.{AreCatching}
use Rattle.block_logic.proofs.Client.Values.{KeepsLock, clean_kept, names_clean}
use Rattle.block_logic.proofs.Client.Operates.{clean_lasts, names_apart}

-- ---- constants

constant_clean : (program : Program) (ref : Target) → is_state_name ref ≡ false → IfThere (IsClean program) (constant_value program ref)
constant_clean program (target.Number n) apart = if_some (IsClean program) (values.Int n) refl
constant_clean program (target.Literal index) apart = if_some (IsClean program) (values.Lit index) refl
constant_clean program (target.ClassName name) apart =
    named_clean program name (λ e. false≢true (sym apart ∙ (bytes_eq-Decides name state_name).1 e))
constant_clean program target.None apart = if_none (IsClean program)
constant_clean program (target.ApiMethod index) apart = if_none (IsClean program)
constant_clean program (target.Builtin index) apart = if_none (IsClean program)
constant_clean program (target.Method class method) apart = if_none (IsClean program)
constant_clean program (target.Field class field) apart = if_none (IsClean program)
constant_clean program (target.ApiField index) apart = if_none (IsClean program)

-- ---- what a list of one, or of none, contains

one_of : (x y : ℕ) → Contains (x ∷ []) y → x ≡ y
one_of x y has = at has.0 has.1 has.2 where
  at : (i : ℕ) → i < 1 → get_or (x ∷ []) i y ≡ y → x ≡ y
  at zero within is = is
  at (suc i) within is = absurd (omega (arith, within))

none_of : (y : ℕ) → Contains [] y → ⊥
none_of y has = absurd (omega (arith, has.1))

module _ (program : Program) (policy : Policy) (annotations : Annotations) (laws : Laws program policy annotations)
    (machine : Machine)
    (kept : Keeps program policy annotations (world_of machine) (world_of machine)) (a : Acting) (well : IsFrame program a.frame)
    (clean : AreClean program a.frame.stack.items) (below : AreBelow program policy annotations a.below) where
  abbrev shared : World
  shared = world_of machine

  abbrev IsGood : Change → Type 0
  IsGood change = Good program policy annotations (world_of machine) change

  abbrev Makes : Option Change → Type 0
  Makes change = GoodIf program policy annotations (world_of machine) change

  abbrev Stays : World → Type 0
  Stays world = Keeps program policy annotations (world_of machine) world

  pub acts_good : (world : World) (f : Option Frame) → Keeps program policy annotations (world_of machine) world
      → ((x : Frame) → f ≡ Some x → AreClientFrames program policy annotations (x ∷ a.below))
      → GoodIf program policy annotations (world_of machine) (acts_on world a f)
  acts_good world f k there = went_on program policy annotations laws shared world a.thread f a.below k there

  module _ (next : Insn × Target) (there : insn_at program a.frame ≡ Some next) (g : GoesFree program policy annotations a.frame next) where
    -- ---- throwing, and going on after the instruction

    frames_catch : AreCatching program policy annotations (a.frame ∷ a.below)
    frames_catch = (record { well = well; caught = g.caught }, below)

    throws_here : (world : World) (class : Name) → Stays world → Makes (Some (acts_throwing program world a class))
    throws_here world class k =
        if_some IsGood _
        (throws_new_good program policy annotations laws shared world a.number a.thread (a.frame ∷ a.below) class None k frames_catch
        tt)

    throws_top_good : (v : Value) → IsClean program v → Makes (throws_top program shared a v)
    throws_top_good v own =
        if_either IsGood (is_null v) _ _ (throws_here shared null_pointer kept)
        (if_mapped IsGood _ (class_of_value machine.heap v)
        (λ class e. throws_good program policy annotations laws shared shared a.number a.thread (a.frame ∷ a.below) v class None
        kept own frames_catch tt))

    module _ (stays : ends (shape_of next.0) ≡ false) where
      next_free : FreeAt program policy annotations a.frame (a.frame.at + 1)
      next_free = g.past (may_go_on program policy annotations laws a.frame next there stays)

      goes_after_good : (world : World) (items : List Value) → Stays world → AreClean program items → Makes (acts_on world a (after a.frame items))
      goes_after_good world items k all =
          acts_good world (after a.frame items) k (after_free program policy annotations a.frame items a.below well next_free all below)

      -- with other monitors, and one operand less
      goes_less : (held : List Monitor) → held_locks program held ≡ held_locks program machine.monitors
          → Makes (acts_on (with_monitors shared held) a (after a.frame (drop 1 a.frame.stack.items)))
      goes_less held same =
          goes_after_good (with_monitors shared held) (drop 1 a.frame.stack.items)
          (with_held program policy annotations laws shared shared held kept same)
          (all_drop (IsClean program) 1 a.frame.stack.items clean)

      -- ---- the heap, static fields, division

      comes_good : (made : Result (World × List Value) Name) → Comes (IsClean program) (KeepsLock program (state_of program policy annotations) shared) made
          → Makes (comes_to program shared a made)
      comes_good (Ok made) comes = goes_after_good made.0 made.1 comes.0 comes.1
      comes_good (Err class) comes = throws_here shared class kept

      operates_good : (what : Heap) → (what ≡ heap.Constant → IfThere (IsClean program) (constant_value program next.1))
          → variable_named (state_of program policy annotations) next.1 ≡ None → Makes (operates program shared a what next.1)
      operates_good what names alone =
          let state : ℕ = state_of program policy annotations in
          if_then IsGood _ (heap_result program shared what next.1 a.frame.stack.items)
          (λ made e. comes_good made
          (is_there (Comes (IsClean program) (KeepsLock program state shared)) _ made
          (result_comes (IsClean program) (IsCleanObject program) (KeepsLock program state shared) (λ class. class ≢ state)
          (clean_lasts program state shared) program shared kept a.frame.stack.items clean what next.1 names
          (names_apart state next.1 alone)) e))

      -- ---- monitors

      enters_good : (on : Value) → IsClean program on → Makes (enters program shared a on)
      enters_good on own =
          if_either IsGood (is_null on) _ _ (throws_here shared null_pointer kept)
          (if_then IsGood _ (entered machine.monitors a.number on) (λ held e. goes_less held (entered_stays program a.number on own machine.monitors held e)))

      left_good : (held : Option (List Monitor)) → ((new : List Monitor) → held ≡ Some new → held_locks program new ≡ held_locks program machine.monitors)
          → Makes (left_with program shared a held)
      left_good None same = throws_here shared bad_monitor kept
      left_good (Some held) same = goes_less held (same held refl)

      leaves_good : (on : Value) → IsClean program on → Makes (leaves program shared a on)
      leaves_good on own =
          if_either IsGood (is_null on) _ _ (throws_here shared null_pointer kept)
          (left_good (left machine.monitors a.number on) (λ new e. left_stays program a.number on own machine.monitors new e))

    -- ---- returns

    abbrev GivesClean : Option Value → Type 0
    GivesClean result = IfSome result (IsClean program)

    result_clean : (kind : Option ValueKind) → IfThere GivesClean (result_of kind a.frame.stack.items)
    result_clean None = if_some GivesClean None tt
    result_clean (Some kind) =
        if_then GivesClean _ (slice_get a.frame.stack.items 0)
        (λ v e. if_either GivesClean (fits kind v) _ _ (if_some GivesClean (Some v) (all_get (IsClean program) a.frame.stack.items 0 v clean e))
        (if_none GivesClean))

    returns_good : (kind : Option ValueKind) → Makes (returns program shared a kind)
    returns_good kind =
        let own = clean_list program a.frame.lock well.lock in
        let held = all_given_up machine.monitors a.number (option_to_list a.frame.lock) in
        let k = with_held program policy annotations laws shared shared held kept
        (all_given_up_stay program (option_to_list a.frame.lock) machine.monitors a.number own) in
        if_then IsGood _ (result_of kind a.frame.stack.items)
        (λ result e. returned_good program policy annotations laws shared (with_monitors shared held) a.thread a.below result None k
        below (is_there GivesClean _ result (result_clean kind) e) tt)

    -- ---- an instruction that works on its frame alone

    steps_free : is_heap (shape_of next.0) ≡ false → FreeAt program policy annotations a.frame (next_of values_seen next.0 a.frame.at a.frame.stack.items)
    steps_free alone =
        let to : ℕ = next_of values_seen next.0 a.frame.at a.frame.stack.items in
        let has = goes_to_successor values_seen next.0 a.frame.at a.frame.stack.items (insn_is program policy annotations laws a.frame next there) alone in
        elim (Contains-append_cases (cond (goes_on (opcode_of next.0)) ((a.frame.at + 1) ∷ []) []) (jump_targets next.0) to has) [
          | inl on ↦ by (goes_on (opcode_of next.0)) refl to on
          | inr jump ↦ g.jump to jump
        ] where
          by : (b : Bool) → goes_on (opcode_of next.0) ≡ b → (to : ℕ) → Contains (cond b ((a.frame.at + 1) ∷ []) []) to → FreeAt program policy annotations a.frame to
          by true goes to has = subst (FreeAt program policy annotations a.frame) (one_of (a.frame.at + 1) to has) (g.past goes)
          by false goes to has = absurd (none_of to has)

    alone_good : is_heap (shape_of next.0) ≡ false → Makes (acts_on shared a (frame_stepped next.0 a.frame))
    alone_good alone =
        let to : ℕ = next_of values_seen next.0 a.frame.at a.frame.stack.items in
        acts_good shared (frame_stepped next.0 a.frame) kept
        (λ f e. let m = and_then_of (λ (m : Moved Value). fitted a.frame to m.0 m.1) (effect values_moved (shape_of next.0) a.frame.locals a.frame.stack.items) f e in
        let k = effect_keeps values_moved (IsClean program) (clean_kept program) a.frame.locals a.frame.stack.items m.0 well.locals clean (shape_of next.0)
        (names_clean program (shape_of next.0)) m.1 in
        fitted_free program policy annotations a.frame to m.0.0 m.0.1 a.below well (steps_free alone) k.0 k.1 below f m.2)

    -- ---- any instruction that does not push the lock's class

    module _ (alone : variable_named (state_of program policy annotations) next.1 ≡ None) (told : note_of program annotations a.frame ≡ Some notes.Free)
        (unclaused : calls (shape_of next.0) ≡ true → has_clause policy next.1 ≡ false) (apart : pushes_state (shape_of next.0) next.1 ≡ false) where
      call_good : (how : How) → shape_of next.0 ≡ shapes.Heap (heap.Call how) → Makes (heap_stepped program machine a (heap.Call how) next.1)
      call_good how shape =
          let call : calls (shape_of next.0) ≡ true = ap calls shape in
          calls_good program policy annotations laws machine kept a.number a.thread a.frame a.below how (record {
            well = well;
            insn = next.0;
            ref = next.1;
            there = there;
            call = call;
            unclaused = unclaused call;
            free = told;
            clean = clean;
          }) below

      names : (what : Heap) → shape_of next.0 ≡ shapes.Heap what → what ≡ heap.Constant → IfThere (IsClean program) (constant_value program next.1)
      names what shape is =
          let constant : shape_of next.0 ≡ shapes.Heap heap.Constant = shape ∙ ap shapes.Heap is in
          constant_clean program next.1 (sym (ap (λ (s : Shape). pushes_state s next.1) constant) ∙ apart)

      operates_so : (what : Heap) → shape_of next.0 ≡ shapes.Heap what → ends (shapes.Heap what) ≡ false → Makes (operates program shared a what next.1)
      operates_so what shape stays = operates_good (ap ends shape ∙ stays) what (names what shape) alone

      heap_good : (what : Heap) → shape_of next.0 ≡ shapes.Heap what → Makes (heap_stepped program machine a what next.1)
      heap_good (heap.Call how) shape = call_good how shape
      heap_good heap.Throw shape =
          if_then IsGood _ (slice_get a.frame.stack.items 0) (λ v e. throws_top_good v (all_get (IsClean program) a.frame.stack.items 0 v clean e))
      heap_good heap.Enter shape =
          if_then IsGood _ (slice_get a.frame.stack.items 0) (λ v e. enters_good (ap ends shape) v (all_get (IsClean program) a.frame.stack.items 0 v clean e))
      heap_good heap.Exit shape =
          if_then IsGood _ (slice_get a.frame.stack.items 0) (λ v e. leaves_good (ap ends shape) v (all_get (IsClean program) a.frame.stack.items 0 v clean e))
      heap_good (heap.Return kind) shape = returns_good kind
      heap_good heap.Constant shape = operates_so heap.Constant shape refl
      heap_good (heap.ReadItem item) shape = operates_so (heap.ReadItem item) shape refl
      heap_good (heap.WriteItem item) shape = operates_so (heap.WriteItem item) shape refl
      heap_good (heap.Divide remainder) shape = operates_so (heap.Divide remainder) shape refl
      heap_good heap.ReadStatic shape = operates_so heap.ReadStatic shape refl
      heap_good heap.WriteStatic shape = operates_so heap.WriteStatic shape refl
      heap_good heap.ReadField shape = operates_so heap.ReadField shape refl
      heap_good heap.WriteField shape = operates_so heap.WriteField shape refl
      heap_good heap.New shape = operates_so heap.New shape refl
      heap_good (heap.NewArray kind) shape = operates_so (heap.NewArray kind) shape refl
      heap_good heap.NewArrayOf shape = operates_so heap.NewArrayOf shape refl
      heap_good heap.Length shape = operates_so heap.Length shape refl
      heap_good heap.Cast shape = operates_so heap.Cast shape refl
      heap_good heap.IsInstance shape = operates_so heap.IsInstance shape refl

      pub shape_good : (shape : Shape) → shape_of next.0 ≡ shape
          → GoodIf program policy annotations (world_of machine)
          (option_map_or (λ (what : Heap). heap_stepped program machine a what next.1) (heap_in shape) (acts_on (world_of machine) a (frame_stepped next.0 a.frame)))
      shape_good (shapes.Heap what) e = heap_good what e
      shape_good shapes.Nothing e = alone_good (ap is_heap e)
      shape_good (shapes.Push n) e = alone_good (ap is_heap e)
      shape_good shapes.PushNull e = alone_good (ap is_heap e)
      shape_good (shapes.Load kind slot) e = alone_good (ap is_heap e)
      shape_good (shapes.Store kind slot) e = alone_good (ap is_heap e)
      shape_good (shapes.Move form) e = alone_good (ap is_heap e)
      shape_good (shapes.Two op) e = alone_good (ap is_heap e)
      shape_good (shapes.One op) e = alone_good (ap is_heap e)
      shape_good (shapes.Increment slot by) e = alone_good (ap is_heap e)
      shape_good (shapes.Test relation to) e = alone_good (ap is_heap e)
      shape_good (shapes.Compare relation to) e = alone_good (ap is_heap e)
      shape_good (shapes.CompareReferences same to) e = alone_good (ap is_heap e)
      shape_good (shapes.TestNull null to) e = alone_good (ap is_heap e)
      shape_good (shapes.Goto to) e = alone_good (ap is_heap e)
      shape_good shapes.Switch e = alone_good (ap is_heap e)
