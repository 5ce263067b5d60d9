-- The machine makes what an instruction of a block does.
use Rattle.std.proofs.Common.{
  ◌≡◌,
  ℕ,
  zero,
  suc,
  ◌+◌,
  ℤ,
  Bool,
  true,
  false,
  cond,
  List,
  [],
  ◌∷◌,
  length,
  drop,
  Option,
  Some,
  None,
  refl,
  sym,
  ap,
  ◌∙◌,
  subst,
  arith,
}
use Rattle.std.specs.Prelude.{◌==◌, ◌&&◌, if◌then◌else◌, nat_lt, not, option_map, option_and_then, slice_get, slice_set, Ok}
use Rattle.std.specs.Option.{option_map_or}
use Rattle.std.proofs.lemmas.Bool.{and_parts, eqb-true}
use Rattle.bytecode_model.specs.declared.program.Program.{Program}
use Rattle.bytecode_model.specs.declared.program.Target.{Target}
use Rattle.bytecode_model.specs.declared.program.Target.TheVariants as target
use Rattle.class_codec.specs.declared.tree.Const.{Const}
use Rattle.insn_codec.specs.declared.insn.Insn.{Insn}
use Rattle.insn_codec.specs.declared.insn.Insn.TheVariants as insns
use Rattle.insn_codec.specs.declared.shape.Heap.{Heap}
use Rattle.insn_codec.specs.declared.shape.Heap.TheVariants as heap
use Rattle.insn_codec.specs.declared.shape.Relation.TheVariants as relations
use Rattle.insn_codec.specs.declared.shape.Shape.{Shape}
use Rattle.insn_codec.specs.declared.shape.Shape.TheVariants as shapes
use Rattle.insn_codec.specs.declared.opcodes.TheConstants.{
  ATHROW,
  GETSTATIC,
  GOTO,
  IFEQ,
  IFNE,
  IFLT,
  IFGE,
  IFGT,
  IFLE,
  IF_ACMPEQ,
  IF_ACMPNE,
  IF_ICMPEQ,
  IF_ICMPNE,
  IF_ICMPLT,
  IF_ICMPGE,
  IF_ICMPGT,
  IF_ICMPLE,
  IFNULL,
  IFNONNULL,
  INVOKESTATIC,
  LDC_W,
  MONITORENTER,
  MONITOREXIT,
  PUTSTATIC,
}
use Rattle.insn_codec.specs.Control.{goes_to}
use Rattle.insn_codec.specs.Effect.{Moved, effect}
use Rattle.insn_codec.specs.Shapes.{branch_shape, comparing_shape, local_shape, plain_shape, pool_shape, shape_of, test_shape}
use Rattle.offset_patch.specs.declared.block.BlockInsn.{BlockInsn}
use Rattle.offset_patch.specs.declared.block.BlockInsn.TheVariants.{Plain, Byte, Short, Local, Want, Jump, Call}
use Rattle.offset_patch.specs.declared.block.PoolWant.{PoolWant}
use Rattle.offset_patch.specs.declared.block.PoolWant.TheVariants as wants
use Rattle.offset_patch.specs.Entries.{place_in, state_name}
use Rattle.offset_patch.specs.Fits.{IsBlockInsn}
use Rattle.offset_patch.specs.Splicing.{want_named}
use Rattle.guest_heap.specs.Stack.{Operands}
use Rattle.guest_heap.specs.declared.object.Monitor.{Monitor}
use Rattle.guest_heap.specs.declared.value.Value.{Value}
use Rattle.guest_heap.specs.declared.value.Value.TheVariants as values
use Rattle.guest_frames.specs.Stepping.{after, fitted, frame_stepped, moved_to}
use Rattle.guest_frames.specs.Values.{are_one, is_null, values_moved, values_seen}
use Rattle.guest_model.specs.declared.machine.Machine.{Machine}
use Rattle.guest_model.specs.Changes.{Change, World, goes, with_monitors, with_statics, world_of}
use Rattle.guest_model.specs.Monitors.{entered, left}
use Rattle.guest_model.specs.Parts.{constant_value, number_in}
use Rattle.guest_model.specs.Places.{class_index}
use Rattle.guest_model.specs.Stepping.{Acting, acts_on, comes_to, heap_in, heap_stepped, insn_stepped}
use Rattle.block_runs.specs.Spots.{
  Goes,
  Spot,
  Stops,
  Stuck,
  Throws,
  Went,
  block_insn_stepped,
  enters,
  frame_went,
  goes_with,
  leaves,
  plain_went,
  pushes,
  reads_field,
  stopped_by,
  takes_one,
  thrown,
  want_went,
  with_fields,
  with_lock,
  with_top,
  writes_field,
}
use Rattle.block_runs.specs.Steps.{ComesTo, MovesAreMade, StandsAt, StateIndex, held_by, locks_in, others_in, placed_insn}
use Rattle.block_runs.proofs.Monitors.{lock_is, lock_left, lock_taken}
use Rattle.block_runs.proofs.Shapes.{local_stays, plain_stays, stays}

-- ---- what is known where an instruction goes on

pub set_same : {X : Type 0} (xs : List X) (n : ℕ) (x : X) → slice_get xs n ≡ Some x → slice_set xs n x ≡ xs
set_same [] n x there = refl
set_same (y ∷ xs) zero x there =
    let same : x ≡ y = cc in
    ap (λ (z : _). z ∷ xs) same
set_same (y ∷ xs) (suc n) x there = ap (λ (zs : List _). y ∷ zs) (set_same xs n x there)

-- It goes to this place, and to this spot, where the operands fit.
record GoesSo (place to : ℕ) (spot : Spot) (locals items : List Value) (went : Spot) : Type 0 where
  same : place ≡ to
  fits : nat_lt spot.stack.size (length items) ≡ false
  is : record { stack = record { items = items; size = spot.stack.size }; locals = locals; fields = spot.fields; locked = spot.locked }
      ≡ went

goes_so : (place to : ℕ) (spot : Spot) (locals items : List Value) (went : Spot) → goes_with place spot locals items ≡ Goes to went
    → GoesSo place to spot locals items went
goes_so place to spot locals items went e = by (nat_lt spot.stack.size (length items)) refl e
  where
    end : Spot
    end = record { stack = record { items = items; size = spot.stack.size }; locals = locals; fields = spot.fields; locked = spot.locked }

    by : (b : Bool) → nat_lt spot.stack.size (length items) ≡ b → (if b then Stuck else Goes place end) ≡ Goes to went
        → GoesSo place to spot locals items went
    by true is e = absurd cc
    by false is e = record { same = cc; fits = is; is = cc }

-- what stands on top
record HasTop (spot : Spot) (f : Value → Went) (went : Went) : Type 0 where
  value : Value
  there : slice_get spot.stack.items 0 ≡ Some value
  is : f value ≡ went

top_is : (spot : Spot) (f : Value → Went) (to : ℕ) (end : Spot) → with_top spot f ≡ Goes to end → HasTop spot f (Goes to end)
top_is spot f to end e = by (slice_get spot.stack.items 0) refl e
  where
    by : (o : Option Value) → slice_get spot.stack.items 0 ≡ o → option_map_or f o Stuck ≡ Goes to end → HasTop spot f (Goes to end)
    by None is e = absurd cc
    by (Some v) is e = record { value = v; there = is; is = e }

if_goes : (b : Bool) (went : Went) (to : ℕ) (end : Spot) → (if b then went else Stuck) ≡ Goes to end → (b ≡ true) × (went ≡ Goes to end)
if_goes true went to end e = (refl, e)
if_goes false went to end e = absurd cc

-- ---- shapes that work on the frame alone

frame_only : (shape : Shape) (locals items : List Value) (m : Moved Value) → effect values_moved shape locals items ≡ Some m
    → heap_in shape ≡ None
frame_only (shapes.Heap what) locals items m e = absurd cc
frame_only shapes.Nothing locals items m e = refl
frame_only (shapes.Push n) locals items m e = refl
frame_only shapes.PushNull locals items m e = refl
frame_only (shapes.Load kind slot) locals items m e = refl
frame_only (shapes.Store kind slot) locals items m e = refl
frame_only (shapes.Move form) locals items m e = refl
frame_only (shapes.Two op) locals items m e = refl
frame_only (shapes.One op) locals items m e = refl
frame_only (shapes.Increment slot by) locals items m e = refl
frame_only (shapes.Test relation to) locals items m e = refl
frame_only (shapes.Compare relation to) locals items m e = refl
frame_only (shapes.CompareReferences same to) locals items m e = refl
frame_only (shapes.TestNull null to) locals items m e = refl
frame_only (shapes.Goto to) locals items m e = refl
frame_only shapes.Switch locals items m e = refl

-- The one instruction stands in a block, the other in code, where the block begins at a place: they do the same, and go to the same.
record AreAlike (begin : ℕ) (inner outer : Shape) : Type 0 where
  same : (locals items : List Value) → effect values_moved outer locals items ≡ effect values_moved inner locals items
  there : (one other : Insn) (next : ℕ) (items : List Value) → goes_to values_seen other outer (begin + next) items
      ≡ begin + goes_to values_seen one inner next items

by_test : (begin : ℕ) (b : Bool) (to next : ℕ) → cond b (begin + to) (begin + next) ≡ begin + cond b to next
by_test begin true to next = refl
by_test begin false to next = refl

either : (begin : ℕ) (b : Bool) (x y u v : Shape) → AreAlike begin x u → AreAlike begin y v → AreAlike begin (cond b x y) (cond b u v)
either begin true x y u v p q = p
either begin false x y u v p q = q

module _ (begin to : ℕ) where
  no_jump : AreAlike begin shapes.Nothing shapes.Nothing
  no_jump = record { same = λ locals items. refl; there = λ one other next items. refl }

  test : (relation : _) → AreAlike begin (shapes.Test relation to) (shapes.Test relation (begin + to))
  test relation = record { same = λ locals items. refl; there = λ one other next items. by_test begin _ to next }

  compare : (relation : _) → AreAlike begin (shapes.Compare relation to) (shapes.Compare relation (begin + to))
  compare relation = record { same = λ locals items. refl; there = λ one other next items. by_test begin _ to next }

  references : (same : Bool) → AreAlike begin (shapes.CompareReferences same to) (shapes.CompareReferences same (begin + to))
  references same = record { same = λ locals items. refl; there = λ one other next items. by_test begin _ to next }

  null : (so : Bool) → AreAlike begin (shapes.TestNull so to) (shapes.TestNull so (begin + to))
  null so = record { same = λ locals items. refl; there = λ one other next items. by_test begin _ to next }

  jump : AreAlike begin (shapes.Goto to) (shapes.Goto (begin + to))
  jump = record { same = λ locals items. refl; there = λ one other next items. refl }

  tests_alike : (op : ℕ) → AreAlike begin (test_shape op to) (test_shape op (begin + to))
  tests_alike op =
      either begin (op == IFEQ) _ _ _ _ (test relations.Equal)
      (either begin (op == IFNE) _ _ _ _ (test relations.NotEqual)
      (either begin (op == IFLT) _ _ _ _ (test relations.Less)
      (either begin (op == IFGE) _ _ _ _ (test relations.GreaterOrEqual)
      (either begin (op == IFGT) _ _ _ _ (test relations.Greater)
      (either begin (op == IFLE) _ _ _ _ (test relations.LessOrEqual) no_jump)))))

  compares_alike : (op : ℕ) → AreAlike begin (comparing_shape op to) (comparing_shape op (begin + to))
  compares_alike op =
      either begin (op == IF_ICMPEQ) _ _ _ _ (compare relations.Equal)
      (either begin (op == IF_ICMPNE) _ _ _ _ (compare relations.NotEqual)
      (either begin (op == IF_ICMPLT) _ _ _ _ (compare relations.Less)
      (either begin (op == IF_ICMPGE) _ _ _ _ (compare relations.GreaterOrEqual)
      (either begin (op == IF_ICMPGT) _ _ _ _ (compare relations.Greater)
      (either begin (op == IF_ICMPLE) _ _ _ _ (compare relations.LessOrEqual)
      (either begin (op == IF_ACMPEQ) _ _ _ _ (references true)
      (either begin (op == IF_ACMPNE) _ _ _ _ (references false)
      (either begin (op == GOTO) _ _ _ _ jump
      (either begin (op == IFNULL) _ _ _ _ (null true)
      (either begin (op == IFNONNULL) _ _ _ _ (null false) no_jump))))))))))

  branches_alike : (op : ℕ) → AreAlike begin (branch_shape op to) (branch_shape op (begin + to))
  branches_alike op = either begin (nat_lt op IF_ICMPEQ) _ _ _ _ (tests_alike op) (compares_alike op)

-- a shape that does not jump
stays_alike : (begin : ℕ) (shape : Shape) → stays shape ≡ true → AreAlike begin shape shape
stays_alike begin shape so = record {
  same = λ locals items. refl;
  there = λ one other next items. goes_past shape so one other next
      items;
}
  where
    goes_past : (s : Shape) → stays s ≡ true → (one other : Insn) (next : ℕ) (items : List Value)
        → goes_to values_seen other s (begin + next) items ≡ begin + goes_to values_seen one s next items
    goes_past (shapes.Test relation to) so one other next items = absurd cc
    goes_past (shapes.Compare relation to) so one other next items = absurd cc
    goes_past (shapes.CompareReferences same to) so one other next items = absurd cc
    goes_past (shapes.TestNull null to) so one other next items = absurd cc
    goes_past (shapes.Goto to) so one other next items = absurd cc
    goes_past shapes.Switch so one other next items = absurd cc
    goes_past shapes.Nothing so one other next items = refl
    goes_past (shapes.Push n) so one other next items = refl
    goes_past shapes.PushNull so one other next items = refl
    goes_past (shapes.Load kind slot) so one other next items = refl
    goes_past (shapes.Store kind slot) so one other next items = refl
    goes_past (shapes.Move form) so one other next items = refl
    goes_past (shapes.Two op) so one other next items = refl
    goes_past (shapes.One op) so one other next items = refl
    goes_past (shapes.Increment slot by) so one other next items = refl
    goes_past (shapes.Heap what) so one other next items = refl

-- ---- the machine

module _ (program : Program) (state : StateIndex) (begin next : ℕ) (machine : Machine) (a : Acting) (fields : List Value) (locked : Bool)
    (here : a.frame.at + 1 ≡ begin + next) (there : slice_get machine.statics state.class ≡ Some fields)
    (lock : locks_in state.number machine.monitors ≡ held_by state.number a.number locked) where
  abbrev spot : Spot
  spot = record { stack = a.frame.stack; locals = a.frame.locals; fields = fields; locked = locked }

  abbrev Comes : ℕ → Spot → Option Change → Type 0
  Comes place went made = ComesTo state begin place machine a went made

  abbrev onward : World → ℕ → List Value → List Value → Option Change
  onward world to locals items = Some (goes world a.thread (moved_to a.frame to locals items ∷ a.below))

  fits_so : (world : World) (to : ℕ) (locals items : List Value) → nat_lt a.frame.stack.size (length items) ≡ false
      → acts_on world a (fitted a.frame to locals items) ≡ onward world to locals items
  fits_so world to locals items fits = rw fits refl

  -- Nothing that is shared changes.
  alone : (place to : ℕ) (locals items : List Value) (went : Spot) (made : Option Change) → GoesSo place to spot locals items went
      → made ≡ onward (world_of machine) (begin + place) locals items → Comes to went made
  alone place to locals items went made so is =
      subst (λ (s : Spot). Comes to s made) so.is
      (subst (λ (p : ℕ). Comes p (record {
        stack = record { items = items; size = a.frame.stack.size };
        locals = locals;
        fields =
            fields;
        locked = locked;
      }) made) so.same
      (record {
        world = world_of machine;
        is = is;
        size = refl;
        heap = refl;
        statics = sym
            (set_same machine.statics state.class fields there);
        lock = lock;
        others = refl;
      }))

  -- ---- on the frame alone

  frame_comes : (insn : Insn) (ref : Target) (inner : Shape) → AreAlike begin inner (shape_of insn) → (to : ℕ) (went : Spot)
      → frame_went inner next spot ≡ Goes to went
      → Comes to went (insn_stepped program machine a (insn, ref))
  frame_comes insn ref inner alike to went e = by (effect values_moved inner a.frame.locals a.frame.stack.items) refl e
    where
      from : ℕ
      from = goes_to values_seen (insns.GotoW next) inner next a.frame.stack.items

      by : (o : Option (Moved Value)) → effect values_moved inner a.frame.locals a.frame.stack.items ≡ o
          → option_map_or (λ (m : Moved Value). goes_with from spot m.0 m.1) o Stuck ≡ Goes to went
          → Comes to went (insn_stepped program machine a (insn, ref))
      by None is e = absurd cc
      by (Some m) is e =
          let so = goes_so from to spot m.0 m.1 went e in
          let does : effect values_moved (shape_of insn) a.frame.locals a.frame.stack.items
          ≡ Some m = alike.same a.frame.locals a.frame.stack.items ∙ is in
          let only : heap_in (shape_of insn) ≡ None = frame_only (shape_of insn) a.frame.locals a.frame.stack.items m does in
          let place : goes_to values_seen insn (shape_of insn) (a.frame.at + 1) a.frame.stack.items ≡ begin + from =
          ap (λ (n : ℕ). goes_to values_seen insn (shape_of insn) n a.frame.stack.items) here
          ∙ alike.there (insns.GotoW next) insn next a.frame.stack.items in
          let steps : insn_stepped program machine a (insn, ref) ≡ onward (world_of machine) (begin + from) m.0 m.1 =
          ap (λ (o : Option Heap). option_map_or (λ what. heap_stepped program machine a what ref) o (acts_on (world_of machine) a
          (frame_stepped insn a.frame))) only
          ∙ ap (λ (o : Option (Moved Value)). acts_on (world_of machine) a
          (option_and_then (λ (n : Moved Value). fitted a.frame (goes_to values_seen insn (shape_of insn)
          (a.frame.at + 1) a.frame.stack.items) n.0 n.1) o)) does
          ∙ ap (λ (n : ℕ). acts_on (world_of machine) a (fitted a.frame n m.0 m.1)) place
          ∙ fits_so (world_of machine) (begin + from) m.0 m.1 so.fits in
          alone from to m.0 m.1 went (insn_stepped program machine a (insn, ref)) so steps

  -- ---- constants, and the fields

  after_so : (world : World) (items : List Value) → nat_lt a.frame.stack.size (length items) ≡ false
      → acts_on world a (after a.frame items) ≡ onward world (begin + next) a.frame.locals items
  after_so world items fits = fits_so world (a.frame.at + 1) a.frame.locals items fits
      ∙ ap (λ (n : ℕ). onward world n a.frame.locals items) here

  pushed : (insn : Insn) (ref : Target) (v : Value) → shape_of insn ≡ shapes.Heap heap.Constant → constant_value program ref ≡ Some v
      → (to : ℕ) (went : Spot) → pushes next spot v ≡ Goes to went → Comes to went (insn_stepped program machine a (insn, ref))
  pushed insn ref v shape names to went e =
      let so = goes_so next to spot a.frame.locals (v ∷ a.frame.stack.items) went e in
      let steps : insn_stepped program machine a (insn, ref) ≡ onward (world_of machine) (begin + next) a.frame.locals
      (v ∷ a.frame.stack.items) =
      ap (λ (s : Shape). option_map_or (λ what. heap_stepped program machine a what ref) (heap_in s) (acts_on (world_of machine) a
      (frame_stepped insn a.frame))) shape
      ∙ ap (λ (o : Option Value). option_and_then (comes_to program (world_of machine) a) (option_map (λ (w : Value). Ok
      (world_of machine, w ∷ a.frame.stack.items)) o)) names
      ∙ after_so (world_of machine) (v ∷ a.frame.stack.items) so.fits in
      alone next to a.frame.locals (v ∷ a.frame.stack.items) went (insn_stepped program machine a (insn, ref)) so steps

  read : (insn : Insn) (var : ℕ) → shape_of insn ≡ shapes.Heap heap.ReadStatic → (to : ℕ) (went : Spot) → reads_field next spot var
      ≡ Goes to went
      → Comes to went (insn_stepped program machine a (insn, target.Field state.class var))
  read insn var shape to went e = by (slice_get fields var) refl e
    where
      ref : Target
      ref = target.Field state.class var

      by : (o : Option Value) → slice_get fields var ≡ o → option_map_or (pushes next spot) o Stuck ≡ Goes to went
          → Comes to went (insn_stepped program machine a (insn, target.Field state.class var))
      by None is e = absurd cc
      by (Some v) is e =
          let so = goes_so next to spot a.frame.locals (v ∷ a.frame.stack.items) went e in
          let steps : insn_stepped program machine a (insn, target.Field state.class var)
          ≡ onward (world_of machine) (begin + next) a.frame.locals (v ∷ a.frame.stack.items) =
          ap (λ (s : Shape). option_map_or (λ what. heap_stepped program machine a what (target.Field state.class var)) (heap_in s)
          (acts_on (world_of machine) a (frame_stepped insn a.frame))) shape
          ∙ ap (λ (o : Option (List Value)). option_and_then (comes_to program (world_of machine) a)
          (option_map (λ (w : Value). Ok (world_of machine, w ∷ a.frame.stack.items)) (option_and_then (λ
          (list : List Value). slice_get list var) o))) there
          ∙ ap (λ (o : Option Value). option_and_then (comes_to program (world_of machine) a) (option_map (λ (w : Value). Ok
          (world_of machine, w ∷ a.frame.stack.items)) o)) is
          ∙ after_so (world_of machine) (v ∷ a.frame.stack.items) so.fits in
          alone next to a.frame.locals (v ∷ a.frame.stack.items) went (insn_stepped program machine a
          (insn, target.Field state.class var)) so steps

  written : (insn : Insn) (var : ℕ) → shape_of insn ≡ shapes.Heap heap.WriteStatic → (to : ℕ) (went : Spot)
      → with_top spot (writes_field next spot var) ≡ Goes to went
      → Comes to went (insn_stepped program machine a (insn, target.Field state.class var))
  written insn var shape to went e =
      let top = top_is spot (writes_field next spot var) to went e in
      by top.value top.there (slice_get fields var) refl top.is
    where
      by : (v : Value) → slice_get a.frame.stack.items 0 ≡ Some v → (o : Option Value) → slice_get fields var ≡ o
          → option_map_or (λ (old : Value). takes_one next (with_fields spot (slice_set fields var v))) o Stuck ≡ Goes to went
          → Comes to went (insn_stepped program machine a (insn, target.Field state.class var))
      by v top None is e = absurd cc
      by v top (Some old) is e =
          let new : List Value = slice_set fields var v in
          let left : List Value = drop 1 a.frame.stack.items in
          let world : World = with_statics (world_of machine) (slice_set machine.statics state.class new) in
          let so = goes_so next to (with_fields spot new) a.frame.locals left went e in
          let made : heap_stepped program machine a heap.WriteStatic (target.Field state.class var)
          ≡ onward world (a.frame.at + 1) a.frame.locals left =
          rw (top, there, is, so.fits) refl in
          let steps : insn_stepped program machine a (insn, target.Field state.class var)
          ≡ onward world (begin + next) a.frame.locals left =
          ap (λ (s : Shape). option_map_or (λ what. heap_stepped program machine a what (target.Field state.class var)) (heap_in s)
          (acts_on (world_of machine) a (frame_stepped insn a.frame))) shape
          ∙ made ∙ ap (λ (n : ℕ). onward world n a.frame.locals left) here in
          subst (λ (s : Spot). Comes to s (insn_stepped program machine a (insn, target.Field state.class var))) so.is
          (subst (λ (p : ℕ). Comes p (record {
            stack = record { items = left; size = a.frame.stack.size };
            locals = a.frame.locals;
            fields = new;
            locked = locked;
          })
          (insn_stepped program machine a (insn, target.Field state.class var))) so.same
          (record { world = world; is = steps; size = refl; heap = refl; statics = refl; lock = lock; others = refl }))

  -- ---- the lock

  lock_comes : (held : Bool) (insn : Insn) (what : Heap) (to : ℕ) (went : Spot) (monitors : List Monitor) → shape_of insn
      ≡ shapes.Heap what
      → locks_in state.number monitors ≡ held_by state.number a.number held → others_in state.number monitors
      ≡ others_in state.number machine.monitors
      → takes_one next (with_lock spot held) ≡ Goes to went
      → (nat_lt a.frame.stack.size (length (drop 1 a.frame.stack.items)) ≡ false → heap_stepped program machine a what target.None
      ≡ onward (with_monitors (world_of machine) monitors) (a.frame.at + 1) a.frame.locals (drop 1 a.frame.stack.items))
      → Comes to went (insn_stepped program machine a (insn, target.None))
  lock_comes held insn what to went monitors shape now_held others e made =
      let left_items : List Value = drop 1 a.frame.stack.items in
      let world : World = with_monitors (world_of machine) monitors in
      let so = goes_so next to (with_lock spot held) a.frame.locals left_items went e in
      let steps : insn_stepped program machine a (insn, target.None) ≡ onward world (begin + next) a.frame.locals left_items =
      ap (λ (s : Shape). option_map_or (λ w. heap_stepped program machine a w target.None) (heap_in s) (acts_on (world_of machine) a
      (frame_stepped insn a.frame))) shape
      ∙ made so.fits ∙ ap (λ (n : ℕ). onward world n a.frame.locals left_items) here in
      subst (λ (s : Spot). Comes to s (insn_stepped program machine a (insn, target.None))) so.is
      (subst (λ (p : ℕ). Comes p (record {
        stack = record { items = left_items; size = a.frame.stack.size };
        locals = a.frame.locals;
        fields = fields;
        locked = held;
      })
      (insn_stepped program machine a (insn, target.None))) so.same
      (record {
        world = world;
        is = steps;
        size = refl;
        heap = refl;
        statics = sym
            (set_same machine.statics state.class fields there);
        lock = now_held;
        others = others;
      }))

  -- the lock on top, and whether it is held
  lock_on_top : (b : Bool) (v : Value) → are_one v (values.Class state.number) && b ≡ true → (v ≡ values.Class state.number) × (b ≡ true)
  lock_on_top b v e =
      let p = and_parts (are_one v (values.Class state.number)) b e in
      (lock_is state.number v p.0, p.1)

  not_held : (b : Bool) → not b ≡ true → b ≡ false
  not_held true e = absurd cc
  not_held false e = refl

  -- what the machine does with the lock on top
  abbrev lock_moves : Heap → List Monitor → Type 0
  lock_moves what monitors =
      slice_get a.frame.stack.items 0 ≡ Some (values.Class state.number)
      → nat_lt a.frame.stack.size (length (drop 1 a.frame.stack.items)) ≡ false
      → heap_stepped program machine a what target.None ≡ onward (with_monitors (world_of machine) monitors)
      (a.frame.at + 1) a.frame.locals (drop 1 a.frame.stack.items)

  enter_moves : (monitors : List Monitor) → entered machine.monitors a.number (values.Class state.number) ≡ Some monitors
      → lock_moves heap.Enter monitors
  enter_moves monitors is top fits = rw (top, is, fits) refl

  exit_moves : (monitors : List Monitor) → left machine.monitors a.number (values.Class state.number) ≡ Some monitors
      → lock_moves heap.Exit monitors
  exit_moves monitors is top fits = rw (top, is, fits) refl

  takes_lock : (insn : Insn) → shape_of insn ≡ shapes.Heap heap.Enter → (to : ℕ) (went : Spot)
      → with_top spot (enters state.number next spot) ≡ Goes to went
      → Comes to went (insn_stepped program machine a (insn, target.None))
  takes_lock insn shape to went e =
      let top = top_is spot (enters state.number next spot) to went e in
      let goes_on = if_goes (are_one top.value (values.Class state.number) && not locked) (takes_one next
      (with_lock spot true)) to went top.is in
      let is = lock_on_top (not locked) top.value goes_on.0 in
      let on_top : slice_get a.frame.stack.items 0 ≡ Some (values.Class state.number) = top.there ∙ ap Some is.0 in
      let free : locks_in state.number machine.monitors ≡ [] = lock ∙ ap (held_by state.number a.number) (not_held locked is.1) in
      let taken = lock_taken state.number a.number machine.monitors free in
      lock_comes true insn heap.Enter to went taken.new shape taken.lock_held taken.others goes_on.1
      (enter_moves taken.new taken.is on_top)

  leaves_lock : (insn : Insn) → shape_of insn ≡ shapes.Heap heap.Exit → (to : ℕ) (went : Spot)
      → with_top spot (leaves state.number next spot) ≡ Goes to went
      → Comes to went (insn_stepped program machine a (insn, target.None))
  leaves_lock insn shape to went e =
      let top = top_is spot (leaves state.number next spot) to went e in
      let goes_on = if_goes (are_one top.value (values.Class state.number) && locked) (takes_one next
      (with_lock spot false)) to went top.is in
      let is = lock_on_top locked top.value goes_on.0 in
      let on_top : slice_get a.frame.stack.items 0 ≡ Some (values.Class state.number) = top.there ∙ ap Some is.0 in
      let held : locks_in state.number machine.monitors ≡ held_by state.number a.number true = lock
      ∙ ap (held_by state.number a.number) is.1 in
      let free = lock_left state.number a.number machine.monitors held in
      lock_comes false insn heap.Exit to went free.new shape free.lock_held free.others goes_on.1 (exit_moves free.new free.is on_top)

  -- ---- an opcode alone

  no_throw : (to : ℕ) (went : Spot) → with_top spot thrown ≡ Goes to went → ⊥
  no_throw to went e =
      let top = top_is spot thrown to went e in
      by (is_null top.value) top.value top.is
    where
      by : (b : Bool) (v : Value) → (if b then Stuck else Throws v) ≡ Goes to went → ⊥
      by true v e = cc
      by false v e = cc

  plain_comes : (op : ℕ) → stays (plain_shape op) ≡ true → (to : ℕ) (went : Spot) → plain_went state.number next spot op ≡ Goes to went
      → Comes to went (insn_stepped program machine a (insns.Plain op, target.None))
  plain_comes op still to went e = first (op == MONITORENTER) refl e
    where
      -- the others, one by one
      third : (b : Bool) → (op == ATHROW) ≡ b → (if b then with_top spot thrown else frame_went (plain_shape op) next spot) ≡ Goes to went
          → Comes to went (insn_stepped program machine a (insns.Plain op, target.None))
      third true is e = absurd (no_throw to went e)
      third false is e = frame_comes (insns.Plain op) target.None (plain_shape op) (stays_alike begin (plain_shape op) still) to went e

      second : (b : Bool) → (op == MONITOREXIT) ≡ b
          → (if b then with_top spot (leaves state.number next spot) else if op == ATHROW then with_top spot thrown else frame_went
          (plain_shape op) next spot) ≡ Goes to went
          → Comes to went (insn_stepped program machine a (insns.Plain op, target.None))
      second true is e =
          let same : op ≡ MONITOREXIT = eqb-true op MONITOREXIT is in
          leaves_lock (insns.Plain op) (ap plain_shape same) to went e
      second false is e = third (op == ATHROW) refl e

      first : (b : Bool) → (op == MONITORENTER) ≡ b
          → (if b then with_top spot (enters state.number next spot)
          else if op == MONITOREXIT then with_top spot (leaves state.number next spot)
          else if op == ATHROW then with_top spot thrown
          else frame_went (plain_shape op) next spot) ≡ Goes to went
          → Comes to went (insn_stepped program machine a (insns.Plain op, target.None))
      first true is e =
          let same : op ≡ MONITORENTER = eqb-true op MONITORENTER is in
          takes_lock (insns.Plain op) (ap plain_shape same) to went e
      first false is e = second (op == MONITOREXIT) refl e

  -- ---- what blocks name

  no_exit : (to : ℕ) (went : Spot) → with_top spot stopped_by ≡ Goes to went → ⊥
  no_exit to went e =
      let top = top_is spot stopped_by to went e in
      by (number_in top.value) top.is
    where
      by : (o : Option ℤ) → option_map_or Stops o Stuck ≡ Goes to went → ⊥
      by None e = cc
      by (Some n) e = cc

  want_comes : (pool : List Const) (op : ℕ) (want : PoolWant) → class_index program state_name ≡ Some state.number
      → (to : ℕ) (went : Spot)
      → want_went state.number next spot op want ≡ Goes to went
      → Comes to went (insn_stepped program machine a (insns.Pool op (place_in pool want), want_named state.class want))
  want_comes pool op wants.StateClass known to went e =
      let is = if_goes (op == LDC_W) (pushes next spot (values.Class state.number)) to went e in
      pushed (insns.Pool op (place_in pool wants.StateClass)) (target.ClassName state_name) (values.Class state.number) (ap pool_shape
      (eqb-true op LDC_W is.0))
      (ap (option_map values.Class) known) to went is.1
  want_comes pool op (wants.Integer n) known to went e =
      let is = if_goes (op == LDC_W) (pushes next spot (values.Int n)) to went e in
      pushed (insns.Pool op (place_in pool (wants.Integer n))) (target.Number n) (values.Int n) (ap pool_shape
      (eqb-true op LDC_W is.0)) refl to went is.1
  want_comes pool op (wants.StateField var is_bool) known to went e = by (op == GETSTATIC) refl e
    where
      insn : Insn
      insn = insns.Pool op (place_in pool (wants.StateField var is_bool))

      by : (b : Bool) → (op == GETSTATIC) ≡ b
          → (if b then reads_field next spot var else if op == PUTSTATIC then with_top spot (writes_field next spot var) else Stuck)
          ≡ Goes to went
          → Comes to went (insn_stepped program machine a (insn, target.Field state.class var))
      by true is e = read insn var (ap pool_shape (eqb-true op GETSTATIC is)) to went e
      by false is e =
          let p = if_goes (op == PUTSTATIC) (with_top spot (writes_field next spot var)) to went e in
          written insn var (ap pool_shape (eqb-true op PUTSTATIC p.0)) to went p.1
  want_comes pool op wants.Exit known to went e =
      let p = if_goes (op == INVOKESTATIC) (with_top spot stopped_by) to went e in
      absurd (no_exit to went p.1)

  -- ---- each

  insn_comes : (pool : List Const) (fronts : List ℕ) (own : Insn) (ref : Target) (insn : BlockInsn) → IsBlockInsn insn
      → class_index program state_name ≡ Some state.number
      → (to : ℕ) (went : Spot) → block_insn_stepped state.number next spot insn ≡ Goes to went
      → Comes to went (insn_stepped program machine a (placed_insn pool fronts begin own state ref insn))
  insn_comes pool fronts own ref (Plain op) is known to went e = plain_comes op (plain_stays op is.0) to went e
  insn_comes pool fronts own ref (Byte n) is known to went e =
      frame_comes (insns.Byte n) target.None (shapes.Push n) (stays_alike begin (shapes.Push n) refl) to went e
  insn_comes pool fronts own ref (Short n) is known to went e =
      frame_comes (insns.Short n) target.None (shapes.Push n) (stays_alike begin (shapes.Push n) refl) to went e
  insn_comes pool fronts own ref (Local op slot wide) is known to went e =
      frame_comes (insns.Local op slot wide) target.None (local_shape op slot) (stays_alike begin (local_shape op slot)
      (local_stays op slot)) to went e
  insn_comes pool fronts own ref (Want op want) is known to went e = want_comes pool op want known to went e
  insn_comes pool fronts own ref (Jump op place) is known to went e =
      frame_comes (insns.Branch op (begin + place)) target.None (branch_shape op place) (branches_alike begin place op) to went e
  insn_comes pool fronts own ref Call is known to went e = absurd cc

spot_from : (state : StateIndex) (begin at : ℕ) (machine : Machine) (a : Acting) (s : Spot) → StandsAt state begin at machine a s
    → record { stack = a.frame.stack; locals = a.frame.locals; fields = s.fields; locked = s.locked } ≡ s
spot_from state begin at machine a s stands =
    ap (λ (o : Operands). record { stack = o; locals = a.frame.locals; fields = s.fields; locked = s.locked }) stands.stack
    ∙ ap (λ (l : List Value). record { stack = s.stack; locals = l; fields = s.fields; locked = s.locked }) stands.locals

pub moves_are_made : MovesAreMade
moves_are_made program state known pool fronts begin at own ref insn is machine a s stands place went e =
    let here : a.frame.at + 1 ≡ begin + (at + 1) = omega (arith, stands.place) in
    let so : Spot = record { stack = a.frame.stack; locals = a.frame.locals; fields = s.fields; locked = s.locked } in
    let from : block_insn_stepped state.number (at + 1) so insn ≡ Goes place went =
    ap (λ (x : Spot). block_insn_stepped state.number (at + 1) x insn) (spot_from state begin at machine a s stands) ∙ e in
    insn_comes program state begin (at + 1) machine a s.fields s.locked here stands.fields stands.lock pool fronts own ref insn is
    known place went from
