-- What the instructions of blocks do to the frame that they stand in, and to what is shared.
use Rattle.std.proofs.Common.{◌≡◌, ℕ, ◌<◌, ◌+◌, ℤ, true, false, cond, List, ◌∷◌, length, drop, Option, Some, None, Ok, refl, sym, ap, ◌∙◌, subst, ltb-true}
use Rattle.std.specs.Prelude.{nat_lt, option_and_then, option_map, slice_get, slice_set}
use Rattle.std.specs.Option.{option_map_or}
use Rattle.std.specs.Int.{w32, int_wrapping_add}
use Rattle.std.proofs.lemmas.Option.{cond_some}
use Rattle.insn_codec.specs.declared.insn.Insn.{Insn}
use Rattle.insn_codec.specs.declared.shape.Heap.{Heap}
use Rattle.insn_codec.specs.declared.shape.Heap.TheVariants as heap
use Rattle.insn_codec.specs.declared.shape.ValueKind.{ValueKind}
use Rattle.insn_codec.specs.declared.shape.ValueKind.TheVariants as kinds
use Rattle.insn_codec.specs.declared.shape.Relation.{Relation}
use Rattle.insn_codec.specs.declared.shape.Two.TheVariants as two
use Rattle.insn_codec.specs.declared.shape.Shape.{Shape}
use Rattle.insn_codec.specs.declared.shape.Shape.TheVariants as shapes
use Rattle.insn_codec.specs.Control.{goes_to, relates}
use Rattle.insn_codec.specs.Effect.{Moved, effect, of_kind, operand, with_local, without_two}
use Rattle.insn_codec.specs.Shapes.{shape_of}
use Rattle.bytecode_model.specs.declared.program.Program.{Program}
use Rattle.bytecode_model.specs.declared.program.Target.{Target}
use Rattle.bytecode_model.specs.declared.program.Target.TheVariants as target
use Rattle.guest_heap.specs.declared.frame.Frame.{Frame}
use Rattle.guest_heap.specs.declared.object.Monitor.{Monitor}
use Rattle.guest_heap.specs.declared.value.Value.{Value}
use Rattle.guest_heap.specs.declared.value.Value.TheVariants as values
use Rattle.guest_frames.specs.Stepping.{after, fitted, frame_stepped, moved_to}
use Rattle.guest_frames.specs.Values.{fits, is_null, number_of, values_moved, values_seen}
use Rattle.guest_model.specs.declared.machine.Machine.{Machine}
use Rattle.guest_model.specs.Changes.{Change, World, goes, with_monitors, with_statics, world_of}
use Rattle.guest_model.specs.Monitors.{entered, left}
use Rattle.guest_model.specs.Parts.{constant_value}
use Rattle.guest_model.specs.Stepping.{Acting, acts_on, comes_to, enters, heap_in, heap_stepped, insn_stepped, leaves}
use Rattle.guest_model.specs.HeapOperations.{heap_result}
use Rattle.guest_model.proofs.Options.{and_then_of, map_of, some_is, unless_of}

-- an operand of a kind
pub record IsOperand (kind : ValueKind) (items : List Value) (i : ℕ) (v : Value) : Type 0 where
  pub there : slice_get items i ≡ Some v
  pub fit : fits kind v ≡ true

operand_is : (kind : ValueKind) (items : List Value) (i : ℕ) (v : Value) → operand values_moved kind i items ≡ Some v → IsOperand kind items i v
operand_is kind items i v e =
    let o = and_then_of (of_kind values_moved kind) (slice_get items i) v e in
    let c = cond_some (fits kind o.0) o.0 v o.2 in
    record { there = o.1 ∙ ap Some c.1; fit = subst (λ (x : Value). fits kind x ≡ true) c.1 c.0 }

-- where a comparison of the two topmost operands goes
pub compared_to : (insn : Insn) (relation : Relation) (to next : ℕ) (items : List Value) (y x : Value) → slice_get items 0 ≡ Some y → slice_get items 1 ≡ Some x
    → goes_to values_seen insn (shapes.Compare relation to) next items ≡ cond (relates relation (number_of x) (number_of y)) to next
compared_to insn relation to next items y x first second = rw (first, second) refl

module _ (program : Program) (machine : Machine) (a : Acting) (change : Change) where
  -- The thread goes on, its frame with these locals and operands at the instruction of this index.
  pub record Goes (world : World) (to : ℕ) (locals items : List Value) : Type 0 where
    pub is : change ≡ goes world a.thread (moved_to a.frame to locals items ∷ a.below)

  abbrev pub Following : World → List Value → List Value → Type 0
  Following world locals items = Goes world (a.frame.at + 1) locals items

  fitted_goes : (world : World) (to : ℕ) (locals items : List Value) → acts_on world a (fitted a.frame to locals items) ≡ Some change → Goes world to locals items
  fitted_goes world to locals items e =
      let onward = λ (f : Frame). goes world a.thread (f ∷ a.below) in
      let m = map_of onward (fitted a.frame to locals items) change e in
      let f : moved_to a.frame to locals items ≡ m.0 = unless_of (nat_lt a.frame.stack.size (length items)) _ _ m.1 in
      record { is = sym (ap onward f ∙ m.2) }

  module _ (next : Insn × Target) (step : insn_stepped program machine a next ≡ Some change) where
    -- ---- instructions that work on their frame alone

    alone : (shape : Shape) → shape_of next.0 ≡ shape → heap_in shape ≡ None
        → (m : Moved Value) × (effect values_moved shape a.frame.locals a.frame.stack.items ≡ Some m)
        × Goes (world_of machine) (goes_to values_seen next.0 shape (a.frame.at + 1) a.frame.stack.items) m.0 m.1
    alone shape is frame =
        let on_frame : acts_on (world_of machine) a (frame_stepped next.0 a.frame) ≡ Some change =
        subst (λ (o : Option Heap). option_map_or (λ what. heap_stepped program machine a what next.1) o (acts_on (world_of machine) a (frame_stepped next.0 a.frame)) ≡ Some change)
        (ap heap_in is ∙ frame) step in
        let onward = λ (m : Moved Value). fitted a.frame (goes_to values_seen next.0 shape (a.frame.at + 1) a.frame.stack.items) m.0 m.1 in
        let by_shape : acts_on (world_of machine) a (option_and_then onward (effect values_moved shape a.frame.locals a.frame.stack.items)) ≡ Some change =
        subst (λ (s : Shape). acts_on (world_of machine) a (option_and_then (λ (m : Moved Value). fitted a.frame (goes_to values_seen next.0 s (a.frame.at + 1) a.frame.stack.items) m.0 m.1) (effect values_moved s a.frame.locals a.frame.stack.items)) ≡ Some change)
        is on_frame in
        by (effect values_moved shape a.frame.locals a.frame.stack.items) refl by_shape where
          by : (o : Option (Moved Value)) → effect values_moved shape a.frame.locals a.frame.stack.items ≡ o
              → acts_on (world_of machine) a (option_and_then (λ (m : Moved Value). fitted a.frame (goes_to values_seen next.0 shape (a.frame.at + 1) a.frame.stack.items) m.0 m.1) o) ≡ Some change
              → (m : Moved Value) × (effect values_moved shape a.frame.locals a.frame.stack.items ≡ Some m)
              × Goes (world_of machine) (goes_to values_seen next.0 shape (a.frame.at + 1) a.frame.stack.items) m.0 m.1
          by None is e = absurd cc
          by (Some m) is e = (m, is, fitted_goes (world_of machine) _ m.0 m.1 e)

    -- where it is known what such an instruction leaves
    left_alone : (shape : Shape) (m n : Moved Value) (to : ℕ) → effect values_moved shape a.frame.locals a.frame.stack.items ≡ Some m
        → effect values_moved shape a.frame.locals a.frame.stack.items ≡ Some n → Goes (world_of machine) to m.0 m.1 → Goes (world_of machine) to n.0 n.1
    left_alone shape m n to is also g =
        let same : m ≡ n = some_is m n (sym is ∙ also) in
        subst (λ (p : Moved Value). Goes (world_of machine) to p.0 p.1) same g

    pub pushes_number : (n : ℤ) → shape_of next.0 ≡ shapes.Push n → Following (world_of machine) a.frame.locals (values.Int n ∷ a.frame.stack.items)
    pushes_number n is =
        let m = alone (shapes.Push n) is refl in
        left_alone (shapes.Push n) m.0 (a.frame.locals, values.Int n ∷ a.frame.stack.items) (a.frame.at + 1) m.1 refl m.2

    pub loads : (kind : ValueKind) (slot : ℕ) → shape_of next.0 ≡ shapes.Load kind slot
        → (v : Value) × IsOperand kind a.frame.locals slot v × Following (world_of machine) a.frame.locals (v ∷ a.frame.stack.items)
    loads kind slot is =
        let m = alone (shapes.Load kind slot) is refl in
        let l = map_of (λ (v : Value). (a.frame.locals, v ∷ a.frame.stack.items)) (operand values_moved kind slot a.frame.locals) m.0 m.1 in
        (l.0, operand_is kind a.frame.locals slot l.0 l.1, subst (λ (p : Moved Value). Following (world_of machine) p.0 p.1) (sym l.2) m.2)

    pub stores : (kind : ValueKind) (slot : ℕ) → shape_of next.0 ≡ shapes.Store kind slot
        → (v : Value) × (slice_get a.frame.stack.items 0 ≡ Some v) × (slot < length a.frame.locals)
        × Following (world_of machine) (slice_set a.frame.locals slot v) (drop 1 a.frame.stack.items)
    stores kind slot is =
        let m = alone (shapes.Store kind slot) is refl in
        let rest = drop 1 a.frame.stack.items in
        let v = and_then_of (λ (v : Value). option_map (λ (set : List Value). (set, rest)) (with_local slot v a.frame.locals)) (operand values_moved kind 0 a.frame.stack.items) m.0 m.1 in
        let s = map_of (λ (set : List Value). (set, rest)) (with_local slot v.0 a.frame.locals) m.0 v.2 in
        let c = cond_some (nat_lt slot (length a.frame.locals)) (slice_set a.frame.locals slot v.0) s.0 s.1 in
        let left : m.0 ≡ (slice_set a.frame.locals slot v.0, rest) = sym s.2 ∙ ap (λ (set : List Value). (set, rest)) (sym c.1) in
        (v.0, (operand_is kind a.frame.stack.items 0 v.0 v.1).there, ltb-true slot (length a.frame.locals) c.0, subst (λ (p : Moved Value). Following (world_of machine) p.0 p.1) left m.2)

    pub adds : shape_of next.0 ≡ shapes.Two two.Add
        → (y x : Value) × IsOperand kinds.Int a.frame.stack.items 0 y × IsOperand kinds.Int a.frame.stack.items 1 x
        × Following (world_of machine) a.frame.locals (values.Int (int_wrapping_add w32 (number_of x) (number_of y)) ∷ drop 2 a.frame.stack.items)
    adds is =
        let m = alone (shapes.Two two.Add) is refl in
        let items = a.frame.stack.items in
        let made : Value → Value → Moved Value = λ y x. (a.frame.locals, values.Int (int_wrapping_add w32 (number_of x) (number_of y)) ∷ drop 2 items) in
        let y = and_then_of (λ (y : Value). option_map (made y) (operand values_moved kinds.Int 1 items)) (operand values_moved kinds.Int 0 items) m.0 m.1 in
        let x = map_of (made y.0) (operand values_moved kinds.Int 1 items) m.0 y.2 in
        (y.0, x.0, operand_is kinds.Int items 0 y.0 y.1, operand_is kinds.Int items 1 x.0 x.1, subst (λ (p : Moved Value). Following (world_of machine) p.0 p.1) (sym x.2) m.2)

    pub jumps : (to : ℕ) → shape_of next.0 ≡ shapes.Goto to → Goes (world_of machine) to a.frame.locals a.frame.stack.items
    jumps to is =
        let m = alone (shapes.Goto to) is refl in
        left_alone (shapes.Goto to) m.0 (a.frame.locals, a.frame.stack.items) to m.1 refl m.2

    pub compares : (relation : Relation) (to : ℕ) → shape_of next.0 ≡ shapes.Compare relation to
        → (y x : Value) × IsOperand kinds.Int a.frame.stack.items 0 y × IsOperand kinds.Int a.frame.stack.items 1 x
        × Goes (world_of machine) (cond (relates relation (number_of x) (number_of y)) to (a.frame.at + 1)) a.frame.locals (drop 2 a.frame.stack.items)
    compares relation to is =
        let m = alone (shapes.Compare relation to) is refl in
        let items = a.frame.stack.items in
        let l = map_of (λ (left : List Value). (a.frame.locals, left)) (without_two values_moved kinds.Int items) m.0 m.1 in
        let y = and_then_of (λ (v : Value). option_map (λ (w : Value). drop 2 items) (operand values_moved kinds.Int 1 items)) (operand values_moved kinds.Int 0 items) l.0 l.1 in
        let x = map_of (λ (w : Value). drop 2 items) (operand values_moved kinds.Int 1 items) l.0 y.2 in
        let first = operand_is kinds.Int items 0 y.0 y.1 in
        let second = operand_is kinds.Int items 1 x.0 x.1 in
        let left : m.0 ≡ (a.frame.locals, drop 2 items) = sym l.2 ∙ ap (λ (left : List Value). (a.frame.locals, left)) (sym x.2) in
        let goes = compared_to next.0 relation to (a.frame.at + 1) items y.0 x.0 first.there second.there in (
          y.0,
          x.0,
          first,
          second,
          subst (λ (p : Moved Value). Goes (world_of machine) (cond (relates relation (number_of x.0) (number_of y.0)) to (a.frame.at + 1)) p.0 p.1) left
              (subst (λ (at : ℕ). Goes (world_of machine) at m.0.0 m.0.1) goes m.2),
        )

    -- ---- instructions that work on more

    pub on_heap : (what : Heap) → shape_of next.0 ≡ shapes.Heap what → heap_stepped program machine a what next.1 ≡ Some change
    on_heap what is = rw is at step

    pub pushes_constant : shape_of next.0 ≡ shapes.Heap heap.Constant
        → (v : Value) × (constant_value program next.1 ≡ Some v) × Following (world_of machine) a.frame.locals (v ∷ a.frame.stack.items)
    pushes_constant is = by (constant_value program next.1) refl (on_heap heap.Constant is) where
      by : (o : Option Value) → constant_value program next.1 ≡ o
          → option_and_then (comes_to program (world_of machine) a) (option_map (λ (v : Value). Ok (world_of machine, v ∷ a.frame.stack.items)) o) ≡ Some change
          → (v : Value) × (constant_value program next.1 ≡ Some v) × Following (world_of machine) a.frame.locals (v ∷ a.frame.stack.items)
      by None is e = absurd cc
      by (Some v) is e = (v, is, fitted_goes (world_of machine) (a.frame.at + 1) a.frame.locals (v ∷ a.frame.stack.items) e)

    pub reads_variable : (class field : ℕ) (fields : List Value) → shape_of next.0 ≡ shapes.Heap heap.ReadStatic → next.1 ≡ target.Field class field
        → slice_get machine.statics class ≡ Some fields
        → (v : Value) × (slice_get fields field ≡ Some v) × Following (world_of machine) a.frame.locals (v ∷ a.frame.stack.items)
    reads_variable class field fields is names there =
        let e = on_heap heap.ReadStatic is in
        let named : option_and_then (comes_to program (world_of machine) a) (heap_result program (world_of machine) heap.ReadStatic (target.Field class field) a.frame.stack.items) ≡ Some change =
        rw names at e in
        let read : option_and_then (comes_to program (world_of machine) a) (option_map (λ (v : Value). Ok (world_of machine, v ∷ a.frame.stack.items)) (slice_get fields field)) ≡ Some change =
        rw there at named in
        by (slice_get fields field) refl read where
          by : (o : Option Value) → slice_get fields field ≡ o
              → option_and_then (comes_to program (world_of machine) a) (option_map (λ (v : Value). Ok (world_of machine, v ∷ a.frame.stack.items)) o) ≡ Some change
              → (v : Value) × (slice_get fields field ≡ Some v) × Following (world_of machine) a.frame.locals (v ∷ a.frame.stack.items)
          by None is e = absurd cc
          by (Some v) is e = (v, is, fitted_goes (world_of machine) (a.frame.at + 1) a.frame.locals (v ∷ a.frame.stack.items) e)

    pub writes_variable : (class field : ℕ) (fields : List Value) (v : Value) → shape_of next.0 ≡ shapes.Heap heap.WriteStatic → next.1 ≡ target.Field class field
        → slice_get machine.statics class ≡ Some fields → slice_get a.frame.stack.items 0 ≡ Some v
        → Following (with_statics (world_of machine) (slice_set machine.statics class (slice_set fields field v))) a.frame.locals (drop 1 a.frame.stack.items)
    writes_variable class field fields v is names there top =
        let e = on_heap heap.WriteStatic is in
        let named : option_and_then (comes_to program (world_of machine) a) (heap_result program (world_of machine) heap.WriteStatic (target.Field class field) a.frame.stack.items) ≡ Some change =
        rw names at e in
        let new = with_statics (world_of machine) (slice_set machine.statics class (slice_set fields field v)) in
        let written : option_and_then (comes_to program (world_of machine) a)
        (option_map (λ (w : World). Ok (w, drop 1 a.frame.stack.items)) (option_and_then (λ (old : Value). Some new) (slice_get fields field))) ≡ Some change =
        rw (top, there) at named in
        by (slice_get fields field) written where
          by : (o : Option Value)
              → option_and_then (comes_to program (world_of machine) a)
              (option_map (λ (w : World). Ok (w, drop 1 a.frame.stack.items)) (option_and_then (λ (old : Value). Some (with_statics (world_of machine) (slice_set machine.statics class (slice_set fields field v)))) o)) ≡ Some change
              → Following (with_statics (world_of machine) (slice_set machine.statics class (slice_set fields field v))) a.frame.locals (drop 1 a.frame.stack.items)
          by None e = absurd cc
          by (Some old) e = fitted_goes _ (a.frame.at + 1) a.frame.locals (drop 1 a.frame.stack.items) e

    -- ---- monitors

    pub enters_lock : (v : Value) (held : List Monitor) → shape_of next.0 ≡ shapes.Heap heap.Enter → slice_get a.frame.stack.items 0 ≡ Some v → is_null v ≡ false
        → entered machine.monitors a.number v ≡ Some held → Following (with_monitors (world_of machine) held) a.frame.locals (drop 1 a.frame.stack.items)
    enters_lock v held is top not_null enter =
        let e = on_heap heap.Enter is in
        let on : enters program (world_of machine) a v ≡ Some change = rw top at e in
        let went : acts_on (with_monitors (world_of machine) held) a (after a.frame (drop 1 a.frame.stack.items)) ≡ Some change = rw (not_null, enter) at on in
        fitted_goes (with_monitors (world_of machine) held) (a.frame.at + 1) a.frame.locals (drop 1 a.frame.stack.items) went

    pub leaves_lock : (v : Value) (held : List Monitor) → shape_of next.0 ≡ shapes.Heap heap.Exit → slice_get a.frame.stack.items 0 ≡ Some v → is_null v ≡ false
        → left machine.monitors a.number v ≡ Some held → Following (with_monitors (world_of machine) held) a.frame.locals (drop 1 a.frame.stack.items)
    leaves_lock v held is top not_null leave =
        let e = on_heap heap.Exit is in
        let on : leaves program (world_of machine) a v ≡ Some change = rw top at e in
        let went : acts_on (with_monitors (world_of machine) held) a (after a.frame (drop 1 a.frame.stack.items)) ≡ Some change = rw (not_null, leave) at on in
        fitted_goes (with_monitors (world_of machine) held) (a.frame.at + 1) a.frame.locals (drop 1 a.frame.stack.items) went
