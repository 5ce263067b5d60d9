-- What a thread needs for a step is there.
use Rattle.std.proofs.Common.{◌≡◌, ℕ, true, List, [], ◌∷◌, Option, Some, None, refl, sym, ap, subst, ◌∙◌}
use Rattle.std.specs.Prelude.{IsSome}
use Rattle.std.specs.List.{AllByRecursion}
use Rattle.api_listing.specs.BuiltIn.{throwable}
use Rattle.cert_format.specs.declared.typing.Typing.{Typing}
use Rattle.cert_format.specs.declared.typing.VType.TheVariants as types
use Rattle.insn_codec.specs.declared.insn.Insn.{Insn}
use Rattle.insn_codec.specs.declared.shape.Heap.{Heap}
use Rattle.insn_codec.specs.declared.shape.Heap.TheVariants as heap_shapes
use Rattle.insn_codec.specs.declared.shape.Shape.TheVariants as shapes
use Rattle.insn_codec.specs.Shapes.{shape_of}
use Rattle.bytecode_model.specs.declared.program.Program.{Program}
use Rattle.bytecode_model.specs.declared.program.Target.{Target}
use Rattle.bytecode_model.specs.Described.{result_type}
use Rattle.bytecode_model.specs.Uses.{UsesAreShaped}
use Rattle.bytecode_model.specs.Wants.{is_made, takes_of, to_class}
use Rattle.guest_heap.specs.declared.frame.Frame.{Frame}
use Rattle.guest_heap.specs.declared.thread.Thread.{Thread}
use Rattle.guest_model.specs.declared.machine.Machine.{Machine}
use Rattle.guest_model.specs.Places.{insn_at}
use Rattle.guest_model.proofs.Options.{some_and}
use Rattle.guest_model.specs.Changes.{world_of}
use Rattle.guest_model.specs.Moving.{CanDo, CanDoNext, CanRun, CanOperate, HasOne, IsObject, IsReference}
use Rattle.guest_model.specs.Stepping.{Acting, heap_in}
use Rattle.typed_runs.specs.Frames.{AreWaiting, IsReady, stands_at}
use Rattle.typed_runs.specs.Machines.{CanBegin, MachineFits}
use Rattle.typed_runs.specs.Programs.{IsTypedProgram}
use Rattle.typed_runs.proofs.Acting.{CallsOperate, alone_shape, heap_shape}
use Rattle.typed_runs.proofs.Going.{steps_alone}
use Rattle.typed_runs.proofs.Calling.Returning.{gives}
use Rattle.typed_runs.proofs.Rows.{insn_is}
use Rattle.typed_runs.proofs.Topmost.{one_taken}
use Rattle.typed_runs.proofs.Types.{reference_is, type_fits_over, wanted_made, wanted_object}
use Rattle.typed_runs.proofs.HeapResult.{heap_operates, operates_here}

-- ---- a running thread

module _ (program : Program) (typing : Typing) (ok : IsTypedProgram program typing) (machine : Machine) (m : MachineFits program typing machine)
    (number : ℕ) (thread : Thread) (later : AllByRecursion (CanBegin program) thread.to_begin)
    (frame : Frame) (under : List Frame) (r : IsReady program typing machine.heap frame)
    (waiting : AreWaiting program typing machine.heap (result_type r.stands.method.desc) under) where
  abbrev doer : Acting
  doer = record { number = number; thread = thread; frame = frame; below = under }

  abbrev ref : Target
  ref = (stands_at r.stands).ref

  top_reference : (what : Heap) → shape_of r.stands.insn ≡ shapes.Heap what → takes_of (stands_at r.stands) (shapes.Heap what) ≡ is_made ∷ []
      → HasOne IsReference frame.stack.items
  top_reference what shape is =
      let one = one_taken program typing ok machine.heap frame r is_made (ap (takes_of (stands_at r.stands)) shape ∙ is) in
      let reference = reference_is program one.value (wanted_made program machine.heap r.stands.class r.stands.method one.value one.type one.fits one.met) in
      subst (HasOne IsReference) (sym one.items_are) reference

  top_object : shape_of r.stands.insn ≡ shapes.Heap heap_shapes.Throw → HasOne (IsObject machine.heap) frame.stack.items
  top_object shape =
      let one = one_taken program typing ok machine.heap frame r (to_class program throwable) (ap (takes_of (stands_at r.stands)) shape) in
      let fits = type_fits_over program ok.links.order machine.heap r.stands.class r.stands.method one.value one.type (types.Ref throwable) one.met one.fits in
      let object = wanted_object program machine.heap r.stands.class r.stands.method one.value (types.Ref throwable) fits refl in
      subst (HasOne (IsObject machine.heap)) (sym one.items_are) object

  module _ (shaped : UsesAreShaped) (calls_operate : CallsOperate program typing) where
    can_operate : (what : Heap) → shape_of r.stands.insn ≡ shapes.Heap what → operates_here what ≡ true → CanOperate program machine doer what ref
    can_operate what shape does =
        let w = heap_operates program typing ok shaped (world_of machine) m.heap m.first m.statics frame r what shape does in
        (w.ready, w.room)

    can_do : (what : Heap) → shape_of r.stands.insn ≡ shapes.Heap what → CanDo program machine doer what ref
    can_do (heap_shapes.Call how) shape = (r.room, (calls_operate machine m number thread later frame under r waiting how shape).0)
    can_do heap_shapes.Throw shape = top_object shape
    can_do heap_shapes.Enter shape = (r.room, top_reference heap_shapes.Enter shape refl)
    can_do heap_shapes.Exit shape = (r.room, top_reference heap_shapes.Exit shape refl)
    can_do (heap_shapes.Return kind) shape = (gives program typing ok machine.heap frame r kind shape).can under waiting
    can_do heap_shapes.Constant shape = can_operate heap_shapes.Constant shape refl
    can_do (heap_shapes.ReadItem item) shape = can_operate (heap_shapes.ReadItem item) shape refl
    can_do (heap_shapes.WriteItem item) shape = can_operate (heap_shapes.WriteItem item) shape refl
    can_do (heap_shapes.Divide remainder) shape = can_operate (heap_shapes.Divide remainder) shape refl
    can_do heap_shapes.ReadStatic shape = can_operate heap_shapes.ReadStatic shape refl
    can_do heap_shapes.WriteStatic shape = can_operate heap_shapes.WriteStatic shape refl
    can_do heap_shapes.ReadField shape = can_operate heap_shapes.ReadField shape refl
    can_do heap_shapes.WriteField shape = can_operate heap_shapes.WriteField shape refl
    can_do heap_shapes.New shape = can_operate heap_shapes.New shape refl
    can_do (heap_shapes.NewArray kind) shape = can_operate (heap_shapes.NewArray kind) shape refl
    can_do heap_shapes.NewArrayOf shape = can_operate heap_shapes.NewArrayOf shape refl
    can_do heap_shapes.Length shape = can_operate heap_shapes.Length shape refl
    can_do heap_shapes.Cast shape = can_operate heap_shapes.Cast shape refl
    can_do heap_shapes.IsInstance shape = can_operate heap_shapes.IsInstance shape refl

    can_by_shape : (o : Option Heap) → heap_in (shape_of r.stands.insn) ≡ o → CanDoNext program machine doer (r.stands.insn, ref) o
    can_by_shape None e =
        let l = steps_alone program typing ok machine.heap frame r (alone_shape (shape_of r.stands.insn) e) in
        subst IsSome (sym l.1) refl
    can_by_shape (Some what) e = can_do what (heap_shape (shape_of r.stands.insn) what e)

    -- The thread can do its next instruction.
    pub can_run : CanRun program machine number thread (frame ∷ under)
    can_run =
        some_and (λ (next : Insn × Target). CanDoNext program machine doer next (heap_in (shape_of next.0))) (insn_at program frame) (r.stands.insn, ref)
        (insn_is program typing ok frame r.stands) (can_by_shape (heap_in (shape_of r.stands.insn)) refl)
