-- What an instruction of a ready frame does on the heap or on static fields: it is ready for it, and what it comes to fits.
use Rattle.std.proofs.Common.{◌≡◌, ℕ, ◌+◌, ◌-◌, Bool, true, false, List, length, map, reverse, refl, ap, ◌∙◌, arith}
use Rattle.std.proofs.lemmas.List.{length-append, length-map, length-reverse, length-take-le}
use Rattle.cert_format.specs.declared.typing.Typing.{Typing}
use Rattle.cert_format.specs.declared.typing.VType.{VType}
use Rattle.insn_codec.specs.declared.shape.Heap.{Heap}
use Rattle.insn_codec.specs.declared.shape.Heap.TheVariants as heaps
use Rattle.insn_codec.specs.declared.shape.Shape.{Shape}
use Rattle.insn_codec.specs.declared.shape.Shape.TheVariants as shapes
use Rattle.insn_codec.specs.Shapes.{shape_of}
use Rattle.bytecode_model.specs.declared.program.Program.{Program}
use Rattle.bytecode_model.specs.Makes.{below, changed, yields, yields_of}
use Rattle.bytecode_model.specs.Rules.{taken}
use Rattle.bytecode_model.specs.Uses.{UsesAreShaped}
use Rattle.bytecode_model.specs.Wants.{takes, takes_of}
use Rattle.guest_heap.specs.declared.frame.Frame.{Frame}
use Rattle.guest_model.specs.Changes.{World}
use Rattle.guest_model.specs.Moving.{HasRoomFor, IsReadyFor, pushed_by, taken_by}
use Rattle.guest_model.specs.HeapOperations.{heap_result}
use Rattle.typed_runs.specs.Fitting.{HeapFits, StaticsFit, fits_type}
use Rattle.typed_runs.specs.Frames.{IsReady, stands_at}
use Rattle.typed_runs.specs.Machines.{BeginsRight}
use Rattle.typed_runs.specs.Programs.{IsTypedProgram}
use Rattle.typed_runs.proofs.Changed.{OperationFits}
use Rattle.typed_runs.proofs.Fields.{read_field_operates, read_static_operates, write_field_operates, write_static_operates}
use Rattle.typed_runs.proofs.Going.{after_fits, enough_taken, stack_following}
use Rattle.typed_runs.proofs.Items.{length_operates, read_item_operates, write_item_operates}
use Rattle.typed_runs.proofs.Pairs.{paired_length}
use Rattle.typed_runs.proofs.Operates.{cast_operates, constant_operates, divide_operates, instance_operates, new_array_of_operates, new_array_operates, new_operates}

-- whether an instruction works so: it goes on after itself at once, or throws
abbrev pub operates_here : Heap → Bool
operates_here heaps.Constant = true
operates_here (heaps.ReadItem item) = true
operates_here (heaps.WriteItem item) = true
operates_here (heaps.Divide remainder) = true
operates_here heaps.ReadStatic = true
operates_here heaps.WriteStatic = true
operates_here heaps.ReadField = true
operates_here heaps.WriteField = true
operates_here heaps.New = true
operates_here (heaps.NewArray kind) = true
operates_here heaps.NewArrayOf = true
operates_here heaps.Length = true
operates_here heaps.Cast = true
operates_here heaps.IsInstance = true
operates_here (heaps.Call how) = false
operates_here heaps.Throw = false
operates_here heaps.Enter = false
operates_here heaps.Exit = false
operates_here (heaps.Return kind) = false

module _ (program : Program) (typing : Typing) (ok : IsTypedProgram program typing) (shaped : UsesAreShaped) (world : World)
    (fit : HeapFits program world.heap) (first : BeginsRight program world.heap) (statics : StaticsFit program world.heap world.statics)
    (frame : Frame) (r : IsReady program typing world.heap frame) where
  -- The instruction is ready, and what it comes to fits.
  pub record HeapOperates (what : Heap) : Type 0 where
    pub ready : IsReadyFor program world what (stands_at r.stands).ref frame.stack.items
    pub fits : OperationFits program r.stands.class r.stands.method world.heap (stack_following (stands_at r.stands) r.stands.type)
        (heap_result program world what (stands_at r.stands).ref frame.stack.items)
    pub room : HasRoomFor frame what

  -- ---- how many operands it takes and pushes

  takes_many : (what : Heap) → operates_here what ≡ true → length (takes_of (stands_at r.stands) (shapes.Heap what)) ≡ taken_by what
  takes_many heaps.Constant e = refl
  takes_many (heaps.ReadItem item) e = refl
  takes_many (heaps.WriteItem item) e = refl
  takes_many (heaps.Divide remainder) e = refl
  takes_many heaps.ReadStatic e = refl
  takes_many heaps.WriteStatic e = refl
  takes_many heaps.ReadField e = refl
  takes_many heaps.WriteField e = refl
  takes_many heaps.New e = refl
  takes_many (heaps.NewArray kind) e = refl
  takes_many heaps.NewArrayOf e = refl
  takes_many heaps.Length e = refl
  takes_many heaps.Cast e = refl
  takes_many heaps.IsInstance e = refl
  takes_many (heaps.Call how) e = absurd cc
  takes_many heaps.Throw e = absurd cc
  takes_many heaps.Enter e = absurd cc
  takes_many heaps.Exit e = absurd cc
  takes_many (heaps.Return kind) e = absurd cc

  yields_many : (what : Heap) (locals on : List VType) → operates_here what ≡ true → length (yields_of (stands_at r.stands) locals on (shapes.Heap what)) ≡ pushed_by what
  yields_many heaps.Constant locals on e = refl
  yields_many (heaps.ReadItem item) locals on e = refl
  yields_many (heaps.WriteItem item) locals on e = refl
  yields_many (heaps.Divide remainder) locals on e = refl
  yields_many heaps.ReadStatic locals on e = refl
  yields_many heaps.WriteStatic locals on e = refl
  yields_many heaps.ReadField locals on e = refl
  yields_many heaps.WriteField locals on e = refl
  yields_many heaps.New locals on e = refl
  yields_many (heaps.NewArray kind) locals on e = refl
  yields_many heaps.NewArrayOf locals on e = refl
  yields_many heaps.Length locals on e = refl
  yields_many heaps.Cast locals on e = refl
  yields_many heaps.IsInstance locals on e = refl
  yields_many (heaps.Call how) locals on e = absurd cc
  yields_many heaps.Throw locals on e = absurd cc
  yields_many heaps.Enter locals on e = absurd cc
  yields_many heaps.Exit locals on e = absurd cc
  yields_many (heaps.Return kind) locals on e = absurd cc

  -- what it leaves fits on the stack
  has_room : (what : Heap) → shape_of r.stands.insn ≡ shapes.Heap what → operates_here what ≡ true → HasRoomFor frame what
  has_room what shape e =
      let place = stands_at r.stands in
      let stack = r.stands.type.stack in
      let n = length (takes place) in
      let taken_types = taken place r.stands.type in
      let many : n ≡ taken_by what = ap (λ (x : Shape). length (takes_of place x)) shape ∙ takes_many what e in
      let pushed : length (yields place r.stands.type.locals taken_types) ≡ pushed_by what =
      ap (λ (x : Shape). length (yields_of place r.stands.type.locals taken_types x)) shape ∙ yields_many what r.stands.type.locals taken_types e in
      let height : length frame.stack.items ≡ length stack =
      paired_length (fits_type program world.heap r.stands.class r.stands.method) frame.stack.items (reverse stack) r.operands ∙ length-reverse stack in
      let under : length (below n stack) ≡ length stack - n = length-take-le (length stack - n) stack (omega arith) in
      let left : length (stack_following place r.stands.type) ≡ (length stack - n) + pushed_by what =
      length-append (map (changed place taken_types) (below n stack)) (yields place r.stands.type.locals taken_types)
      ∙ ap (λ (k : ℕ). k + length (yields place r.stands.type.locals taken_types)) (length-map (below n stack) (changed place taken_types) ∙ under)
      ∙ ap (λ (k : ℕ). (length stack - n) + k) pushed in
      let fits = after_fits program typing ok world.heap frame r.stands in
      let enough = enough_taken program typing ok world.heap frame r.stands in
      omega (arith, many, height, left, fits, enough)

  -- ---- the rows

  both : (what : Heap) → shape_of r.stands.insn ≡ shapes.Heap what → operates_here what ≡ true → IsReadyFor program world what (stands_at r.stands).ref frame.stack.items
      × OperationFits program r.stands.class r.stands.method world.heap (stack_following (stands_at r.stands) r.stands.type)
      (heap_result program world what (stands_at r.stands).ref frame.stack.items)
      → HeapOperates what
  both what shape e h = record { ready = h.0; fits = h.1; room = has_room what shape e }

  pub heap_operates : (what : Heap) → shape_of r.stands.insn ≡ shapes.Heap what → operates_here what ≡ true → HeapOperates what
  heap_operates heaps.Constant shape e = both heaps.Constant shape e (constant_operates program typing ok shaped world fit statics frame r shape)
  heap_operates (heaps.ReadItem item) shape e = both (heaps.ReadItem item) shape e (read_item_operates program typing ok shaped world fit statics frame r item shape)
  heap_operates (heaps.WriteItem item) shape e = both (heaps.WriteItem item) shape e (write_item_operates program typing ok shaped world fit statics frame r item shape)
  heap_operates (heaps.Divide remainder) shape e = both (heaps.Divide remainder) shape e (divide_operates program typing ok shaped world fit statics frame r remainder shape)
  heap_operates heaps.ReadStatic shape e = both heaps.ReadStatic shape e (read_static_operates program typing ok shaped world fit statics frame r shape first)
  heap_operates heaps.WriteStatic shape e = both heaps.WriteStatic shape e (write_static_operates program typing ok shaped world fit statics frame r shape)
  heap_operates heaps.ReadField shape e = both heaps.ReadField shape e (read_field_operates program typing ok shaped world fit statics frame r shape)
  heap_operates heaps.WriteField shape e = both heaps.WriteField shape e (write_field_operates program typing ok shaped world fit statics frame r shape)
  heap_operates heaps.New shape e = both heaps.New shape e (new_operates program typing ok shaped world fit statics frame r shape)
  heap_operates (heaps.NewArray kind) shape e = both (heaps.NewArray kind) shape e (new_array_operates program typing ok shaped world fit statics frame r kind shape)
  heap_operates heaps.NewArrayOf shape e = both heaps.NewArrayOf shape e (new_array_of_operates program typing ok shaped world fit statics frame r shape)
  heap_operates heaps.Length shape e = both heaps.Length shape e (length_operates program typing ok shaped world fit statics frame r shape)
  heap_operates heaps.Cast shape e = both heaps.Cast shape e (cast_operates program typing ok shaped world fit statics frame r shape)
  heap_operates heaps.IsInstance shape e = both heaps.IsInstance shape e (instance_operates program typing ok shaped world fit statics frame r shape)
  heap_operates (heaps.Call how) shape e = absurd cc
  heap_operates heaps.Throw shape e = absurd cc
  heap_operates heaps.Enter shape e = absurd cc
  heap_operates heaps.Exit shape e = absurd cc
  heap_operates (heaps.Return kind) shape e = absurd cc
