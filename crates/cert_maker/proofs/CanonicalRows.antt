-- An instruction whose frame is trimmed: each rule that it met is met.
use Rattle.std.proofs.Common.{◌≡◌, ℕ, ◌≤◌, Bool, true, cond, List, [], ◌∷◌, ◌++◌, length, map, Option, Some, None, refl, ap, arith}
use Rattle.std.specs.Prelude.{◌&&◌, ◌||◌, ◌==◌, not, nat_le, nat_lt}
use Rattle.std.proofs.lemmas.Bool.{and_parts, leb-true, le-leb}
use Rattle.cert_format.specs.declared.typing.FrameType.{FrameType}
use Rattle.cert_format.specs.declared.typing.VType.{VType}
use Rattle.cert_format.specs.declared.typing.VType.TheVariants as types
use Rattle.insn_codec.specs.declared.shape.Heap.TheVariants as heap
use Rattle.insn_codec.specs.declared.shape.ValueKind.TheVariants as kinds
use Rattle.insn_codec.specs.declared.shape.Shape.{Shape}
use Rattle.insn_codec.specs.declared.shape.Shape.TheVariants as shapes
use Rattle.insn_codec.specs.Shapes.{shape_of}
use Rattle.bytecode_model.specs.Makes.{below, changed, local_after, stack_after, stores, topmost, type_at, yields_of}
use Rattle.bytecode_model.specs.InsnPlace.{InsnPlace, is_maker}
use Rattle.bytecode_model.specs.Rules.{Depth, Entry, Local, Made, entry_locals, has_object, leaves_made, local_caught, locals_fit, made_well, taken, uses_local, when_thrown}
use Rattle.bytecode_model.specs.Wants.{of_kind, takes}
use Rattle.cert_maker.specs.Canonical.{frame_trimmed, trimmed}
use Rattle.cert_maker.proofs.Trimmed.{at_trimmed, fit_trimmed, object_trimmed, trimmed_short}

-- ---- what is left after

yields_same : (place : InsnPlace) (locals taken : List VType) (shape : Shape) → yields_of place (trimmed locals) taken shape ≡ yields_of place locals taken shape
yields_same place locals taken (shapes.Load kind slot) = ap (λ (t : VType). t ∷ []) (at_trimmed locals slot)
yields_same place locals taken shapes.Nothing = refl
yields_same place locals taken (shapes.Push n) = refl
yields_same place locals taken shapes.PushNull = refl
yields_same place locals taken (shapes.Store kind slot) = refl
yields_same place locals taken (shapes.Move form) = refl
yields_same place locals taken (shapes.Two op) = refl
yields_same place locals taken (shapes.One op) = refl
yields_same place locals taken (shapes.Increment slot by) = refl
yields_same place locals taken (shapes.Test relation to) = refl
yields_same place locals taken (shapes.Compare relation to) = refl
yields_same place locals taken (shapes.CompareReferences same to) = refl
yields_same place locals taken (shapes.TestNull null to) = refl
yields_same place locals taken (shapes.Goto to) = refl
yields_same place locals taken shapes.Switch = refl
yields_same place locals taken (shapes.Heap what) = refl

pub stack_same : (place : InsnPlace) (locals : List VType) (n : ℕ) (stack : List VType) → stack_after place (trimmed locals) n stack ≡ stack_after place locals n stack
stack_same place locals n stack =
    ap (λ (made : List VType). map (changed place (topmost n stack)) (below n stack) ++ made) (yields_same place locals (topmost n stack) (shape_of place.insn))

pub local_same : (place : InsnPlace) (locals taken : List VType) (j : ℕ) → local_after place (trimmed locals) taken j ≡ local_after place locals taken j
local_same place locals taken j = ap (λ (t : VType). cond (stores (shape_of place.insn) j) (type_at taken 0) (changed place taken t)) (at_trimmed locals j)

pub caught_same : (locals : List VType) (j : ℕ) → local_caught (trimmed locals) j ≡ local_caught locals j
caught_same locals j = ap when_thrown (at_trimmed locals j)

-- ---- the rules that are about the frame alone

module _ (place : InsnPlace) (frame : FrameType) where
  pub entry_trimmed : Entry place frame ≡ true → Entry place (frame_trimmed frame) ≡ true
  entry_trimmed e =
      let a = and_parts (nat_le (length (entry_locals place)) place.method.max_locals) (locals_fit place.program (type_at (entry_locals place)) 0 frame.locals && (length frame.stack == 0)) e in
      let b = and_parts (locals_fit place.program (type_at (entry_locals place)) 0 frame.locals) (length frame.stack == 0) a.1 in
      rw (a.0, fit_trimmed place.program (type_at (entry_locals place)) 0 frame.locals b.0, b.1) refl

  pub depth_same : Depth place (frame_trimmed frame) ≡ Depth place frame
  depth_same = ap (λ (s : List VType). nat_le (length (takes place)) (length frame.stack) && nat_le (length s) place.method.max_stack) (stack_same place frame.locals (length (takes place)) frame.stack)

  uses_same : (shape : Shape) → uses_local place.method (trimmed frame.locals) shape ≡ uses_local place.method frame.locals shape
  uses_same (shapes.Load kind slot) = ap (λ (t : VType). nat_lt slot place.method.max_locals && of_kind kind t) (at_trimmed frame.locals slot)
  uses_same (shapes.Increment slot by) = ap (λ (t : VType). nat_lt slot place.method.max_locals && of_kind kinds.Int t) (at_trimmed frame.locals slot)
  uses_same shapes.Nothing = refl
  uses_same (shapes.Push n) = refl
  uses_same shapes.PushNull = refl
  uses_same (shapes.Store kind slot) = refl
  uses_same (shapes.Move form) = refl
  uses_same (shapes.Two op) = refl
  uses_same (shapes.One op) = refl
  uses_same (shapes.Test relation to) = refl
  uses_same (shapes.Compare relation to) = refl
  uses_same (shapes.CompareReferences same to) = refl
  uses_same (shapes.TestNull null to) = refl
  uses_same (shapes.Goto to) = refl
  uses_same shapes.Switch = refl
  uses_same (shapes.Heap what) = refl

  pub local_room : Local place frame ≡ true → length frame.locals ≤ place.method.max_locals
  local_room e = leb-true _ _ (and_parts (nat_le (length frame.locals) place.method.max_locals) (uses_local place.method frame.locals (shape_of place.insn)) e).0

  pub local_trimmed : Local place frame ≡ true → Local place (frame_trimmed frame) ≡ true
  local_trimmed e =
      let a = and_parts (nat_le (length frame.locals) place.method.max_locals) (uses_local place.method frame.locals (shape_of place.insn)) e in
      let short : length (trimmed frame.locals) ≤ place.method.max_locals = omega (arith, trimmed_short frame.locals, leb-true _ _ a.0) in
      rw (le-leb _ _ short, uses_same (shape_of place.insn), a.1) refl

  leaves_same : leaves_made place (frame_trimmed frame) ≡ leaves_made place frame
  leaves_same = ap (λ (b : Bool). not (is_maker place.method) || not (b || has_object types.UninitThis frame.stack)) (object_trimmed frame.locals)

  made_return : (o : Option _) → made_well place (frame_trimmed frame) (shapes.Heap (heap.Return o)) ≡ made_well place frame (shapes.Heap (heap.Return o))
  made_return None = leaves_same
  made_return (Some kind) = refl

  made_of : (shape : Shape) → made_well place (frame_trimmed frame) shape ≡ made_well place frame shape
  made_of (shapes.Heap (heap.Return o)) = made_return o
  made_of (shapes.Heap (heap.Call how)) = refl
  made_of (shapes.Heap heap.New) = refl
  made_of (shapes.Heap heap.Constant) = refl
  made_of (shapes.Heap (heap.ReadItem item)) = refl
  made_of (shapes.Heap (heap.WriteItem item)) = refl
  made_of (shapes.Heap (heap.Divide remainder)) = refl
  made_of (shapes.Heap heap.ReadStatic) = refl
  made_of (shapes.Heap heap.WriteStatic) = refl
  made_of (shapes.Heap heap.ReadField) = refl
  made_of (shapes.Heap heap.WriteField) = refl
  made_of (shapes.Heap (heap.NewArray kind)) = refl
  made_of (shapes.Heap heap.NewArrayOf) = refl
  made_of (shapes.Heap heap.Length) = refl
  made_of (shapes.Heap heap.Throw) = refl
  made_of (shapes.Heap heap.Cast) = refl
  made_of (shapes.Heap heap.IsInstance) = refl
  made_of (shapes.Heap heap.Enter) = refl
  made_of (shapes.Heap heap.Exit) = refl
  made_of (shapes.Load kind slot) = refl
  made_of (shapes.Increment slot by) = refl
  made_of shapes.Nothing = refl
  made_of (shapes.Push n) = refl
  made_of shapes.PushNull = refl
  made_of (shapes.Store kind slot) = refl
  made_of (shapes.Move form) = refl
  made_of (shapes.Two op) = refl
  made_of (shapes.One op) = refl
  made_of (shapes.Test relation to) = refl
  made_of (shapes.Compare relation to) = refl
  made_of (shapes.CompareReferences same to) = refl
  made_of (shapes.TestNull null to) = refl
  made_of (shapes.Goto to) = refl
  made_of shapes.Switch = refl

  pub made_same : Made place (frame_trimmed frame) ≡ Made place frame
  made_same = made_of (shape_of place.insn)
