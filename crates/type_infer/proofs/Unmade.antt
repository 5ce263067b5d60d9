-- Types of which none is that of an object that is not made yet.
use Rattle.std.proofs.Common.{◌≡◌, ℕ, zero, suc, Bool, true, false, List, [], ◌∷◌, refl}
use Rattle.std.specs.Prelude.{if◌then◌else◌, not, IsTrue}
use Rattle.std.specs.List.{list_any}
use Rattle.cert_format.specs.declared.typing.VType.{VType}
use Rattle.cert_format.specs.declared.typing.VType.TheVariants as types
use Rattle.cert_format.specs.declared.typing.FrameType.{FrameType}
use Rattle.insn_codec.specs.declared.shape.Heap.TheVariants as heap
use Rattle.insn_codec.specs.declared.shape.How.{How}
use Rattle.insn_codec.specs.declared.shape.Shape.{Shape}
use Rattle.insn_codec.specs.declared.shape.Shape.TheVariants as shapes
use Rattle.insn_codec.specs.Shapes.{shape_of}
use Rattle.bytecode_model.specs.InsnPlace.{InsnPlace, calls_maker}
use Rattle.bytecode_model.specs.Makes.{changed_by, is_same_object, local_after, stores, type_at, when_made}
use Rattle.bytecode_model.specs.Rules.{has_object, taken, when_thrown}
use Rattle.type_infer.specs.Unmade.{is_unmade}
use Rattle.type_infer.proofs.Settling.{either_false, free_at}

pub made_at : (xs : List VType) → list_any is_unmade xs ≡ false → (j : ℕ) → is_unmade (type_at xs j) ≡ false
made_at [] h j = refl
made_at (x ∷ xs) h zero = (either_false (is_unmade x) _ h).0
made_at (x ∷ xs) h (suc j) = made_at xs (either_false (is_unmade x) _ h).1 j

pub made_is_no_object : (object t : VType) → is_unmade t ≡ false → is_same_object object t ≡ false
made_is_no_object types.UninitThis types.UninitThis h = absurd cc
made_is_no_object (types.Uninit i) (types.Uninit j) h = absurd cc
made_is_no_object types.UninitThis (types.Uninit j) h = refl
made_is_no_object (types.Uninit i) types.UninitThis h = refl
made_is_no_object types.UninitThis types.Top h = refl
made_is_no_object types.UninitThis types.Int h = refl
made_is_no_object types.UninitThis types.Null h = refl
made_is_no_object types.UninitThis (types.Ref name) h = refl
made_is_no_object (types.Uninit i) types.Top h = refl
made_is_no_object (types.Uninit i) types.Int h = refl
made_is_no_object (types.Uninit i) types.Null h = refl
made_is_no_object (types.Uninit i) (types.Ref name) h = refl
made_is_no_object types.Top t h = refl
made_is_no_object types.Int t h = refl
made_is_no_object types.Null t h = refl
made_is_no_object (types.Ref name) t h = refl

pub made_is_thrown : (t : VType) → is_unmade t ≡ false → when_thrown t ≡ t
made_is_thrown types.Top h = refl
made_is_thrown types.Int h = refl
made_is_thrown types.Null h = refl
made_is_thrown (types.Ref name) h = refl
made_is_thrown types.UninitThis h = absurd cc
made_is_thrown (types.Uninit i) h = absurd cc

-- ---- what an instruction leaves as it is

pub is_not : (b : Bool) → IsTrue (not b) → b ≡ false
is_not true h = absurd cc
is_not false h = refl

not_chosen : (b : Bool) (x y : VType) → b ≡ false → (if b then x else y) ≡ y
not_chosen true x y e = absurd cc
not_chosen false x y e = refl

either : (b : Bool) (x y : VType) → x ≡ y → (if b then x else y) ≡ y
either true x y e = e
either false x y e = refl

module _ (place : InsnPlace) (locals operands : List VType) (shape : Shape) where
  -- what a local is after an instruction of this shape
  abbrev after : ℕ → VType
  after j = if stores shape j then type_at operands 0 else changed_by place operands shape (type_at locals j)

  new_keeps : shape ≡ shapes.Heap heap.New → has_object (types.Uninit place.at) locals ≡ false → (j : ℕ) → after j ≡ type_at locals j
  new_keeps e free j =
      rw e (not_chosen (is_same_object (types.Uninit place.at) (type_at locals j)) types.Top (type_at locals j) (free_at (types.Uninit place.at) locals free j))

  call_keeps : (how : How) → shape ≡ shapes.Heap (heap.Call how) → list_any is_unmade locals ≡ false → (j : ℕ) → after j ≡ type_at locals j
  call_keeps how e free j =
      let t = type_at locals j in
      let receiver = type_at operands 0 in
      rw e (either (calls_maker place) (when_made place receiver t) t (not_chosen (is_same_object receiver t) _ t (made_is_no_object receiver t (made_at locals free j))))

pub kept_by_new : (place : InsnPlace) (frame : FrameType) → shape_of place.insn ≡ shapes.Heap heap.New → has_object (types.Uninit place.at) frame.locals ≡ false
    → (j : ℕ) → local_after place frame.locals (taken place frame) j ≡ type_at frame.locals j
kept_by_new place frame e free = new_keeps place frame.locals (taken place frame) (shape_of place.insn) e free

pub kept_by_call : (place : InsnPlace) (frame : FrameType) (how : How) → shape_of place.insn ≡ shapes.Heap (heap.Call how) → list_any is_unmade frame.locals ≡ false
    → (j : ℕ) → local_after place frame.locals (taken place frame) j ≡ type_at frame.locals j
kept_by_call place frame how e free = call_keeps place frame.locals (taken place frame) (shape_of place.insn) how e free
