-- What is wanted of an operand holds of each type below one of which it holds.
use Rattle.std.proofs.Common.{◌≡◌, ℕ, zero, suc, true, false, List, [], ◌∷◌, map, replicate, Option, Some, None, refl, sym, ap, subst, inl, inr}
use Rattle.std.specs.Prelude.{◌&&◌, ◌||◌, codes}
use Rattle.std.specs.List.{AllByRecursion}
use Rattle.std.specs.Option.{option_map_or}
use Rattle.std.proofs.lemmas.Bool.{and_parts, cases_Bool, eqb-true}
use Rattle.cert_format.specs.declared.typing.VType.{VType}
use Rattle.cert_format.specs.declared.typing.VType.TheVariants as types
use Rattle.insn_codec.specs.declared.shape.Heap.{Heap}
use Rattle.insn_codec.specs.declared.shape.Heap.TheVariants as heap
use Rattle.insn_codec.specs.declared.shape.Item.{Item}
use Rattle.insn_codec.specs.declared.shape.Item.TheVariants as items
use Rattle.insn_codec.specs.declared.shape.ValueKind.{ValueKind}
use Rattle.insn_codec.specs.declared.shape.ValueKind.TheVariants as kinds
use Rattle.insn_codec.specs.declared.shape.Shape.{Shape}
use Rattle.insn_codec.specs.declared.shape.Shape.TheVariants as shapes
use Rattle.insn_codec.specs.Forms.{depth_of}
use Rattle.insn_codec.specs.declared.shape.How.{How}
use Rattle.insn_codec.specs.declared.shape.How.TheVariants as hows
use Rattle.bytecode_model.specs.declared.program.Program.{Program}
use Rattle.bytecode_model.specs.Arrays.{is_array}
use Rattle.bytecode_model.specs.Assigning.{assignable, class_fits, name_fits}
use Rattle.bytecode_model.specs.Order.{IsInOrder}
use Rattle.type_lattice.proofs.Orders.{type_over, seen, array_equal, array_first}
use Rattle.bytecode_model.proofs.Upwards.{either_of, or_first, or_second}
use Rattle.bytecode_model.specs.Described.{arguments, result_type}
use Rattle.code_typing.specs.Order.{StackBelow}
use Rattle.bytecode_model.specs.InsnPlace.{InsnPlace, class_referred, desc_referred, has_receiver, calls_maker, is_own_field}
use Rattle.bytecode_model.specs.Wants.{Want, anything, is_number, is_reference, is_made, is_array_type, is_this, of_kind, to_type, to_class, to_array, to_item, to_written, to_own, to_receiver, to_described, to_arguments, to_result, call_takes, heap_takes, takes_of, all_met}
use Rattle.code_typing.proofs.OrderLists.{both}

abbrev pub IsClosed : Program → Want → Type 0
IsClosed program want = (t u : VType) → assignable program t u ≡ true → want u ≡ true → want t ≡ true

either : (P : Want) (Q : Want) (t u : VType) → (P u ≡ true → P t ≡ true) → (Q u ≡ true → Q t ≡ true) → (P u || Q u) ≡ true → (P t || Q t) ≡ true
either P Q t u f g e =
    elim (either_of (P u) (Q u) e) [
      | inl is ↦ or_first _ _ (f is)
      | inr is ↦ or_second _ _ (g is)
    ]

module _ (program : Program) where
  -- ---- by the kind of a type

  pub below_int : (t : VType) → assignable program t types.Int ≡ true → t ≡ types.Int
  below_int types.Int e = refl
  below_int t e = absurd cc

  pub below_null : (t : VType) → assignable program t types.Null ≡ true → t ≡ types.Null
  below_null types.Null e = refl
  below_null t e = absurd cc

  pub below_this : (t : VType) → assignable program t types.UninitThis ≡ true → t ≡ types.UninitThis
  below_this types.UninitThis e = refl
  below_this t e = absurd cc

  pub below_new : (t : VType) (i : ℕ) → assignable program t (types.Uninit i) ≡ true → t ≡ types.Uninit i
  below_new (types.Uninit j) i e = ap types.Uninit (eqb-true j i e)
  below_new t i e = absurd cc

  below_reference : (t : VType) (name : List ℕ) → assignable program t (types.Ref name) ≡ true → is_made t ≡ true
  below_reference types.Null name e = refl
  below_reference (types.Ref a) name e = refl
  below_reference t name e = absurd cc

  made_reference : (t : VType) → is_made t ≡ true → is_reference t ≡ true
  made_reference types.Null e = refl
  made_reference (types.Ref a) e = refl
  made_reference t e = absurd cc

  anything_closed : IsClosed program anything
  anything_closed t u e f = refl

  number_closed : IsClosed program is_number
  number_closed t types.Int e f = ap is_number (below_int t e)
  number_closed t u e f = absurd cc

  reference_closed : IsClosed program is_reference
  reference_closed t types.Null e f = ap is_reference (below_null t e)
  reference_closed t (types.Ref b) e f = made_reference t (below_reference t b e)
  reference_closed t types.UninitThis e f = ap is_reference (below_this t e)
  reference_closed t (types.Uninit i) e f = ap is_reference (below_new t i e)
  reference_closed t u e f = absurd cc

  pub kind_closed : (kind : ValueKind) → IsClosed program (of_kind kind)
  kind_closed kinds.Int t u e f = number_closed t u e f
  kind_closed kinds.Reference t u e f = reference_closed t u e f

  made_closed : IsClosed program is_made
  made_closed t types.Null e f = ap is_made (below_null t e)
  made_closed t (types.Ref b) e f = below_reference t b e
  made_closed t u e f = absurd cc

  this_closed : IsClosed program is_this
  this_closed t types.UninitThis e f = ap is_this (below_this t e)
  this_closed t u e f = absurd cc

module _ (program : Program) (order : IsInOrder program) where
  -- ---- by a type above

  pub type_closed : (wanted : VType) → IsClosed program (to_type program wanted)
  type_closed wanted t u e f = type_over program order t u wanted e f

  pub class_closed : (name : List ℕ) → IsClosed program (to_class program name)
  class_closed name = type_closed (types.Ref name)

  described_closed : (desc : List ℕ) → IsClosed program (to_described program desc)
  described_closed desc t u e f = type_closed _ t u e f

  -- ---- arrays

  -- Only an array is assignable to an array.
  pub array_under : (a b : List ℕ) → name_fits program a b ≡ true → is_array b ≡ true → is_array a ≡ true
  array_under a b e is =
      elim (either_of (class_fits program a b) _ e) [
        | inl fits ↦ subst (λ (x : List ℕ). is_array x ≡ true) (sym (array_equal program order a b is (seen program a b fits))) is
        | inr fits ↦ array_first program order a b fits
      ]

  below_array : (t : VType) (b : List ℕ) → assignable program t (types.Ref b) ≡ true → is_array b ≡ true → is_array_type t ≡ true
  below_array types.Null b e f = refl
  below_array (types.Ref a) b e f = array_under a b e f
  below_array t b e f = absurd cc

  array_type_closed : IsClosed program is_array_type
  array_type_closed t types.Null e f = ap is_array_type (below_null program t e)
  array_type_closed t (types.Ref b) e f = below_array t b e f
  array_type_closed t u e f = absurd cc

  pub array_closed : (item : Item) → IsClosed program (to_array program item)
  array_closed items.Int t u e f = class_closed (codes "[I") t u e f
  array_closed items.Reference t u e f = class_closed (codes "[Ljava/lang/Object;") t u e f
  array_closed items.Byte t u e f =
      either (to_class program (codes "[B")) (to_class program (codes "[Z")) t u (class_closed (codes "[B") t u e) (class_closed (codes "[Z") t u e) f
  array_closed items.Char t u e f = class_closed (codes "[C") t u e f
  array_closed items.Short t u e f = class_closed (codes "[S") t u e f

  item_closed : (item : Item) → IsClosed program (to_item program item)
  item_closed items.Reference t u e f = class_closed _ t u e f
  item_closed items.Int t u e f = number_closed program t u e f
  item_closed items.Byte t u e f = number_closed program t u e f
  item_closed items.Char t u e f = number_closed program t u e f
  item_closed items.Short t u e f = number_closed program t u e f

module _ (place : InsnPlace) (order : IsInOrder place.program) where
  abbrev AllClosed : List Want → Type 0
  AllClosed wants = AllByRecursion (IsClosed place.program) wants

  -- ---- fields, calls and returns

  written_closed : IsClosed place.program (to_written place)
  written_closed t u e f =
      either (λ (x : VType). is_own_field place.own place.ref && is_this x) (to_class place.program (class_referred place)) t u
      (λ h. let k = and_parts _ _ h in both _ _ k.0 (this_closed place.program t u e k.1))
      (class_closed place.program order (class_referred place) t u e) f

  own_closed : (how : How) → IsClosed place.program (to_own place how)
  own_closed hows.Virtual t u e f = refl
  own_closed hows.Special t u e f = class_closed place.program order place.class.name t u e f
  own_closed hows.Static t u e f = refl
  own_closed hows.Interface t u e f = refl

  receiver_closed : (how : How) → IsClosed place.program (to_receiver place how)
  receiver_closed how t u e f =
      either (λ (x : VType). calls_maker place) (λ (x : VType). to_class place.program (class_referred place) x && to_own place how x) t u (λ h. h)
      (λ h. let k = and_parts _ _ h in both _ _ (class_closed place.program order (class_referred place) t u e k.0) (own_closed how t u e k.1)) f

  result_from : (o : Option VType) → IsClosed place.program (λ (t : VType). option_map_or (λ (r : VType). to_type place.program r t) o false)
  result_from None t u e f = f
  result_from (Some r) t u e f = type_closed place.program order r t u e f

  result_closed : IsClosed place.program (to_result place)
  result_closed t u e f = result_from (result_type place.method.desc) t u e f

  all_described : (descs : List (List ℕ)) → AllClosed (map (to_described place.program) descs)
  all_described [] = tt
  all_described (desc ∷ descs) = (described_closed place.program order desc, all_described descs)

  arguments_closed : AllClosed (to_arguments place)
  arguments_closed = all_described (arguments (desc_referred place))

  call_closed : (how : How) → AllClosed (call_takes place how)
  call_closed how =
      elim (cases_Bool (has_receiver how)) [
        | inl is ↦ rw is (receiver_closed how, arguments_closed)
        | inr other ↦ rw other arguments_closed
      ]

  -- ---- what is taken

  all_anything : (n : ℕ) → AllClosed (replicate n anything)
  all_anything zero = tt
  all_anything (suc n) = (anything_closed place.program, all_anything n)

  heap_closed : (what : Heap) → AllClosed (heap_takes place what)
  heap_closed heap.Constant = tt
  heap_closed (heap.ReadItem item) = (array_closed place.program order item, (number_closed place.program, tt))
  heap_closed (heap.WriteItem item) = (array_closed place.program order item, (number_closed place.program, (item_closed place.program order item, tt)))
  heap_closed (heap.Divide remainder) = (number_closed place.program, (number_closed place.program, tt))
  heap_closed heap.ReadStatic = tt
  heap_closed heap.WriteStatic = (described_closed place.program order (desc_referred place), tt)
  heap_closed heap.ReadField = (class_closed place.program order (class_referred place), tt)
  heap_closed heap.WriteField = (written_closed, (described_closed place.program order (desc_referred place), tt))
  heap_closed (heap.Call how) = call_closed how
  heap_closed heap.New = tt
  heap_closed (heap.NewArray kind) = (number_closed place.program, tt)
  heap_closed heap.NewArrayOf = (number_closed place.program, tt)
  heap_closed heap.Length = (array_type_closed place.program order, tt)
  heap_closed heap.Throw = (class_closed place.program order _, tt)
  heap_closed heap.Cast = (made_closed place.program, tt)
  heap_closed heap.IsInstance = (made_closed place.program, tt)
  heap_closed heap.Enter = (made_closed place.program, tt)
  heap_closed heap.Exit = (made_closed place.program, tt)
  heap_closed (heap.Return None) = tt
  heap_closed (heap.Return (Some kind)) = (result_closed, tt)

  pub takes_closed : (shape : Shape) → AllClosed (takes_of place shape)
  takes_closed shapes.Nothing = tt
  takes_closed (shapes.Push n) = tt
  takes_closed shapes.PushNull = tt
  takes_closed (shapes.Load kind slot) = tt
  takes_closed (shapes.Store kind slot) = (kind_closed place.program kind, tt)
  takes_closed (shapes.Move form) = all_anything (depth_of form)
  takes_closed (shapes.Two op) = (number_closed place.program, (number_closed place.program, tt))
  takes_closed (shapes.One op) = (number_closed place.program, tt)
  takes_closed (shapes.Increment slot by) = tt
  takes_closed (shapes.Test relation to) = (number_closed place.program, tt)
  takes_closed (shapes.Compare relation to) = (number_closed place.program, (number_closed place.program, tt))
  takes_closed (shapes.CompareReferences same to) = (made_closed place.program, (made_closed place.program, tt))
  takes_closed (shapes.TestNull null to) = (made_closed place.program, tt)
  takes_closed (shapes.Goto to) = tt
  takes_closed shapes.Switch = (number_closed place.program, tt)
  takes_closed (shapes.Heap what) = heap_closed what

  pub met_below : (wants : List Want) → AllClosed wants → (from to : List VType) → StackBelow place.program from to → all_met wants to ≡ true → all_met wants from ≡ true
  met_below [] closed [] [] e f = refl
  met_below [] closed [] (u ∷ to) e f = absurd cc
  met_below [] closed (t ∷ from) [] e f = absurd cc
  met_below [] closed (t ∷ from) (u ∷ to) e f = absurd cc
  met_below (want ∷ wants) closed [] [] e f = absurd cc
  met_below (want ∷ wants) closed [] (u ∷ to) e f = absurd cc
  met_below (want ∷ wants) closed (t ∷ from) [] e f = absurd cc
  met_below (want ∷ wants) closed (t ∷ from) (u ∷ to) e f =
      let h = and_parts _ _ e in
      let k = and_parts (want u) (all_met wants to) f in
      both _ _ (closed.0 t u h.0 k.0) (met_below wants closed.1 from to h.1 k.1)
