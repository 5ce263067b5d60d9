-- What an instruction pushes and changes is what it pushes and changes elsewhere, renamed.
use Rattle.std.proofs.Common.{◌≡◌, ℕ, zero, suc, ◌-◌, Bool, true, false, cond, List, [], ◌∷◌, ◌++◌, length, map, take, drop, reverse, Option, Some, None, refl, sym, ap, ◌∙◌, inl, inr}
use Rattle.std.specs.Prelude.{◌==◌, bytes_eq, codes}
use Rattle.std.specs.Option.{option_map_or}
use Rattle.std.proofs.lemmas.Bool.{cases_eq, eq-eqb, ne_eqb}
use Rattle.std.proofs.lemmas.List.{map-append, length-map}
use Rattle.cert_format.specs.declared.typing.VType.{VType}
use Rattle.cert_format.specs.declared.typing.VType.TheVariants as types
use Rattle.insn_codec.specs.declared.shape.Heap.{Heap}
use Rattle.insn_codec.specs.declared.shape.Heap.TheVariants as heap
use Rattle.insn_codec.specs.declared.shape.Item.{Item}
use Rattle.insn_codec.specs.declared.shape.Item.TheVariants as items
use Rattle.insn_codec.specs.declared.shape.Shape.{Shape}
use Rattle.insn_codec.specs.declared.shape.Shape.TheVariants as shapes
use Rattle.insn_codec.specs.Forms.{depth_of, order_of}
use Rattle.insn_codec.specs.Shapes.{shape_of}
use Rattle.bytecode_model.specs.declared.program.Target.{Target}
use Rattle.bytecode_model.specs.declared.program.Target.TheVariants as target
use Rattle.bytecode_model.specs.Described.{type_described, result_type, result_text}
use Rattle.bytecode_model.specs.Makes.{type_at, moved_from, constant_type, item_type, read_type, call_yields, heap_yields, yields_of, yields, class_made, is_same_object, when_made, when_new, when_called, changed_by, changed, stores, local_after, topmost, below, stack_after}
use Rattle.bytecode_model.specs.InsnPlace.{InsnPlace, desc_referred, calls_maker}
use Rattle.woven_typing.specs.Renaming.{renamed}
use Rattle.woven_typing.proofs.Kept.{IsKept, retargeted, same_class, same_desc, described_stays, type_renamed}
use Rattle.woven_typing.proofs.Taking.{same_maker}

module _ (moved : ℕ → ℕ) (p q : InsnPlace) (kept : IsKept moved p q) where
  abbrev new : VType → VType
  new t = renamed moved t

  -- ---- what is pushed

  form_moved : (depth : ℕ) (taken : List VType) (order : List ℕ) → map (moved_from depth (map new taken)) order ≡ map new (map (moved_from depth taken) order)
  form_moved depth taken [] = refl
  form_moved depth taken (i ∷ order) = rw (type_renamed moved taken (depth - 1 - i), form_moved depth taken order) refl

  constant_stays : (t : Target) → new (constant_type t) ≡ constant_type t
  constant_stays target.None = refl
  constant_stays (target.ApiMethod i) = refl
  constant_stays (target.Builtin i) = refl
  constant_stays (target.Method c m) = refl
  constant_stays (target.Field c f) = refl
  constant_stays (target.ApiField i) = refl
  constant_stays (target.ClassName name) = refl
  constant_stays (target.Number n) = refl
  constant_stays (target.Literal i) = refl

  item_renamed : (t : VType) → item_type (new t) ≡ new (item_type t)
  item_renamed types.Top = refl
  item_renamed types.Int = refl
  item_renamed types.Null = refl
  item_renamed (types.Ref []) = refl
  item_renamed (types.Ref (b ∷ item)) = sym (described_stays moved item)
  item_renamed types.UninitThis = refl
  item_renamed (types.Uninit i) = refl

  read_renamed : (item : Item) (taken : List VType) → read_type item (map new taken) ≡ new (read_type item taken)
  read_renamed items.Int taken = refl
  read_renamed items.Reference taken = ap item_type (type_renamed moved taken 0) ∙ item_renamed (type_at taken 0)
  read_renamed items.Byte taken = refl
  read_renamed items.Char taken = refl
  read_renamed items.Short taken = refl

  result_stays : (b : Bool) (d : List ℕ) → call_yields (cond b None (Some (type_described d))) ≡ map new (call_yields (cond b None (Some (type_described d))))
  result_stays true d = refl
  result_stays false d = ap (λ (t : VType). t ∷ []) (sym (described_stays moved d))

  one : (a b : VType) → a ≡ b → a ∷ [] ≡ b ∷ []
  one a b e = ap (λ (t : VType). t ∷ []) e

  described_one : type_described (desc_referred q) ≡ new (type_described (desc_referred p))
  described_one = ap type_described (same_desc moved p q kept) ∙ sym (described_stays moved (desc_referred p))

  call_pushes : call_yields (result_type (desc_referred q)) ≡ map new (call_yields (result_type (desc_referred p)))
  call_pushes =
      ap (λ (d : List ℕ). call_yields (result_type d)) (same_desc moved p q kept)
      ∙ result_stays (bytes_eq (result_text (desc_referred p)) (codes "V")) (result_text (desc_referred p))

  heap_pushes : (taken : List VType) (what : Heap) → shape_of p.insn ≡ shapes.Heap what → heap_yields q (map new taken) what ≡ map new (heap_yields p taken what)
  heap_pushes taken heap.Constant is = one _ _ (ap constant_type kept.ref ∙ sym (constant_stays p.ref))
  heap_pushes taken (heap.ReadItem item) is = one _ _ (read_renamed item taken)
  heap_pushes taken (heap.WriteItem item) is = refl
  heap_pushes taken (heap.Divide remainder) is = refl
  heap_pushes taken heap.ReadStatic is = one _ _ described_one
  heap_pushes taken heap.WriteStatic is = refl
  heap_pushes taken heap.ReadField is = one _ _ described_one
  heap_pushes taken heap.WriteField is = refl
  heap_pushes taken (heap.Call how) is = call_pushes
  heap_pushes taken heap.New is = one _ _ (ap (λ (i : ℕ). types.Uninit i) (kept.at is))
  heap_pushes taken (heap.NewArray kind) is = refl
  heap_pushes taken heap.NewArrayOf is = rw (kept.ref) refl
  heap_pushes taken heap.Length is = refl
  heap_pushes taken heap.Throw is = refl
  heap_pushes taken heap.Cast is = rw (kept.ref) refl
  heap_pushes taken heap.IsInstance is = refl
  heap_pushes taken heap.Enter is = refl
  heap_pushes taken heap.Exit is = refl
  heap_pushes taken (heap.Return kind) is = refl

  shape_pushes : (to : ℕ → ℕ) (locals taken : List VType) (shape : Shape) → shape_of p.insn ≡ shape → yields_of q (map new locals) (map new taken) (retargeted to shape) ≡ map new (yields_of p locals taken shape)
  shape_pushes to locals taken shapes.Nothing is = refl
  shape_pushes to locals taken (shapes.Push n) is = refl
  shape_pushes to locals taken shapes.PushNull is = refl
  shape_pushes to locals taken (shapes.Load k slot) is = one _ _ (type_renamed moved locals slot)
  shape_pushes to locals taken (shapes.Store k slot) is = refl
  shape_pushes to locals taken (shapes.Move form) is = form_moved (depth_of form) taken (reverse (order_of form))
  shape_pushes to locals taken (shapes.Two op) is = refl
  shape_pushes to locals taken (shapes.One op) is = refl
  shape_pushes to locals taken (shapes.Increment slot by) is = refl
  shape_pushes to locals taken (shapes.Test relation from) is = refl
  shape_pushes to locals taken (shapes.Compare relation from) is = refl
  shape_pushes to locals taken (shapes.CompareReferences same from) is = refl
  shape_pushes to locals taken (shapes.TestNull null from) is = refl
  shape_pushes to locals taken (shapes.Goto from) is = refl
  shape_pushes to locals taken shapes.Switch is = refl
  shape_pushes to locals taken (shapes.Heap what) is = heap_pushes taken what is

  pub pushes : (locals taken : List VType) → yields q (map new locals) (map new taken) ≡ map new (yields p locals taken)
  pushes locals taken =
      ap (λ (s : Shape). yields_of q (map new locals) (map new taken) s) kept.shape ∙ shape_pushes kept.to locals taken (shape_of p.insn) refl

  -- ---- what is changed

  same_index : (i j : ℕ) → (moved i == moved j) ≡ (i == j)
  same_index i j =
      elim (cases_eq i j) [
        | inl same ↦ rw same (eq-eqb (moved j) (moved j) refl ∙ sym (eq-eqb j j refl))
        | inr other ↦ ne_eqb (moved i) (moved j) (λ e. other (kept.once i j e)) ∙ sym (ne_eqb i j other)
      ]

  pub same_object : (t u : VType) → is_same_object (new t) (new u) ≡ is_same_object t u
  same_object types.UninitThis types.UninitThis = refl
  same_object (types.Uninit i) (types.Uninit j) = same_index i j
  same_object types.UninitThis types.Top = refl
  same_object types.UninitThis types.Int = refl
  same_object types.UninitThis types.Null = refl
  same_object types.UninitThis (types.Ref name) = refl
  same_object types.UninitThis (types.Uninit j) = refl
  same_object (types.Uninit i) types.Top = refl
  same_object (types.Uninit i) types.Int = refl
  same_object (types.Uninit i) types.Null = refl
  same_object (types.Uninit i) (types.Ref name) = refl
  same_object (types.Uninit i) types.UninitThis = refl
  same_object types.Top u = refl
  same_object types.Int u = refl
  same_object types.Null u = refl
  same_object (types.Ref name) u = refl

  pub made_same : (t : VType) → class_made q (new t) ≡ class_made p t
  made_same types.UninitThis = rw (same_class moved p q kept, kept.class, kept.parent) refl
  made_same (types.Uninit i) = rw (same_class moved p q kept, kept.news i) refl
  made_same types.Top = refl
  made_same types.Int = refl
  made_same types.Null = refl
  made_same (types.Ref name) = refl

  or_itself : (o : Option (List ℕ)) (t : VType) → option_map_or (λ (class : List ℕ). types.Ref class) o (new t) ≡ new (option_map_or (λ (class : List ℕ). types.Ref class) o t)
  or_itself None t = refl
  or_itself (Some class) t = refl

  choice_renamed : (b : Bool) (x y : VType) → cond b (new x) (new y) ≡ new (cond b x y)
  choice_renamed true x y = refl
  choice_renamed false x y = refl

  made_renamed : (r t : VType) → when_made q (new r) (new t) ≡ new (when_made p r t)
  made_renamed r t =
      ap (λ (b : Bool). cond b (option_map_or (λ (class : List ℕ). types.Ref class) (class_made q (new r)) (new t)) (new t)) (same_object r t)
      ∙ ap (λ (x : VType). cond (is_same_object r t) x (new t))
      (ap (λ (o : Option (List ℕ)). option_map_or (λ (class : List ℕ). types.Ref class) o (new t)) (made_same r) ∙ or_itself (class_made p r) t)
      ∙ choice_renamed (is_same_object r t) _ t

  new_renamed : q.at ≡ moved p.at → (t : VType) → when_new q.at (new t) ≡ new (when_new p.at t)
  new_renamed at t =
      ap (λ (i : ℕ). when_new i (new t)) at
      ∙ ap (λ (b : Bool). cond b types.Top (new t)) (same_object (types.Uninit p.at) t)
      ∙ choice_renamed (is_same_object (types.Uninit p.at) t) types.Top t

  called_renamed : (taken : List VType) (t : VType) → when_called q (map new taken) (new t) ≡ new (when_called p taken t)
  called_renamed taken t =
      ap (λ (b : Bool). cond b (when_made q (type_at (map new taken) 0) (new t)) (new t)) (same_maker moved p q kept)
      ∙ ap (λ (x : VType). cond (calls_maker p) x (new t))
      (ap (λ (r : VType). when_made q r (new t)) (type_renamed moved taken 0) ∙ made_renamed (type_at taken 0) t)
      ∙ choice_renamed (calls_maker p) _ t

  heap_changes : (taken : List VType) (t : VType) (what : Heap) → shape_of p.insn ≡ shapes.Heap what → changed_by q (map new taken) (shapes.Heap what) (new t) ≡ new (changed_by p taken (shapes.Heap what) t)
  heap_changes taken t heap.New is = new_renamed (kept.at is) t
  heap_changes taken t (heap.Call how) is = called_renamed taken t
  heap_changes taken t heap.Constant is = refl
  heap_changes taken t (heap.ReadItem item) is = refl
  heap_changes taken t (heap.WriteItem item) is = refl
  heap_changes taken t (heap.Divide remainder) is = refl
  heap_changes taken t heap.ReadStatic is = refl
  heap_changes taken t heap.WriteStatic is = refl
  heap_changes taken t heap.ReadField is = refl
  heap_changes taken t heap.WriteField is = refl
  heap_changes taken t (heap.NewArray kind) is = refl
  heap_changes taken t heap.NewArrayOf is = refl
  heap_changes taken t heap.Length is = refl
  heap_changes taken t heap.Throw is = refl
  heap_changes taken t heap.Cast is = refl
  heap_changes taken t heap.IsInstance is = refl
  heap_changes taken t heap.Enter is = refl
  heap_changes taken t heap.Exit is = refl
  heap_changes taken t (heap.Return kind) is = refl

  shape_changes : (to : ℕ → ℕ) (taken : List VType) (t : VType) (shape : Shape) → shape_of p.insn ≡ shape → changed_by q (map new taken) (retargeted to shape) (new t) ≡ new (changed_by p taken shape t)
  shape_changes to taken t (shapes.Heap what) is = heap_changes taken t what is
  shape_changes to taken t shapes.Nothing is = refl
  shape_changes to taken t (shapes.Push n) is = refl
  shape_changes to taken t shapes.PushNull is = refl
  shape_changes to taken t (shapes.Load k slot) is = refl
  shape_changes to taken t (shapes.Store k slot) is = refl
  shape_changes to taken t (shapes.Move form) is = refl
  shape_changes to taken t (shapes.Two op) is = refl
  shape_changes to taken t (shapes.One op) is = refl
  shape_changes to taken t (shapes.Increment slot by) is = refl
  shape_changes to taken t (shapes.Test relation from) is = refl
  shape_changes to taken t (shapes.Compare relation from) is = refl
  shape_changes to taken t (shapes.CompareReferences same from) is = refl
  shape_changes to taken t (shapes.TestNull null from) is = refl
  shape_changes to taken t (shapes.Goto from) is = refl
  shape_changes to taken t shapes.Switch is = refl

  changes : (taken : List VType) (t : VType) → changed q (map new taken) (new t) ≡ new (changed p taken t)
  changes taken t = ap (λ (s : Shape). changed_by q (map new taken) s (new t)) kept.shape ∙ shape_changes kept.to taken t (shape_of p.insn) refl

  all_change : (taken ts : List VType) → map (changed q (map new taken)) (map new ts) ≡ map new (map (changed p taken) ts)
  all_change taken [] = refl
  all_change taken (t ∷ ts) = rw (changes taken t, all_change taken ts) refl

  -- ---- afterwards

  stores_same : (to : ℕ → ℕ) (shape : Shape) (j : ℕ) → stores (retargeted to shape) j ≡ stores shape j
  stores_same to (shapes.Heap what) j = refl
  stores_same to shapes.Nothing j = refl
  stores_same to (shapes.Push n) j = refl
  stores_same to shapes.PushNull j = refl
  stores_same to (shapes.Load k slot) j = refl
  stores_same to (shapes.Store k slot) j = refl
  stores_same to (shapes.Move form) j = refl
  stores_same to (shapes.Two op) j = refl
  stores_same to (shapes.One op) j = refl
  stores_same to (shapes.Increment slot by) j = refl
  stores_same to (shapes.Test relation from) j = refl
  stores_same to (shapes.Compare relation from) j = refl
  stores_same to (shapes.CompareReferences same from) j = refl
  stores_same to (shapes.TestNull null from) j = refl
  stores_same to (shapes.Goto from) j = refl
  stores_same to shapes.Switch j = refl

  same_stores : (j : ℕ) → stores (shape_of q.insn) j ≡ stores (shape_of p.insn) j
  same_stores j = ap (λ (s : Shape). stores s j) kept.shape ∙ stores_same kept.to (shape_of p.insn) j

  pub local_left : (locals taken : List VType) (j : ℕ) → local_after q (map new locals) (map new taken) j ≡ new (local_after p locals taken j)
  local_left locals taken j =
      ap (λ (b : Bool). cond b (type_at (map new taken) 0) (changed q (map new taken) (type_at (map new locals) j))) (same_stores j)
      ∙ ap (λ (x : VType). cond (stores (shape_of p.insn) j) x (changed q (map new taken) (type_at (map new locals) j))) (type_renamed moved taken 0)
      ∙ ap (λ (x : VType). cond (stores (shape_of p.insn) j) (new (type_at taken 0)) x)
      (ap (changed q (map new taken)) (type_renamed moved locals j) ∙ changes taken (type_at locals j))
      ∙ choice_renamed (stores (shape_of p.insn) j) (type_at taken 0) (changed p taken (type_at locals j))

  map_drop : (n : ℕ) (xs : List VType) → drop n (map new xs) ≡ map new (drop n xs)
  map_drop zero xs = refl
  map_drop (suc n) [] = refl
  map_drop (suc n) (x ∷ xs) = map_drop n xs

  map_take : (n : ℕ) (xs : List VType) → take n (map new xs) ≡ map new (take n xs)
  map_take zero xs = refl
  map_take (suc n) [] = refl
  map_take (suc n) (x ∷ xs) = ap (λ (ys : List VType). new x ∷ ys) (map_take n xs)

  pub topmost_renamed : (n : ℕ) (stack : List VType) → topmost n (map new stack) ≡ map new (topmost n stack)
  topmost_renamed n stack = ap (λ (m : ℕ). drop (m - n) (map new stack)) (length-map stack new) ∙ map_drop (length stack - n) stack

  below_renamed : (n : ℕ) (stack : List VType) → below n (map new stack) ≡ map new (below n stack)
  below_renamed n stack = ap (λ (m : ℕ). take (m - n) (map new stack)) (length-map stack new) ∙ map_take (length stack - n) stack

  pub stack_left : (locals : List VType) (n : ℕ) (stack : List VType) → stack_after q (map new locals) n (map new stack) ≡ map new (stack_after p locals n stack)
  stack_left locals n stack =
      ap (λ (top : List VType). map (changed q top) (below n (map new stack)) ++ yields q (map new locals) top) (topmost_renamed n stack)
      ∙ ap (λ (b : List VType). map (changed q (map new (topmost n stack))) b ++ yields q (map new locals) (map new (topmost n stack))) (below_renamed n stack)
      ∙ ap (λ (xs : List VType). xs ++ yields q (map new locals) (map new (topmost n stack))) (all_change (topmost n stack) (below n stack))
      ∙ ap (λ (ys : List VType). map new (map (changed p (topmost n stack)) (below n stack)) ++ ys) (pushes locals (topmost n stack))
      ∙ sym (map-append new (map (changed p (topmost n stack)) (below n stack)) (yields p locals (topmost n stack)))
