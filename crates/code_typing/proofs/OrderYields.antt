-- What is pushed of a lower frame is below what is pushed of a higher one.
use Rattle.std.proofs.Common.{◌≡◌, ℕ, ◌-◌, Bool, true, false, cond, List, [], ◌∷◌, length, take, reverse, Option, Some, None, refl, sym, ap, subst, ◌∙◌, inl, inr}
use Rattle.std.specs.Prelude.{◌==◌, ◌&&◌, codes}
use Rattle.std.proofs.lemmas.Bool.{and_parts, cases_Bool, eqb-true, false≢true}
use Rattle.cert_format.specs.declared.typing.VType.{VType}
use Rattle.cert_format.specs.declared.typing.VType.TheVariants as types
use Rattle.insn_codec.specs.declared.forms.StackForm.{StackForm}
use Rattle.insn_codec.specs.declared.shape.Heap.{Heap}
use Rattle.insn_codec.specs.declared.shape.Heap.TheVariants as heap
use Rattle.insn_codec.specs.declared.shape.Item.{Item}
use Rattle.insn_codec.specs.declared.shape.Item.TheVariants as items
use Rattle.insn_codec.specs.declared.shape.Shape.{Shape}
use Rattle.insn_codec.specs.declared.shape.Shape.TheVariants as shapes
use Rattle.insn_codec.specs.Forms.{depth_of, order_of}
use Rattle.bytecode_model.specs.declared.program.Program.{Program}
use Rattle.bytecode_model.specs.Arrays.{is_array}
use Rattle.bytecode_model.specs.Assigning.{assignable, named, class_name, reference_of, class_fits, component_fits, array_fits, name_fits}
use Rattle.bytecode_model.specs.Order.{IsInOrder}
use Rattle.type_lattice.proofs.Orders.{Leaf, same, classes, itself, seen, array_equal, leaf_seen, at_leaf, named_told, array_told, never_both}
use Rattle.bytecode_model.proofs.Upwards.{either_of, both_of, or_first, or_second}
use Rattle.bytecode_model.specs.Described.{type_described}
use Rattle.bytecode_model.specs.Makes.{type_at, moved_from, form_yields, item_type, read_type, heap_yields, yields_of}
use Rattle.code_typing.specs.Order.{StackBelow, LocalsBelow}
use Rattle.bytecode_model.specs.InsnPlace.{InsnPlace}
use Rattle.bytecode_model.specs.Wants.{Want, to_array, is_number, takes_of, all_met}
use Rattle.frame_types.proofs.Choices.{some_is}
use Rattle.code_typing.proofs.OrderLists.{both, stack_itself, at_below, places_below}
use Rattle.code_typing.proofs.OrderWants.{array_under}

-- ---- the items of an array of references

some_name : (name x : List ℕ) → class_name name ≡ Some x → name ≡ x
some_name name x e =
    elim (cases_Bool (is_array name)) [
      | inl is ↦ let h : ◌≡◌ {A = Option (List ℕ)} None (Some x) = rw is at e in absurd cc
      | inr apart ↦ let h : ◌≡◌ {A = Option (List ℕ)} (Some name) (Some x) = rw apart at e in some_is name x h
    ]

chosen : (a b : Bool) (v : Option (List ℕ)) (x : List ℕ) → cond (a && b) v None ≡ Some x → (a ≡ true) × (v ≡ Some x)
chosen true true v x e = (refl, e)
chosen true false v x e = absurd cc
chosen false b v x e = absurd cc

named_type : (b : ℕ) (rest x : List ℕ) → named (b ∷ rest) ≡ Some x → (b ≡ 76) × (take (length rest - 1) rest ≡ x)
named_type b rest x e =
    let h = chosen (b == 76) _ (class_name (take (length rest - 1) rest)) x e in
    (eqb-true b 76 h.0, some_name _ x h.1)

-- the type of a component that is a reference
reference_type : (component x : List ℕ) → reference_of component ≡ Some x → type_described component ≡ types.Ref x
reference_type [] x e = absurd cc
reference_type (b ∷ rest) x e =
    elim (cases_Bool (b == 91)) [
      | inl is ↦
          let h : ◌≡◌ {A = Option (List ℕ)} (Some (b ∷ rest)) (Some x) = rw is at e in
          rw is (ap types.Ref (some_is (b ∷ rest) x h))
      | inr apart ↦
          let h : named (b ∷ rest) ≡ Some x = rw apart at e in
          let k = named_type b rest x h in
          rw k.0 (ap types.Ref k.1)
    ]

module _ (program : Program) (order : IsInOrder program) where
  abbrev objects : List ℕ
  objects = codes "[Ljava/lang/Object;"

  abbrev object_item : List ℕ
  object_item = codes "Ljava/lang/Object;"

  item_of : (item : List ℕ) → Leaf program item object_item → (x : List ℕ) × (reference_of item ≡ Some x)
  item_of item (same e) = (codes "java/lang/Object", ap reference_of e)
  item_of item (classes below above e f g) = (below, e)

  -- an array of references
  items_of : (name : List ℕ) → name_fits program name objects ≡ true → (item x : List ℕ) × (name ≡ 91 ∷ item) × (reference_of item ≡ Some x)
  items_of [] e = absurd (false≢true (array_under program order [] objects e refl))
  items_of (c ∷ item) e =
      elim (either_of (class_fits program (c ∷ item) objects) _ e) [
        | inl fits ↦ (object_item, codes "java/lang/Object", array_equal program order (c ∷ item) objects refl (seen program (c ∷ item) objects fits), refl)
        | inr fits ↦
            let h = both_of (c == 91) _ fits in
            let leaf = leaf_seen program order item object_item (sym (at_leaf program order item object_item (never_both program order _ _ refl)) ∙ h.1) in
            let there = item_of item leaf in
            (item, there.0, ap (λ (n : ℕ). n ∷ item) (eqb-true c 91 h.0), there.1)
      ]

  -- ---- a component below one that is a reference

  leaf_below : (a b y : List ℕ) → Leaf program a b → reference_of b ≡ Some y → (x : List ℕ) × (reference_of a ≡ Some x) × (name_fits program x y ≡ true)
  leaf_below a b y (same e) f = (y, ap reference_of e ∙ f, itself program (types.Ref y))
  leaf_below a b y (classes lower upper e f g) h =
      let one : upper ≡ y = some_is upper y (sym (named_told program order b upper f) ∙ h) in
      (lower, e, or_first _ _ (subst (λ (n : List ℕ). class_fits program lower n ≡ true) one g))

  arrays_below : (a b : List ℕ) → (is_array a && is_array b) ≡ true → component_fits program a b ≡ true → array_fits program a b ≡ true
  arrays_below [] b is e = absurd cc
  arrays_below (c ∷ a) [] is e = absurd cc
  arrays_below (c ∷ a) (d ∷ b) is e =
      let h = and_parts (c == 91) (d == 91) is in
      let inner : component_fits program a b ≡ true = rw is at e in
      rw (h.0, h.1) inner

  component_below : (a b y : List ℕ) → component_fits program a b ≡ true → reference_of b ≡ Some y → (x : List ℕ) × (reference_of a ≡ Some x) × (name_fits program x y ≡ true)
  component_below a b y e f =
      elim (cases_Bool (is_array a && is_array b)) [
        | inl is ↦
            let h = and_parts (is_array a) (is_array b) is in
            let one : b ≡ y = some_is b y (sym (array_told program order b h.1) ∙ f) in
            (a, array_told program order a h.0, subst (λ (n : List ℕ). name_fits program a n ≡ true) one (or_second _ _ (arrays_below a b is e)))
        | inr apart ↦ leaf_below a b y (leaf_seen program order a b (sym (at_leaf program order a b apart) ∙ e)) f
      ]

  -- ---- the type of an item

  array_below : (a item y : List ℕ) → reference_of item ≡ Some y → name_fits program a (91 ∷ item) ≡ true → assignable program (item_type (types.Ref a)) (types.Ref y) ≡ true
  array_below [] item y e f = absurd (false≢true (array_under program order [] (91 ∷ item) f refl))
  array_below (c ∷ a) item y e f =
      elim (either_of (class_fits program (c ∷ a) (91 ∷ item)) _ f) [
        | inl fits ↦
            let one : c ∷ a ≡ 91 ∷ item = array_equal program order (c ∷ a) (91 ∷ item) refl (seen program (c ∷ a) (91 ∷ item) fits) in
            let type : item_type (types.Ref (c ∷ a)) ≡ types.Ref y = ap (λ (n : List ℕ). item_type (types.Ref n)) one ∙ reference_type item y e in
            subst (λ (t : VType). assignable program t (types.Ref y) ≡ true) (sym type) (itself program (types.Ref y))
        | inr fits ↦
            let lower = component_below a item y (both_of (c == 91) _ fits).1 e in
            subst (λ (t : VType). assignable program t (types.Ref y) ≡ true) (sym (reference_type a lower.0 lower.1)) lower.2
      ]

  item_at : (t : VType) (item y : List ℕ) → reference_of item ≡ Some y → assignable program t (types.Ref (91 ∷ item)) ≡ true → assignable program (item_type t) (types.Ref y) ≡ true
  item_at types.Null item y e f = refl
  item_at (types.Ref a) item y e f = array_below a item y e f
  item_at t item y e f = absurd cc

  null_item : (t : VType) → assignable program t types.Null ≡ true → assignable program (item_type t) types.Null ≡ true
  null_item types.Null e = refl
  null_item t e = absurd cc

  item_below : (t u : VType) → assignable program t u ≡ true → to_array program items.Reference u ≡ true → assignable program (item_type t) (item_type u) ≡ true
  item_below t types.Null e f = null_item t e
  item_below t (types.Ref b) e f =
      let h = items_of b f in
      let array : assignable program t (types.Ref (91 ∷ h.0)) ≡ true = subst (λ (n : List ℕ). assignable program t (types.Ref n) ≡ true) h.2 e in
      let type : item_type (types.Ref b) ≡ types.Ref h.1 = ap (λ (n : List ℕ). item_type (types.Ref n)) h.2 ∙ reference_type h.0 h.1 h.3 in
      subst (λ (u : VType). assignable program (item_type t) u ≡ true) (sym type) (item_at t h.0 h.1 h.3 array)
  item_below t u e f = absurd cc

  read_below : (item : Item) (low high : List VType) → StackBelow program low high → to_array program item (type_at high 0) ≡ true
      → assignable program (read_type item low) (read_type item high) ≡ true
  read_below items.Reference low high e f = item_below (type_at low 0) (type_at high 0) (at_below program low high e 0) f
  read_below items.Int low high e f = refl
  read_below items.Byte low high e f = refl
  read_below items.Char low high e f = refl
  read_below items.Short low high e f = refl

-- the first is what is wanted
first_met : (want : Want) (wants : List Want) (list : List VType) → all_met (want ∷ wants) list ≡ true → want (type_at list 0) ≡ true
first_met want wants [] e = absurd cc
first_met want wants (t ∷ list) e = (and_parts _ _ e).0

module _ (place : InsnPlace) (order : IsInOrder place.program) (low high : List VType) (under : StackBelow place.program low high) where
  moved_below : (form : StackForm) → StackBelow place.program (form_yields form low) (form_yields form high)
  moved_below form =
      places_below place.program (moved_from (depth_of form) low) (moved_from (depth_of form) high)
      (λ i. at_below place.program low high under (depth_of form - 1 - i)) (reverse (order_of form))

  heap_below : (what : Heap) → all_met (takes_of place (shapes.Heap what)) high ≡ true → StackBelow place.program (heap_yields place low what) (heap_yields place high what)
  heap_below (heap.ReadItem item) e = both _ _ (read_below place.program order item low high under (first_met (to_array place.program item) (is_number ∷ []) high e)) refl
  heap_below what e = stack_itself place.program (heap_yields place high what)

  pub yields_below : (shape : Shape) (found others : List VType) → LocalsBelow place.program (type_at found) (type_at others) → all_met (takes_of place shape) high ≡ true
      → StackBelow place.program (yields_of place found low shape) (yields_of place others high shape)
  yields_below (shapes.Load kind slot) found others e f = both _ _ (e slot) refl
  yields_below (shapes.Move form) found others e f = moved_below form
  yields_below (shapes.Heap what) found others e f = heap_below what f
  yields_below shape found others e f = stack_itself place.program (yields_of place others high shape)
