-- What both types are assignable to, their merge is assignable to.
use Rattle.std.proofs.Common.{◌≡◌, ℕ, Bool, true, false, cond, List, [], ◌∷◌, ◌++◌, ◌⊎◌, length, Option, Some, None, refl, sym, ap, subst, ◌∙◌, inl, inr}
use Rattle.std.specs.Prelude.{bytes_eq, find, ◌==◌, ◌||◌, ◌&&◌}
use Rattle.std.specs.Option.{option_map_or}
use Rattle.std.proofs.lemmas.Bool.{cases_Bool, eq-eqb, eqb-true, false≢true}
use Rattle.api_listing.specs.declared.types.ListedClass.{ListedClass}
use Rattle.api_listing.specs.BuiltIn.{object}
use Rattle.api_listing.specs.Nearest.{upwards}
use Rattle.bytecode_model.specs.declared.program.Program.{Program}
use Rattle.cert_format.specs.declared.typing.VType.{VType}
use Rattle.cert_format.specs.declared.typing.VType.TheVariants as types
use Rattle.bytecode_model.specs.Arrays.{is_array}
use Rattle.bytecode_model.specs.Assigning.{named, reference_of, class_fits, component_fits, array_fits, name_fits, assignable}
use Rattle.bytecode_model.specs.Classes.{classes_of, is_below, is_interface}
use Rattle.bytecode_model.specs.Order.{IsInOrder}
use Rattle.bytecode_model.specs.Arrays.{described, array_of}
use Rattle.type_lattice.specs.Merging.{class_above, leaf_merged, items_merged, arrays_merged, names_merged, merged}
use Rattle.type_lattice.proofs.Arrays.{class_itself, component_itself, named_described}
use Rattle.type_lattice.proofs.Bounds.{pick, found_one, is_apart, leaf_apart, same_array}
use Rattle.bytecode_model.proofs.Upwards.{none_up, both_of, either_of, or_first, or_second, first_under, one_first}
use Rattle.type_lattice.proofs.Orders.{Fit, equal, top, interface, under, Leaf, same, classes, seen, fits, leaf_is, leaf_seen, at_leaf, never_both, named_apart, named_told, array_told, class_apart, array_equal, array_second, from_array, to_any}
use Rattle.bytecode_model.proofs.Upwards.{of_same, same_of}

module _ (program : Program) (order : IsInOrder program) where
  -- ---- classes

  abbrev fuel : ℕ
  fuel = length (classes_of program)

  abbrev all : List ListedClass
  all = classes_of program

  -- what Object is assignable to, each is
  abbrev Widest : List ℕ → Type 0
  Widest v = (v ≡ object) ⊎ (is_interface program v ≡ true)

  under_interface : (a v : List ℕ) → is_interface program a ≡ true → is_below program a v ≡ true → Widest v
  under_interface a v e f =
      elim (order.interfaces a v e f) [
        | inl is ↦ inr (subst (λ (x : List ℕ). is_interface program x ≡ true) (sym is) e)
        | inr is ↦ inl is
      ]

  name_apart : (test : ListedClass → Bool) (a : List ℕ) (c : ListedClass) → find test (upwards fuel all a) ≡ Some c → is_array c.name ≡ false
  name_apart test a c e = is_apart program order (is_array c.name) (λ is. none_up all fuel a c.name (order.no_arrays c.name is) (found_one test _ c e).1)

  -- a class that another is below is below itself
  below_itself : (a b : List ℕ) → is_below program a b ≡ true → (o : Option ListedClass) → find (λ (c : ListedClass). bytes_eq c.name b) (upwards fuel all a) ≡ o → is_below program b b ≡ true
  below_itself a b e None h = absurd (one_first all (λ (x : List ℕ). bytes_eq x b) _ b h (of_same b b refl) e)
  below_itself a b e (Some c) h =
      let here : c.name ≡ b = same_of c.name b (found_one (λ (k : ListedClass). bytes_eq k.name b) _ c h).0 in
      subst (λ (x : List ℕ). is_below program x b ≡ true) here (first_under all fuel (λ (x : List ℕ). bytes_eq x b) a b c h (of_same b b refl) e)

  found_least : (a b v : List ℕ) → is_below program a v ≡ true → is_below program b v ≡ true → (o : Option ListedClass)
      → find (λ (c : ListedClass). is_below program b c.name) (upwards fuel all a) ≡ o
      → class_fits program (option_map_or (λ (c : ListedClass). c.name) o object) v ≡ true
  found_least a b v e f None h = absurd (one_first all (is_below program b) _ v h f e)
  found_least a b v e f (Some c) h =
      fits program c.name v (under (name_apart (λ (k : ListedClass). is_below program b k.name) a c h) (first_under all fuel (is_below program b) a v c h f e))

  differ : (a b v : List ℕ) → bytes_eq a b ≡ false → a ≡ v → b ≡ v → ⊥
  differ a b v d e f = false≢true (sym d ∙ of_same a b (e ∙ sym f))

  two_classes : (a b v : List ℕ) → bytes_eq a b ≡ false → Fit program a v → Fit program b v → Widest v ⊎ (class_fits program (class_above program a b) v ≡ true)
  two_classes a b v d (top e) g = inl (inl e)
  two_classes a b v d (interface e) g = inl (inr e)
  two_classes a b v d f (top e) = inl (inl e)
  two_classes a b v d f (interface e) = inl (inr e)
  two_classes a b v d (equal e) (equal f) = absurd (differ a b v d e f)
  two_classes a b v d (equal e) (under f g) =
      let up : is_below program a v ≡ true = subst (λ (x : List ℕ). is_below program x v ≡ true) (sym e) (below_itself b v g _ refl) in
      inr (found_least a b v up g _ refl)
  two_classes a b v d (under f g) (equal e) =
      let up : is_below program b v ≡ true = subst (λ (x : List ℕ). is_below program x v ≡ true) (sym e) (below_itself a v g _ refl) in
      inr (found_least a b v g up _ refl)
  two_classes a b v d (under e f) (under g h) = inr (found_least a b v f h _ refl)

  array_widest : (a b v : List ℕ) → bytes_eq a b ≡ false → is_array a ≡ true → Fit program a v → Fit program b v → Widest v
  array_widest a b v d is (top e) g = inl e
  array_widest a b v d is (interface e) g = inr e
  array_widest a b v d is (under e f) g = absurd (false≢true (sym e ∙ is))
  array_widest a b v d is (equal e) g =
      let array : is_array v ≡ true = subst (λ (x : List ℕ). is_array x ≡ true) e is in
      absurd (differ a b v d e (array_equal program order b v array g))

  interface_widest : (a v : List ℕ) → is_interface program a ≡ true → Fit program a v → Widest v
  interface_widest a v is (top e) = inl e
  interface_widest a v is (interface e) = inr e
  interface_widest a v is (equal e) = inr (subst (λ (x : List ℕ). is_interface program x ≡ true) e is)
  interface_widest a v is (under e f) = under_interface a v is f

  either_skip : (a b v : List ℕ) → Widest v ⊎ (class_fits program (class_above program a b) v ≡ true) → class_fits program (class_above program a b) v ≡ true
  either_skip a b v (inl e) = to_any program order _ v e
  either_skip a b v (inr e) = e

  turned : (a b : List ℕ) → bytes_eq a b ≡ false → bytes_eq b a ≡ false
  turned a b d = is_apart program order (bytes_eq b a) (λ is. differ a b a d refl (same_of b a is))

  leaf_least : (a b v : List ℕ) → class_fits program a v ≡ true → class_fits program b v ≡ true → class_fits program (leaf_merged program a b) v ≡ true
  leaf_least a b v e f =
      let first = seen program a v e in
      let second = seen program b v f in
      pick (λ (m : List ℕ). class_fits program m v ≡ true) (bytes_eq a b) a _ (λ is. e)
      (λ d. pick (λ (m : List ℕ). class_fits program m v ≡ true) (is_array a || is_array b) object _
      (λ is. to_any program order object v (elim (either_of (is_array a) (is_array b) is) [
        | inl one ↦ array_widest a b v d one first second
        | inr two ↦ array_widest b a v (turned a b d) two second first
      ]))
      (λ none. pick (λ (m : List ℕ). class_fits program m v ≡ true) (is_interface program a || is_interface program b) object _
      (λ is. to_any program order object v (elim (either_of (is_interface program a) (is_interface program b) is) [
        | inl one ↦ interface_widest a v one first
        | inr two ↦ interface_widest b v two second
      ]))
      (λ neither. either_skip a b v (two_classes a b v d first second))))

  -- ---- items of arrays

  leaf_target : (a v : List ℕ) → is_array a ≡ false → Leaf program a v → is_array v ≡ false
  leaf_target a v e (same f) = subst (λ (x : List ℕ). is_array x ≡ false) f e
  leaf_target a v e (classes below above f g h) = named_apart program order v above g

  target_apart : (a v : List ℕ) → is_array a ≡ false → component_fits program a v ≡ true → is_array v ≡ false
  target_apart a v e f =
      let apart : (is_array a && is_array v) ≡ false = rw e refl in
      leaf_target a v e (leaf_seen program order a v (sym (at_leaf program order a v apart) ∙ f))

  -- what both items refer to, and the class that they fit
  abbrev Shared : List ℕ → List ℕ → List ℕ → Type 0
  Shared a b v =
      (x : List ℕ) × ((y : List ℕ) × ((z : List ℕ) × ((reference_of a ≡ Some x) × (reference_of b ≡ Some y) × (named v ≡ Some z) × (class_fits program x z ≡ true) × (class_fits program y z ≡ true))))

  one_of : (x y : List ℕ) → ◌≡◌ {A = Option (List ℕ)} (Some x) (Some y) → x ≡ y
  one_of x y e = cc

  share : (a b v : List ℕ) → bytes_eq a b ≡ false → Leaf program a v → Leaf program b v → Shared a b v
  share a b v d (same e) (same f) = absurd (differ a b v d e f)
  share a b v d (same e) (classes y z f g h) =
      let told : reference_of a ≡ Some z = subst (λ (x : List ℕ). reference_of x ≡ Some z) (sym e) (named_told program order v z g) in
      (z, (y, (z, (told, f, g, class_itself program z, h))))
  share a b v d (classes x z f g h) (same e) =
      let told : reference_of b ≡ Some z = subst (λ (k : List ℕ). reference_of k ≡ Some z) (sym e) (named_told program order v z g) in
      (x, (z, (z, (f, told, g, h, class_itself program z))))
  share a b v d (classes x z f g h) (classes y w i j k) =
      let one : w ≡ z = one_of w z (sym j ∙ g) in
      (x, (y, (z, (f, i, g, h, subst (λ (n : List ℕ). class_fits program y n ≡ true) one k))))

  described_fits : (m v z : List ℕ) → is_array m ≡ false → named v ≡ Some z → class_fits program m z ≡ true → component_fits program (described m) v ≡ true
  described_fits m v z e f g =
      let text : List ℕ = 76 ∷ (m ++ 59 ∷ []) in
      let told : described m ≡ text = rw e refl in
      let fit : component_fits program text v ≡ true = at_leaf program order text v refl ∙ leaf_is program order text v (classes m z (named_described m e) f g) in
      subst (λ (t : List ℕ). component_fits program t v ≡ true) (sym told) fit

  module _ (P : List ℕ → Type 0) (otherwise v : List ℕ) (within : (r : List ℕ) → component_fits program r v ≡ true → P (91 ∷ r)) where
    shared_least : (a b : List ℕ) → (is_array a && is_array b) ≡ false → Shared a b v
        → P (option_map_or (λ (x : List ℕ). option_map_or (λ (y : List ℕ). array_of (leaf_merged program x y)) (reference_of b) otherwise) (reference_of a) otherwise)
    shared_least a b apart (x, (y, (z, (e, f, g, h, i)))) =
        let two : (is_array x && is_array y) ≡ false = rw (same_array program order a x e, same_array program order b y f) apart in
        let m : List ℕ = leaf_merged program x y in
        let lower : component_fits program (described m) v ≡ true = described_fits m v z (leaf_apart program order x y two) g (leaf_least x y z h i) in
        rw (e, f) (within (described m) lower)

    items_least : (a b : List ℕ) → (is_array a && is_array b) ≡ false → component_fits program a v ≡ true → component_fits program b v ≡ true
        → P (items_merged program otherwise a b)
    items_least a b apart e f =
        let target : is_array v ≡ false = elim (cases_Bool (is_array a)) [
          | inl is ↦ let other : is_array b ≡ false = rw is at apart in target_apart b v other f
          | inr fails ↦ target_apart a v fails e
        ] in
        let first = leaf_seen program order a v (sym (at_leaf program order a v (never_both program order _ _ target)) ∙ e) in
        let second = leaf_seen program order b v (sym (at_leaf program order b v (never_both program order _ _ target)) ∙ f) in
        pick P (bytes_eq a b) (91 ∷ a) _ (λ is. within a e) (λ d. shared_least a b apart (share a b v d first second))

  -- an array's items fit a class that each fits
  to_class : (a v : List ℕ) → is_array a ≡ true → is_array v ≡ false → Leaf program a v → (z : List ℕ) × ((named v ≡ Some z) × Widest z)
  to_class a v e f (same g) = absurd (false≢true (sym f ∙ subst (λ (x : List ℕ). is_array x ≡ true) g e))
  to_class a v e f (classes x z g h i) =
      let one : x ≡ a = one_of x a (sym g ∙ array_told program order a e) in
      (z, (h, from_array program order a z e (class_apart program order v z h) (seen program a z (subst (λ (k : List ℕ). class_fits program k z ≡ true) one i))))

  abbrev Refers : List ℕ → Type 0
  Refers r = (x : List ℕ) × (reference_of r ≡ Some x)

  told_refers : (a b : List ℕ) (m n : Option (List ℕ)) → Refers (option_map_or (λ (x : List ℕ). option_map_or (λ (y : List ℕ). array_of (leaf_merged program x y)) n (described object)) m (described object))
  told_refers a b None n = (object, named_described object refl)
  told_refers a b (Some x) None = (object, named_described object refl)
  told_refers a b (Some x) (Some y) = (_, refl)

  items_refer : (a b : List ℕ) → Refers (items_merged program (described object) a b)
  items_refer a b = pick Refers (bytes_eq a b) (91 ∷ a) _ (λ is. (91 ∷ a, refl)) (λ d. told_refers a b (reference_of a) (reference_of b))

  refers : (a b : List ℕ) → Refers (arrays_merged program (described object) a b)
  refers [] b = items_refer [] b
  refers (x ∷ a) [] = items_refer (x ∷ a) []
  refers (x ∷ a) (y ∷ b) = pick Refers ((x == 91) && (y == 91)) _ _ (λ is. (_, refl)) (λ apart. items_refer (x ∷ a) (y ∷ b))

  any_class : (r v : List ℕ) → is_array v ≡ false → Refers r → (z : List ℕ) × ((named v ≡ Some z) × Widest z) → component_fits program r v ≡ true
  any_class r v f (x, e) (z, (g, w)) =
      at_leaf program order r v (never_both program order _ _ f) ∙ leaf_is program order r v (classes x z e g (to_any program order x z w))

  -- ---- arrays within arrays

  deep_items : (a b v : List ℕ) → (is_array a && is_array b) ≡ false → component_fits program a v ≡ true → component_fits program b v ≡ true
      → component_fits program (items_merged program (described object) a b) (91 ∷ v) ≡ true
  deep_items a b v apart e f = items_least (λ r. component_fits program r (91 ∷ v) ≡ true) (described object) v (λ r h. h) a b apart e f

  -- where both are arrays of arrays: what is within, by what is known of arrays of shorter items
  within_arrays : (x y : ℕ) (a b v : List ℕ) → (x == 91) ≡ true → (y == 91) ≡ true
      → ((w : List ℕ) → component_fits program a w ≡ true → component_fits program b w ≡ true → component_fits program (arrays_merged program (described object) a b) (91 ∷ w) ≡ true)
      → component_fits program (x ∷ a) v ≡ true → component_fits program (y ∷ b) v ≡ true → component_fits program (arrays_merged program (described object) a b) v ≡ true
  within_arrays x y a b [] i j more e f =
      any_class (arrays_merged program (described object) a b) [] refl (refers a b) (to_class (x ∷ a) [] i refl (leaf_seen program order (x ∷ a) [] (sym (at_leaf program order (x ∷ a) [] (never_both program order _ _ refl)) ∙ e)))
  within_arrays x y a b (w ∷ v) i j more e f =
      elim (cases_Bool (w == 91)) [
        | inl is ↦
            let first : component_fits program a v ≡ true = rw (i, is) at e in
            let second : component_fits program b v ≡ true = rw (j, is) at f in
            subst (λ (n : ℕ). component_fits program (arrays_merged program (described object) a b) (n ∷ v) ≡ true) (sym (eqb-true w 91 is)) (more v first second)
        | inr fails ↦
            any_class (arrays_merged program (described object) a b) (w ∷ v) fails (refers a b)
            (to_class (x ∷ a) (w ∷ v) i fails (leaf_seen program order (x ∷ a) (w ∷ v) (sym (at_leaf program order (x ∷ a) (w ∷ v) (never_both program order _ _ fails)) ∙ e)))
      ]

  deep_least : (a b v : List ℕ) → component_fits program a v ≡ true → component_fits program b v ≡ true
      → component_fits program (arrays_merged program (described object) a b) (91 ∷ v) ≡ true
  deep_least [] b v e f = deep_items [] b v refl e f
  deep_least (x ∷ a) [] v e f = deep_items (x ∷ a) [] v (never_both program order _ _ refl) e f
  deep_least (x ∷ a) (y ∷ b) v e f =
      pick (λ (m : List ℕ). component_fits program m (91 ∷ v) ≡ true) ((x == 91) && (y == 91)) _ _
      (λ is.
      let both = both_of (x == 91) (y == 91) is in
      within_arrays x y a b v both.0 both.1 (λ w g h. deep_least a b w g h) e f)
      (λ apart. deep_items (x ∷ a) (y ∷ b) v apart e f)

  -- ---- names

  array_over : (r v : List ℕ) → component_fits program r v ≡ true → name_fits program (91 ∷ r) (91 ∷ v) ≡ true
  array_over r v e = or_second _ _ e

  top_items : (a b v : List ℕ) → (is_array a && is_array b) ≡ false → component_fits program a v ≡ true → component_fits program b v ≡ true
      → name_fits program (items_merged program object a b) (91 ∷ v) ≡ true
  top_items a b v apart e f = items_least (λ r. name_fits program r (91 ∷ v) ≡ true) object v (λ r h. array_over r v h) a b apart e f

  arrays_least : (a b v : List ℕ) → component_fits program a v ≡ true → component_fits program b v ≡ true
      → name_fits program (arrays_merged program object a b) (91 ∷ v) ≡ true
  arrays_least [] b v e f = top_items [] b v refl e f
  arrays_least (x ∷ a) [] v e f = top_items (x ∷ a) [] v (never_both program order _ _ refl) e f
  arrays_least (x ∷ a) (y ∷ b) v e f =
      pick (λ (m : List ℕ). name_fits program m (91 ∷ v) ≡ true) ((x == 91) && (y == 91)) _ _
      (λ is.
      let both = both_of (x == 91) (y == 91) is in
      array_over _ v (within_arrays x y a b v both.0 both.1 (λ w g h. deep_least a b w g h) e f))
      (λ apart. top_items (x ∷ a) (y ∷ b) v apart e f)

  -- what is assignable to an array is one, with such items
  items_in : (a v : List ℕ) → array_fits program a (91 ∷ v) ≡ true → (x : List ℕ) × ((a ≡ 91 ∷ x) × (component_fits program x v ≡ true))
  items_in [] v e = absurd cc
  items_in (x ∷ a) v e =
      let first = both_of (x == 91) _ e in
      let one : x ≡ 91 = eqb-true x 91 first.0 in
      (a, (ap (λ (n : ℕ). n ∷ a) one, first.1))

  items_of : (a v : List ℕ) → name_fits program a (91 ∷ v) ≡ true → (x : List ℕ) × ((a ≡ 91 ∷ x) × (component_fits program x v ≡ true))
  items_of a v e =
      elim (either_of (class_fits program a (91 ∷ v)) (array_fits program a (91 ∷ v)) e) [
        | inl is ↦ (v, (array_equal program order a (91 ∷ v) refl (seen program a (91 ∷ v) is), component_itself program v))
        | inr is ↦ items_in a v is
      ]

  array_names : (a b v : List ℕ)
      → (x : List ℕ) × ((a ≡ 91 ∷ x) × (component_fits program x v ≡ true)) → (x : List ℕ) × ((b ≡ 91 ∷ x) × (component_fits program x v ≡ true))
      → name_fits program (names_merged program a b) (91 ∷ v) ≡ true
  array_names a b v (x, (e, f)) (y, (g, h)) =
      let both : name_fits program (names_merged program (91 ∷ x) (91 ∷ y)) (91 ∷ v) ≡ true = arrays_least x y v f h in
      subst (λ (n : List ℕ). name_fits program (names_merged program n b) (91 ∷ v) ≡ true) (sym e)
      (subst (λ (n : List ℕ). name_fits program (names_merged program (91 ∷ x) n) (91 ∷ v) ≡ true) (sym g) both)

  -- what is assignable to a class is so by its name
  by_class : (a v : List ℕ) → is_array v ≡ false → name_fits program a v ≡ true → class_fits program a v ≡ true
  by_class a v e f =
      elim (either_of (class_fits program a v) (array_fits program a v) f) [
        | inl is ↦ is
        | inr is ↦ absurd (false≢true (sym e ∙ array_second program order a v is))
      ]

  class_names : (a b v : List ℕ) → is_array v ≡ false → class_fits program a v ≡ true → class_fits program b v ≡ true → name_fits program (names_merged program a b) v ≡ true
  class_names [] b v e f g = or_first _ _ (leaf_least [] b v f g)
  class_names (x ∷ a) [] v e f g = or_first _ _ (leaf_least (x ∷ a) [] v f g)
  class_names (x ∷ a) (y ∷ b) v e f g =
      pick (λ (m : List ℕ). name_fits program m v ≡ true) ((x == 91) && (y == 91)) _ _
      (λ is.
      let both = both_of (x == 91) (y == 91) is in
      or_first _ _ (to_any program order (arrays_merged program object a b) v (from_array program order (x ∷ a) v both.0 e (seen program (x ∷ a) v f))))
      (λ apart. or_first _ _ (leaf_least (x ∷ a) (y ∷ b) v f g))

  names_least : (a b v : List ℕ)
      → name_fits program a v ≡ true → name_fits program b v ≡ true → name_fits program (names_merged program a b) v ≡ true
  names_least a b [] e f = class_names a b [] refl (by_class a [] refl e) (by_class b [] refl f)
  names_least a b (w ∷ v) e f =
      elim (cases_Bool (w == 91)) [
        | inl is ↦
            let one : w ≡ 91 = eqb-true w 91 is in
            let first = items_of a v (subst (λ (n : ℕ). name_fits program a (n ∷ v) ≡ true) one e) in
            let second = items_of b v (subst (λ (n : ℕ). name_fits program b (n ∷ v) ≡ true) one f) in
            subst (λ (n : ℕ). name_fits program (names_merged program a b) (n ∷ v) ≡ true) (sym one) (array_names a b v first second)
        | inr fails ↦ class_names a b (w ∷ v) fails (by_class a (w ∷ v) fails e) (by_class b (w ∷ v) fails f)
      ]

  -- ---- types

  only_int : (t : VType) → assignable program t types.Int ≡ true → t ≡ types.Int
  only_int types.Top e = absurd cc
  only_int types.Int e = refl
  only_int types.Null e = absurd cc
  only_int (types.Ref a) e = absurd cc
  only_int types.UninitThis e = absurd cc
  only_int (types.Uninit i) e = absurd cc

  only_null : (t : VType) → assignable program t types.Null ≡ true → t ≡ types.Null
  only_null types.Top e = absurd cc
  only_null types.Int e = absurd cc
  only_null types.Null e = refl
  only_null (types.Ref a) e = absurd cc
  only_null types.UninitThis e = absurd cc
  only_null (types.Uninit i) e = absurd cc

  only_this : (t : VType) → assignable program t types.UninitThis ≡ true → t ≡ types.UninitThis
  only_this types.Top e = absurd cc
  only_this types.Int e = absurd cc
  only_this types.Null e = absurd cc
  only_this (types.Ref a) e = absurd cc
  only_this types.UninitThis e = refl
  only_this (types.Uninit i) e = absurd cc

  only_index : (t : VType) (k : ℕ) → assignable program t (types.Uninit k) ≡ true → t ≡ types.Uninit k
  only_index types.Top k e = absurd cc
  only_index types.Int k e = absurd cc
  only_index types.Null k e = absurd cc
  only_index (types.Ref a) k e = absurd cc
  only_index types.UninitThis k e = absurd cc
  only_index (types.Uninit i) k e = ap (λ (n : ℕ). types.Uninit n) (eqb-true i k e)

  index_least : (k : ℕ) (b : Bool) → (k == k) ≡ b → assignable program (cond b (types.Uninit k) types.Top) (types.Uninit k) ≡ true
  index_least k true e = e
  index_least k false e = absurd (false≢true (sym e ∙ eq-eqb k k refl))

  references : (t u : VType) (v : List ℕ) → assignable program t (types.Ref v) ≡ true → assignable program u (types.Ref v) ≡ true
      → assignable program (merged program t u) (types.Ref v) ≡ true
  references types.Null types.Null v e f = refl
  references types.Null (types.Ref b) v e f = f
  references (types.Ref a) types.Null v e f = e
  references (types.Ref a) (types.Ref b) v e f = names_least a b v e f
  references t u v e f = absurd cc

  pub merge_least : (t u v : VType) → assignable program t v ≡ true → assignable program u v ≡ true → assignable program (merged program t u) v ≡ true
  merge_least t u types.Top e f = refl
  merge_least t u types.Int e f = rw (only_int t e, only_int u f) refl
  merge_least t u types.Null e f = rw (only_null t e, only_null u f) refl
  merge_least t u (types.Ref v) e f = references t u v e f
  merge_least t u types.UninitThis e f = rw (only_this t e, only_this u f) refl
  merge_least t u (types.Uninit k) e f = rw (only_index t k e, only_index u k f) (index_least k (k == k) refl)
