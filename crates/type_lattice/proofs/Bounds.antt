-- Both types are assignable to their merge.
use Rattle.std.proofs.Common.{◌≡◌, ℕ, Bool, true, false, cond, List, [], ◌∷◌, ◌++◌, length, Option, Some, None, refl, sym, ap, subst, ◌∙◌, inl, inr}
use Rattle.std.specs.Prelude.{bytes_eq, find, ◌==◌, ◌||◌, ◌&&◌}
use Rattle.std.specs.Option.{option_map_or}
use Rattle.std.proofs.lemmas.Bool.{cases_Bool, eq-eqb, eqb-true}
use Rattle.api_listing.specs.declared.types.ListedClass.{ListedClass}
use Rattle.api_listing.specs.BuiltIn.{object}
use Rattle.api_listing.specs.Nearest.{upwards}
use Rattle.bytecode_model.specs.declared.program.Program.{Program}
use Rattle.cert_format.specs.declared.typing.VType.{VType}
use Rattle.cert_format.specs.declared.typing.VType.TheVariants as types
use Rattle.bytecode_model.specs.Arrays.{is_array}
use Rattle.bytecode_model.specs.Assigning.{named, reference_of, class_fits, component_fits, array_fits, name_fits, assignable}
use Rattle.bytecode_model.specs.Classes.{classes_of, is_below, is_interface}
use Rattle.bytecode_model.specs.Order.{IsInOrder}
use Rattle.bytecode_model.specs.Arrays.{described, array_of}
use Rattle.type_lattice.specs.Merging.{leaf_merged, items_merged, arrays_merged, names_merged, merged}
use Rattle.type_lattice.proofs.Arrays.{class_itself, component_itself, named_described}
use Rattle.bytecode_model.proofs.Upwards.{one_named}
use Rattle.bytecode_model.proofs.Upwards.{both_of, or_first, or_second, none_up}
use Rattle.type_lattice.proofs.Orders.{top, under, classes, fits, leaf_is, at_leaf, never_both, class_apart, itself}
use Rattle.bytecode_model.proofs.Upwards.{same_of, of_same}

-- ---- choices

pub pick : (P : List ℕ → Type 0) (b : Bool) (x y : List ℕ) → (b ≡ true → P x) → (b ≡ false → P y) → P (cond b x y)
pick P true x y h g = h refl
pick P false x y h g = g refl

neither_of : (a b : Bool) → (a || b) ≡ false → (a ≡ false) × (b ≡ false)
neither_of true b e = absurd cc
neither_of false b e = (refl, e)

and_itself : (b : Bool) → (b && b) ≡ false → b ≡ false
and_itself true e = e
and_itself false e = refl

pub found_one : (test : ListedClass → Bool) (xs : List ListedClass) (c : ListedClass) → find test xs ≡ Some c → (test c ≡ true) × (one_named c.name xs ≡ true)
found_one test [] c e = absurd cc
found_one test (x ∷ xs) c e =
    elim (cases_Bool (test x)) [
      | inl is ↦
          let h : ◌≡◌ {A = Option ListedClass} (Some x) (Some c) = rw is at e in
          let one : x ≡ c = cc in
          (subst (λ (k : ListedClass). test k ≡ true) one is, or_first _ _ (of_same x.name c.name (ap (λ (k : ListedClass). k.name) one)))
      | inr fails ↦
          let h : find test xs ≡ Some c = rw fails at e in
          let more = found_one test xs c h in
          (more.0, or_second _ _ more.1)
    ]

module _ (program : Program) (order : IsInOrder program) where
  -- ---- classes

  Above : List ℕ → List ℕ → List ℕ → Type 0
  Above a b m = (class_fits program a m ≡ true) × (class_fits program b m ≡ true) × (is_array m ≡ false)

  object_above : (a b : List ℕ) → Above a b object
  unfolding Above
  object_above a b = (fits program a object (top refl), fits program b object (top refl), refl)

  pub is_apart : (b : Bool) → (b ≡ true → ⊥) → b ≡ false
  is_apart true h = absurd (h refl)
  is_apart false h = refl

  found_above : (a b : List ℕ) → is_array a ≡ false → is_array b ≡ false → (o : Option ListedClass)
      → find (λ (c : ListedClass). is_below program b c.name) (upwards (length (classes_of program)) (classes_of program) a) ≡ o
      → Above a b (option_map_or (λ (c : ListedClass). c.name) o object)
  unfolding Above
  found_above a b e f None h = object_above a b
  found_above a b e f (Some c) h =
      let one = found_one (λ (k : ListedClass). is_below program b k.name) _ c h in (
        fits program a c.name (under e one.1),
        fits program b c.name (under f one.0),
        is_apart _ (λ is. none_up (classes_of program) (length (classes_of program)) a c.name (order.no_arrays c.name is) one.1),
      )

  -- two that are not both arrays
  leaf_above : (a b : List ℕ) → (is_array a && is_array b) ≡ false → Above a b (leaf_merged program a b)
  unfolding Above
  leaf_above a b apart =
      pick (Above a b) (bytes_eq a b) a _
      (λ is.
      let one : a ≡ b = same_of a b is in
      (class_itself program a, subst (λ (x : List ℕ). class_fits program x a ≡ true) one (class_itself program a), and_itself _ (subst (λ (x : List ℕ). (is_array a && is_array x) ≡ false) (sym one) apart)))
      (λ other. pick (Above a b) (is_array a || is_array b) object _ (λ is. object_above a b)
      (λ no. pick (Above a b) (is_interface program a || is_interface program b) object _ (λ is. object_above a b)
      (λ none. let both = neither_of _ _ no in found_above a b both.0 both.1 _ refl)))

  pub leaf_apart : (a b : List ℕ) → (is_array a && is_array b) ≡ false → is_array (leaf_merged program a b) ≡ false
  unfolding Above
  leaf_apart a b apart = (leaf_above a b apart).2

  -- ---- items

  item_under : (a x m : List ℕ) → reference_of a ≡ Some x → is_array m ≡ false → class_fits program x m ≡ true → component_fits program a (described m) ≡ true
  item_under a x m e f g =
      let text : List ℕ = 76 ∷ (m ++ 59 ∷ []) in
      let told : described m ≡ text = rw f refl in
      let fit : component_fits program a text ≡ true =
      at_leaf program order a text (never_both program order _ _ refl) ∙ leaf_is program order a text (classes x m e (named_described m f) g) in
      subst (λ (t : List ℕ). component_fits program a t ≡ true) (sym told) fit

  some_one : (x y : List ℕ) → ◌≡◌ {A = Option (List ℕ)} (Some x) (Some y) → x ≡ y
  some_one x y e = cc

  -- what an item refers to is an array where the item is one
  pub same_array : (a x : List ℕ) → reference_of a ≡ Some x → is_array x ≡ is_array a
  same_array a x e =
      elim (cases_Bool (is_array a)) [
        | inl is ↦
            let h : ◌≡◌ {A = Option (List ℕ)} (Some a) (Some x) = rw is at e in
            ap is_array (sym (some_one a x h))
        | inr differs ↦
            let h : named a ≡ Some x = rw differs at e in
            class_apart program order a x h ∙ sym differs
      ]

  module _ (P : List ℕ → List ℕ → Type 0) (otherwise : List ℕ) (within : (a r : List ℕ) → component_fits program a r ≡ true → P a (91 ∷ r)) (none : (a : List ℕ) → P a otherwise) where
    told_above : (a b : List ℕ) → (is_array a && is_array b) ≡ false → (m n : Option (List ℕ)) → reference_of a ≡ m → reference_of b ≡ n
        → P a (option_map_or (λ (x : List ℕ). option_map_or (λ (y : List ℕ). array_of (leaf_merged program x y)) n otherwise) m otherwise)
        × P b (option_map_or (λ (x : List ℕ). option_map_or (λ (y : List ℕ). array_of (leaf_merged program x y)) n otherwise) m otherwise)
    unfolding Above
    told_above a b apart None n e f = (none a, none b)
    told_above a b apart (Some x) None e f = (none a, none b)
    told_above a b apart (Some x) (Some y) e f =
        let two : (is_array x && is_array y) ≡ false = rw (same_array a x e, same_array b y f) apart in
        let above = leaf_above x y two in
        (within a _ (item_under a x _ e above.2 above.0), within b _ (item_under b y _ f above.2 above.1))

    items_above : (a b : List ℕ) → (is_array a && is_array b) ≡ false → P a (items_merged program otherwise a b) × P b (items_merged program otherwise a b)
    items_above a b apart =
        pick (λ (r : List ℕ). P a r × P b r) (bytes_eq a b) (91 ∷ a) _
        (λ is. (within a a (component_itself program a), within b a (subst (λ (x : List ℕ). component_fits program x a ≡ true) (same_of a b is) (component_itself program a))))
        (λ other. told_above a b apart _ _ refl refl)

  object_item : (a : List ℕ) → component_fits program (91 ∷ a) (described object) ≡ true
  object_item a = item_under (91 ∷ a) (91 ∷ a) object refl refl (fits program (91 ∷ a) object (top refl))

  -- arrays within arrays
  deep_items : (a b : List ℕ) → (is_array a && is_array b) ≡ false
      → (component_fits program (91 ∷ a) (items_merged program (described object) a b) ≡ true) × (component_fits program (91 ∷ b) (items_merged program (described object) a b) ≡ true)
  deep_items a b apart = items_above (λ c r. component_fits program (91 ∷ c) r ≡ true) (described object) (λ c r e. e) object_item a b apart

  deep_above : (a b : List ℕ)
      → (component_fits program (91 ∷ a) (arrays_merged program (described object) a b) ≡ true) × (component_fits program (91 ∷ b) (arrays_merged program (described object) a b) ≡ true)
  deep_above [] b = deep_items [] b refl
  deep_above (x ∷ a) [] = deep_items (x ∷ a) [] (never_both program order _ _ refl)
  deep_above (x ∷ a) (y ∷ b) =
      pick (λ (r : List ℕ). (component_fits program (91 ∷ x ∷ a) r ≡ true) × (component_fits program (91 ∷ y ∷ b) r ≡ true)) ((x == 91) && (y == 91)) _ _
      (λ is.
      let both = both_of (x == 91) (y == 91) is in
      let more = deep_above a b in
      let r : List ℕ = arrays_merged program (described object) a b in (
        subst (λ (n : ℕ). component_fits program (n ∷ a) r ≡ true) (sym (eqb-true x 91 both.0)) more.0,
        subst (λ (n : ℕ). component_fits program (n ∷ b) r ≡ true) (sym (eqb-true y 91 both.1)) more.1,
      ))
      (λ apart. deep_items (x ∷ a) (y ∷ b) apart)

  -- ---- names

  array_under : (a r : List ℕ) → component_fits program a r ≡ true → name_fits program (91 ∷ a) (91 ∷ r) ≡ true
  array_under a r e = or_second _ _ e

  object_name : (a : List ℕ) → name_fits program (91 ∷ a) object ≡ true
  object_name a = or_first (class_fits program (91 ∷ a) object) (array_fits program (91 ∷ a) object) (fits program (91 ∷ a) object (top refl))

  top_items : (a b : List ℕ) → (is_array a && is_array b) ≡ false
      → (name_fits program (91 ∷ a) (items_merged program object a b) ≡ true) × (name_fits program (91 ∷ b) (items_merged program object a b) ≡ true)
  top_items a b apart = items_above (λ c r. name_fits program (91 ∷ c) r ≡ true) object array_under object_name a b apart

  arrays_above : (a b : List ℕ)
      → (name_fits program (91 ∷ a) (arrays_merged program object a b) ≡ true) × (name_fits program (91 ∷ b) (arrays_merged program object a b) ≡ true)
  arrays_above [] b = top_items [] b refl
  arrays_above (x ∷ a) [] = top_items (x ∷ a) [] (never_both program order _ _ refl)
  arrays_above (x ∷ a) (y ∷ b) =
      pick (λ (r : List ℕ). (name_fits program (91 ∷ x ∷ a) r ≡ true) × (name_fits program (91 ∷ y ∷ b) r ≡ true)) ((x == 91) && (y == 91)) _ _
      (λ is.
      let both = both_of (x == 91) (y == 91) is in
      let more = deep_above a b in
      let r : List ℕ = arrays_merged program (described object) a b in (
        array_under (x ∷ a) r (subst (λ (n : ℕ). component_fits program (n ∷ a) r ≡ true) (sym (eqb-true x 91 both.0)) more.0),
        array_under (y ∷ b) r (subst (λ (n : ℕ). component_fits program (n ∷ b) r ≡ true) (sym (eqb-true y 91 both.1)) more.1),
      ))
      (λ apart. top_items (x ∷ a) (y ∷ b) apart)

  leaf_names : (a b : List ℕ) → (is_array a && is_array b) ≡ false → (name_fits program a (leaf_merged program a b) ≡ true) × (name_fits program b (leaf_merged program a b) ≡ true)
  unfolding Above
  leaf_names a b apart = let above = leaf_above a b apart in (or_first _ _ above.0, or_first _ _ above.1)

  names_above : (a b : List ℕ)
      → (name_fits program a (names_merged program a b) ≡ true) × (name_fits program b (names_merged program a b) ≡ true)
  names_above [] b = leaf_names [] b refl
  names_above (x ∷ a) [] = leaf_names (x ∷ a) [] (never_both program order _ _ refl)
  names_above (x ∷ a) (y ∷ b) =
      pick (λ (r : List ℕ). (name_fits program (x ∷ a) r ≡ true) × (name_fits program (y ∷ b) r ≡ true)) ((x == 91) && (y == 91)) _ _
      (λ is.
      let both = both_of (x == 91) (y == 91) is in
      let more = arrays_above a b in
      let r : List ℕ = arrays_merged program object a b in (
        subst (λ (n : ℕ). name_fits program (n ∷ a) r ≡ true) (sym (eqb-true x 91 both.0)) more.0,
        subst (λ (n : ℕ). name_fits program (n ∷ b) r ≡ true) (sym (eqb-true y 91 both.1)) more.1,
      ))
      (λ apart. leaf_names (x ∷ a) (y ∷ b) apart)

  -- ---- types

  index_above : (i j : ℕ) (b : Bool) → (i == j) ≡ b
      → (assignable program (types.Uninit i) (cond b (types.Uninit i) types.Top) ≡ true) × (assignable program (types.Uninit j) (cond b (types.Uninit i) types.Top) ≡ true)
  index_above i j true e = (eq-eqb i i refl, eq-eqb j i (sym (eqb-true i j e)))
  index_above i j false e = (refl, refl)

  null_under : (b : List ℕ) → name_fits program b b ≡ true
  null_under b = itself program (types.Ref b)

  pub merge_above : (t u : VType) → (assignable program t (merged program t u) ≡ true) × (assignable program u (merged program t u) ≡ true)
  merge_above types.Int types.Int = (refl, refl)
  merge_above types.Null types.Null = (refl, refl)
  merge_above types.Null (types.Ref b) = (refl, null_under b)
  merge_above (types.Ref a) types.Null = (null_under a, refl)
  merge_above (types.Ref a) (types.Ref b) = names_above a b
  merge_above types.UninitThis types.UninitThis = (refl, refl)
  merge_above (types.Uninit i) (types.Uninit j) = index_above i j (i == j) refl
  merge_above t u = (refl, refl)
