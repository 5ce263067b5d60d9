-- Assignability is an order.
use Rattle.std.proofs.Common.{◌≡◌, ℕ, Bool, true, false, cond, List, [], ◌∷◌, ◌⊎◌, length, take, ◌-◌, Option, Some, None, refl, sym, subst, ◌∙◌, inl, inr}
use Rattle.std.specs.Prelude.{bytes_eq, nat_lt, slice_index, not, ◌==◌, ◌&&◌}
use Rattle.std.specs.Option.{option_map_or}
use Rattle.std.proofs.lemmas.Bool.{cases_Bool, eq-eqb, eqb-true, false≢true}
use Rattle.api_listing.specs.BuiltIn.{object}
use Rattle.api_listing.specs.Nearest.{class_named}
use Rattle.bytecode_model.specs.declared.program.Program.{Program}
use Rattle.cert_format.specs.declared.typing.VType.{VType}
use Rattle.cert_format.specs.declared.typing.VType.TheVariants as types
use Rattle.bytecode_model.specs.Arrays.{is_array}
use Rattle.bytecode_model.specs.Assigning.{class_name, named, reference_of, class_fits, leaf_fits, component_fits, array_fits, name_fits, assignable}
use Rattle.bytecode_model.specs.Classes.{classes_of, is_below, is_interface}
use Rattle.bytecode_model.specs.Order.{IsInOrder}
use Rattle.type_lattice.proofs.Arrays.{class_itself}
use Rattle.bytecode_model.proofs.Upwards.{same_of, of_same, either_of, both_of, both_are, or_first, or_second, none_up, up_and_up}

-- ---- itself

index_itself : (i : ℕ) → (i == i) ≡ true
index_itself i = eq-eqb i i refl

pub itself : (program : Program) (t : VType) → assignable program t t ≡ true
itself program types.Top = refl
itself program types.Int = refl
itself program types.Null = refl
itself program (types.Ref name) = or_first _ _ (class_itself program name)
itself program types.UninitThis = refl
itself program (types.Uninit i) = index_itself i

-- ---- what a class fits

-- how a class or an array fits a class: it is equal, Object, an interface, or below
pub data Fit (program : Program) (from to : List ℕ) : Type 0 where
  equal : from ≡ to → Fit program from to
  top : to ≡ object → Fit program from to
  interface : is_interface program to ≡ true → Fit program from to
  under : is_array from ≡ false → is_below program from to ≡ true → Fit program from to

-- how an item fits another that is no array where it is one
pub data Leaf (program : Program) (from to : List ℕ) : Type 0 where
  same : from ≡ to → Leaf program from to
  classes : (below above : List ℕ) → reference_of from ≡ Some below → named to ≡ Some above → class_fits program below above ≡ true → Leaf program from to

pub false_of : (b : Bool) → not b ≡ true → b ≡ false
false_of true e = absurd cc
false_of false e = refl

not_of : (b : Bool) → b ≡ false → not b ≡ true
not_of b e = rw e refl

pub seen : (program : Program) (from to : List ℕ) → class_fits program from to ≡ true → Fit program from to
seen program from to e =
    elim (either_of (bytes_eq from to) _ e) [
      | inl is ↦ equal (same_of from to is)
      | inr more ↦
          elim (either_of (bytes_eq to object) _ more) [
            | inl is ↦ top (same_of to object is)
            | inr rest ↦
                elim (either_of (is_interface program to) _ rest) [
                  | inl is ↦ interface is
                  | inr below ↦ let h = both_of _ _ below in under (false_of _ h.0) h.1
                ]
          ]
    ]

pub fits : (program : Program) (from to : List ℕ) → Fit program from to → class_fits program from to ≡ true
fits program from to (equal e) = or_first _ _ (of_same from to e)
fits program from to (top e) = or_second _ _ (or_first _ _ (of_same to object e))
fits program from to (interface e) = or_second _ _ (or_second _ _ (or_first _ _ e))
fits program from to (under e f) = or_second (bytes_eq from to) _ (or_second (bytes_eq to object) _ (or_second (is_interface program to) _ (both_are _ _ (not_of _ e) f)))

-- ---- classes, one above the other

none_interface : (program : Program) (name : List ℕ) → class_named (classes_of program) name ≡ None → is_interface program name ≡ false
none_interface program name e = rw e refl

module _ (program : Program) (order : IsInOrder program) where
  pub class_over : (a b c : List ℕ) → Fit program a b → Fit program b c → Fit program a c
  class_over a b c (equal e) g = subst (λ (x : List ℕ). Fit program x c) (sym e) g
  class_over a b c f (equal e) = subst (λ (x : List ℕ). Fit program a x) e f
  class_over a b c f (top e) = top e
  class_over a b c f (interface e) = interface e
  class_over a b c (top e) (under g h) = top (order.top c (subst (λ (x : List ℕ). is_below program x c ≡ true) e h))
  class_over a b c (interface e) (under g h) =
      elim (order.interfaces b c e h) [
        | inl is ↦ interface (subst (λ (x : List ℕ). is_interface program x ≡ true) (sym is) e)
        | inr is ↦ top is
      ]
  class_over a b c (under e f) (under g h) = under e (up_and_up (classes_of program) (length (classes_of program)) order.ends a b c f h)

  pub over : (a b c : List ℕ) → class_fits program a b ≡ true → class_fits program b c ≡ true → class_fits program a c ≡ true
  over a b c e f = fits program a c (class_over a b c (seen program a b e) (seen program b c f))

  -- an array has no class that is an interface, or that another is below
  pub array_equal : (a b : List ℕ) → is_array b ≡ true → Fit program a b → a ≡ b
  array_equal a b is (equal f) = f
  array_equal a b is (top f) = let h : is_array object ≡ true = subst (λ (x : List ℕ). is_array x ≡ true) f is in absurd (false≢true h)
  array_equal a b is (interface f) = absurd (false≢true (sym (none_interface program b (order.no_arrays b is)) ∙ f))
  array_equal a b is (under f g) = absurd (none_up (classes_of program) (length (classes_of program)) a b (order.no_arrays b is) g)

  -- ---- items of arrays

  leaf_at : (from to : List ℕ) (n m : Option (List ℕ)) → named to ≡ n → reference_of from ≡ m
      → option_map_or (λ (above : List ℕ). option_map_or (λ (below : List ℕ). class_fits program below above) m false) n false ≡ true → Leaf program from to
  leaf_at from to None m e f h = absurd cc
  leaf_at from to (Some above) None e f h = absurd cc
  leaf_at from to (Some above) (Some below) e f h = classes below above f e h

  pub leaf_seen : (from to : List ℕ) → leaf_fits program from to ≡ true → Leaf program from to
  leaf_seen from to e =
      elim (either_of (bytes_eq from to) _ e) [
        | inl is ↦ same (same_of from to is)
        | inr h ↦ leaf_at from to (named to) (reference_of from) refl refl h
      ]

  pub leaf_is : (from to : List ℕ) → Leaf program from to → leaf_fits program from to ≡ true
  leaf_is from to (same e) = or_first _ _ (of_same from to e)
  leaf_is from to (classes below above e f h) =
      let named_one : option_map_or (λ (a : List ℕ). option_map_or (λ (b : List ℕ). class_fits program b a) (reference_of from) false) (named to) false ≡ true = rw (f, e) h in
      or_second _ _ named_one

  pub at_leaf : (a b : List ℕ) → (is_array a && is_array b) ≡ false → component_fits program a b ≡ leaf_fits program a b
  at_leaf [] b e = refl
  at_leaf (x ∷ a) [] e = refl
  at_leaf (x ∷ a) (y ∷ b) e = rw e refl

  -- a component that names a class is no array, and is told by that name
  chose : (b : Bool) (v : Option (List ℕ)) (x : List ℕ) → cond b v None ≡ Some x → (b ≡ true) × (v ≡ Some x)
  chose true v x e = (refl, e)
  chose false v x e = absurd cc

  pub named_apart : (b x : List ℕ) → named b ≡ Some x → is_array b ≡ false
  named_apart [] x e = refl
  named_apart (c ∷ rest) x e =
      let letter : c ≡ 76 = eqb-true c 76 (both_of (c == 76) _ (chose _ _ x e).0).0 in
      rw letter refl

  -- that name is none of an array
  name_apart : (name x : List ℕ) → class_name name ≡ Some x → is_array x ≡ false
  name_apart name x e =
      elim (cases_Bool (is_array name)) [
        | inl is ↦ let h : ◌≡◌ {A = Option (List ℕ)} None (Some x) = rw is at e in absurd cc
        | inr apart ↦
            let h : ◌≡◌ {A = Option (List ℕ)} (Some name) (Some x) = rw apart at e in
            let one : name ≡ x = cc in
            subst (λ (n : List ℕ). is_array n ≡ false) one apart
      ]

  pub class_apart : (b x : List ℕ) → named b ≡ Some x → is_array x ≡ false
  class_apart [] x e = absurd cc
  class_apart (c ∷ rest) x e = name_apart (take (length rest - 1) rest) x (chose ((c == 76) && (nat_lt 0 (length rest) && (slice_index rest (length rest - 1) == 59))) _ x e).1

  pub named_told : (b x : List ℕ) → named b ≡ Some x → reference_of b ≡ Some x
  named_told b x e = rw (named_apart b x e) e

  pub array_told : (a : List ℕ) → is_array a ≡ true → reference_of a ≡ Some a
  array_told a e = rw e refl

  pub never_both : (a b : Bool) → b ≡ false → (a && b) ≡ false
  never_both true b e = e
  never_both false b e = refl

  -- through one that is not an array as the first is
  two_leaves : (a b c below above : List ℕ) → reference_of a ≡ Some below → named b ≡ Some above → class_fits program below above ≡ true
      → component_fits program a b ≡ true → Leaf program b c → component_fits program a c ≡ true
  two_leaves a b c below above e f g h (same i) = subst (λ (x : List ℕ). component_fits program a x ≡ true) i h
  two_leaves a b c below above e f g h (classes middle upper i j k) =
      let told : ◌≡◌ {A = Option (List ℕ)} (Some above) (Some middle) = sym (named_told b above f) ∙ i in
      let one : above ≡ middle = cc in
      let whole : class_fits program below upper ≡ true = over below above upper g (subst (λ (x : List ℕ). class_fits program x upper ≡ true) (sym one) k) in
      at_leaf a c (never_both _ _ (named_apart c upper j)) ∙ leaf_is a c (classes below upper e j whole)

  first_leaf : (a b c : List ℕ) → component_fits program a b ≡ true → component_fits program b c ≡ true → Leaf program a b → component_fits program a c ≡ true
  first_leaf a b c e f (same g) = subst (λ (x : List ℕ). component_fits program x c ≡ true) (sym g) f
  first_leaf a b c e f (classes below above g h i) =
      let apart : (is_array b && is_array c) ≡ false = rw (named_apart b above h) refl in
      two_leaves a b c below above g h i e (leaf_seen b c (sym (at_leaf b c apart) ∙ f))

  through_leaf : (a b c : List ℕ) → (is_array a && is_array b) ≡ false → component_fits program a b ≡ true → component_fits program b c ≡ true → component_fits program a c ≡ true
  through_leaf a b c apart e f = first_leaf a b c e f (leaf_seen a b (sym (at_leaf a b apart) ∙ e))

  -- through an array, to one that is none
  pub from_array : (b above : List ℕ) → is_array b ≡ true → is_array above ≡ false → Fit program b above → (above ≡ object) ⊎ (is_interface program above ≡ true)
  from_array b above is apart (equal e) = absurd (false≢true (sym apart ∙ subst (λ (x : List ℕ). is_array x ≡ true) e is))
  from_array b above is apart (top e) = inl e
  from_array b above is apart (interface e) = inr e
  from_array b above is apart (under e f) = absurd (false≢true (sym e ∙ is))

  pub to_any : (a above : List ℕ) → (above ≡ object) ⊎ (is_interface program above ≡ true) → class_fits program a above ≡ true
  to_any a above (inl e) = fits program a above (top e)
  to_any a above (inr e) = fits program a above (interface e)

  array_leaf : (a b c : List ℕ) → is_array a ≡ true → is_array b ≡ true → is_array c ≡ false → Leaf program b c → component_fits program a c ≡ true
  array_leaf a b c e f g (same h) = absurd (false≢true (sym g ∙ subst (λ (x : List ℕ). is_array x ≡ true) h f))
  array_leaf a b c e f g (classes below above h i j) =
      let told : ◌≡◌ {A = Option (List ℕ)} (Some below) (Some b) = sym h ∙ array_told b f in
      let one : below ≡ b = cc in
      let any = from_array b above f (class_apart c above i) (seen program b above (subst (λ (x : List ℕ). class_fits program x above ≡ true) one j)) in
      at_leaf a c (never_both _ _ g) ∙ leaf_is a c (classes a above (array_told a e) i (to_any a above any))

  through_array : (a b c : List ℕ) → is_array a ≡ true → is_array b ≡ true → is_array c ≡ false → component_fits program b c ≡ true → component_fits program a c ≡ true
  through_array a b c e f g h = array_leaf a b c e f g (leaf_seen b c (sym (at_leaf b c (never_both _ _ g)) ∙ h))

  items_over : (a b c : List ℕ) → component_fits program a b ≡ true → component_fits program b c ≡ true → component_fits program a c ≡ true
  items_over [] b c e f = through_leaf [] b c refl e f
  items_over (x ∷ a) [] c e f = through_leaf (x ∷ a) [] c (never_both _ _ refl) e f
  items_over (x ∷ a) (y ∷ b) [] e f =
      elim (cases_Bool ((x == 91) && (y == 91))) [
        | inl is ↦ let both = both_of _ _ is in through_array (x ∷ a) (y ∷ b) [] both.0 both.1 refl f
        | inr apart ↦ through_leaf (x ∷ a) (y ∷ b) [] apart e f
      ]
  items_over (x ∷ a) (y ∷ b) (z ∷ c) e f =
      elim (cases_Bool ((x == 91) && (y == 91))) [
        | inl is ↦
            let both = both_of (x == 91) (y == 91) is in
            elim (cases_Bool (z == 91)) [
              | inl third ↦
                  let lower : component_fits program a b ≡ true = rw is at e in
                  let upper : component_fits program b c ≡ true = rw (both.1, third) at f in
                  rw (both.0, third) (items_over a b c lower upper)
              | inr third ↦ through_array (x ∷ a) (y ∷ b) (z ∷ c) both.0 both.1 third f
            ]
        | inr apart ↦ through_leaf (x ∷ a) (y ∷ b) (z ∷ c) apart e f
      ]

  -- ---- classes and arrays

  pub array_first : (a b : List ℕ) → array_fits program a b ≡ true → is_array a ≡ true
  array_first [] b e = absurd cc
  array_first (x ∷ a) [] e = absurd cc
  array_first (x ∷ a) (y ∷ b) e = (both_of (x == 91) _ e).0

  pub array_second : (a b : List ℕ) → array_fits program a b ≡ true → is_array b ≡ true
  array_second [] b e = absurd cc
  array_second (x ∷ a) [] e = absurd cc
  array_second (x ∷ a) (y ∷ b) e = (both_of (y == 91) _ (both_of (x == 91) _ e).1).0

  array_over : (a b c : List ℕ) → array_fits program a b ≡ true → array_fits program b c ≡ true → array_fits program a c ≡ true
  array_over [] b c e f = absurd cc
  array_over (x ∷ a) [] c e f = absurd cc
  array_over (x ∷ a) (y ∷ b) [] e f = absurd cc
  array_over (x ∷ a) (y ∷ b) (z ∷ c) e f =
      let first = both_of (x == 91) _ e in
      let second = both_of (y == 91) _ f in
      let third = both_of (z == 91) _ second.1 in
      rw (first.0, third.0) (items_over a b c (both_of (y == 91) _ first.1).1 third.1)

  under_array : (a b c : List ℕ) → is_array b ≡ true → Fit program b c → class_fits program a c ≡ true ⊎ (b ≡ c)
  under_array a b c is (equal e) = inr e
  under_array a b c is (top e) = inl (fits program a c (top e))
  under_array a b c is (interface e) = inl (fits program a c (interface e))
  under_array a b c is (under e f) = absurd (false≢true (sym e ∙ is))

  name_over : (a b c : List ℕ) → name_fits program a b ≡ true → name_fits program b c ≡ true → name_fits program a c ≡ true
  name_over a b c e f =
      elim (either_of (class_fits program a b) _ e) [
        | inl one ↦
            elim (either_of (class_fits program b c) _ f) [
              | inl two ↦ or_first _ _ (over a b c one two)
              | inr two ↦
                  let same_ab : a ≡ b = array_equal a b (array_first b c two) (seen program a b one) in
                  subst (λ (x : List ℕ). name_fits program x c ≡ true) (sym same_ab) f
            ]
        | inr one ↦
            elim (either_of (class_fits program b c) _ f) [
              | inl two ↦
                  elim (under_array a b c (array_second a b one) (seen program b c two)) [
                    | inl is ↦ or_first _ _ is
                    | inr is ↦ subst (λ (x : List ℕ). name_fits program a x ≡ true) is e
                  ]
              | inr two ↦ or_second _ _ (array_over a b c one two)
            ]
      ]

  -- ---- types

  index_over : (i j k : ℕ) → (i == j) ≡ true → (j == k) ≡ true → (i == k) ≡ true
  index_over i j k e f = eq-eqb i k (eqb-true i j e ∙ eqb-true j k f)

  to_reference : (t : VType) (b c : List ℕ) → assignable program t (types.Ref b) ≡ true → name_fits program b c ≡ true
      → assignable program t (types.Ref c) ≡ true
  to_reference types.Top b c e f = absurd cc
  to_reference types.Int b c e f = absurd cc
  to_reference types.Null b c e f = refl
  to_reference (types.Ref a) b c e f = name_over a b c e f
  to_reference types.UninitThis b c e f = absurd cc
  to_reference (types.Uninit i) b c e f = absurd cc

  null_reference : (t : VType) (c : List ℕ) → assignable program t types.Null ≡ true → assignable program t (types.Ref c) ≡ true
  null_reference types.Top c e = absurd cc
  null_reference types.Int c e = absurd cc
  null_reference types.Null c e = refl
  null_reference (types.Ref a) c e = absurd cc
  null_reference types.UninitThis c e = absurd cc
  null_reference (types.Uninit i) c e = absurd cc

  to_index : (t : VType) (j k : ℕ) → assignable program t (types.Uninit j) ≡ true → (j == k) ≡ true → assignable program t (types.Uninit k) ≡ true
  to_index types.Top j k e f = absurd cc
  to_index types.Int j k e f = absurd cc
  to_index types.Null j k e f = absurd cc
  to_index (types.Ref a) j k e f = absurd cc
  to_index types.UninitThis j k e f = absurd cc
  to_index (types.Uninit i) j k e f = index_over i j k e f

  pub type_over : (t u v : VType) → assignable program t u ≡ true → assignable program u v ≡ true → assignable program t v ≡ true
  type_over t u types.Top e f = refl
  type_over t types.Int types.Int e f = e
  type_over t types.Null types.Null e f = e
  type_over t types.Null (types.Ref c) e f = null_reference t c e
  type_over t (types.Ref b) (types.Ref c) e f = to_reference t b c e f
  type_over t types.UninitThis types.UninitThis e f = e
  type_over t (types.Uninit j) (types.Uninit k) e f = to_index t j k e f
  type_over t u v e f = absurd cc
