-- Arrays and their items: what is assignable to an array is one, and its items fit where the other's do. What is an object of
-- a class by the machine's test fits that class.
use Rattle.std.proofs.Common.{◌≡◌, ℕ, Bool, true, false, cond, List, [], ◌∷◌, length, take, ◌-◌, Option, Some, None, refl, sym, ap, subst, ◌∙◌, inl, inr}
use Rattle.std.specs.Prelude.{bytes_eq, codes, not, ◌==◌, ◌&&◌, ◌||◌}
use Rattle.std.specs.Option.{option_map_or}
use Rattle.std.proofs.lemmas.Bool.{cases_Bool, eqb-true, or_left, or_right, or_cases, and_parts, not-true}
use Rattle.api_listing.specs.BuiltIn.{object}
use Rattle.cert_format.specs.declared.typing.VType.TheVariants as types
use Rattle.insn_codec.specs.declared.shape.Item.{Item}
use Rattle.insn_codec.specs.declared.shape.Item.TheVariants as items
use Rattle.bytecode_model.specs.declared.program.Program.{Program}
use Rattle.bytecode_model.specs.Arrays.{is_array}
use Rattle.bytecode_model.specs.Assigning.{class_name, named, reference_of, class_fits, leaf_fits, component_fits, array_fits, name_fits, assignable}
use Rattle.bytecode_model.specs.Classes.{is_below, is_interface}
use Rattle.bytecode_model.specs.Described.{type_described}
use Rattle.bytecode_model.specs.Order.{IsInOrder}
use Rattle.bytecode_model.specs.SearchOrder.{Name}
use Rattle.bytecode_model.proofs.Lists.{some_is}
use Rattle.bytecode_model.proofs.Upwards.{same_of, of_same}
use Rattle.type_lattice.proofs.Arrays.{component_itself}
use Rattle.type_lattice.proofs.Orders.{top, interface, under, Leaf, same, classes, itself, seen, fits, array_equal, leaf_seen, at_leaf, named_apart, never_both}
use Rattle.guest_heap.specs.declared.object.Object.{Object}
use Rattle.guest_heap.specs.declared.value.Value.{Value}
use Rattle.guest_model.specs.Kinds.{class_of_value, implements, class_is, leaf_is, component_is, array_is, is_kind_of, is_instance}
use Rattle.guest_model.specs.Layout.{is_of_references}
use Rattle.guest_model.specs.HeapOperations.{has_items}
use Rattle.typed_runs.specs.Fitting.{is_of}
use Rattle.typed_runs.proofs.Types.{held, holds_at}

-- ---- descriptors

chosen_if : {A : Type 0} (b : Bool) (o : Option A) (x : A) → cond b o None ≡ Some x → (b ≡ true) × (o ≡ Some x)
chosen_if true o x e = (refl, e)
chosen_if false o x e = absurd cc

chosen_unless : {A : Type 0} (b : Bool) (x y : A) → cond b None (Some x) ≡ Some y → x ≡ y
chosen_unless true x y e = absurd cc
chosen_unless false x y e = some_is x y e

described_letter : (b : ℕ) (text : List ℕ) → (b == 91) ≡ false → (b == 76) ≡ true → type_described (b ∷ text) ≡ types.Ref (take (length text - 1) text)
described_letter b text e f = rw (e, f) refl

array_described : (desc : List ℕ) → is_array desc ≡ true → type_described desc ≡ types.Ref desc
array_described [] e = absurd cc
array_described (b ∷ text) e = rw e refl

-- a letter `L`, and what the name after it is
named_parts : (desc : List ℕ) (name : Name) → named desc ≡ Some name
    → (b : ℕ) × (text : List ℕ) × (desc ≡ b ∷ text) × ((b == 76) ≡ true) × (take (length text - 1) text ≡ name)
named_parts [] name e = absurd cc
named_parts (b ∷ text) name e =
    let c = chosen_if _ (class_name (take (length text - 1) text)) name e in
    (b, text, refl, (and_parts (b == 76) _ c.0).0, chosen_unless (is_array (take (length text - 1) text)) _ name c.1)

named_described : (desc : List ℕ) (name : Name) → is_array desc ≡ false → named desc ≡ Some name → type_described desc ≡ types.Ref name
named_described desc name apart e =
    let p = named_parts desc name e in
    let other : (p.0 == 91) ≡ false = subst (λ (d : List ℕ). is_array d ≡ false) p.2 apart in
    ap type_described p.2 ∙ described_letter p.0 p.1 other p.3 ∙ ap (λ (n : Name). types.Ref n) p.4

-- the class or the array that a descriptor tells
pub reference_described : (desc : List ℕ) (name : Name) → reference_of desc ≡ Some name → type_described desc ≡ types.Ref name
reference_described desc name e =
    elim (cases_Bool (is_array desc)) [
      | inl is ↦
          let h : ◌≡◌ {A = Option Name} (Some desc) (Some name) = rw is at e in
          array_described desc is ∙ ap (λ (n : Name). types.Ref n) (some_is desc name h)
      | inr apart ↦ let h : named desc ≡ Some name = rw apart at e in named_described desc name apart h
    ]

named_first : (desc : List ℕ) (name : Name) → named desc ≡ Some name → is_of_references desc ≡ true
named_first desc name e =
    let p = named_parts desc name e in
    subst (λ (d : List ℕ). is_of_references d ≡ true) (sym p.2) (or_left (p.0 == 76) _ p.3)

array_first : (desc : List ℕ) → is_array desc ≡ true → is_of_references desc ≡ true
array_first [] e = e
array_first (b ∷ text) e = or_right (b == 76) _ e

pub reference_first : (desc : List ℕ) (name : Name) → reference_of desc ≡ Some name → is_of_references desc ≡ true
reference_first desc name e =
    elim (cases_Bool (is_array desc)) [
      | inl is ↦ array_first desc is
      | inr apart ↦ let h : named desc ≡ Some name = rw apart at e in named_first desc name h
    ]

module _ (program : Program) where
  arrays_fit : (from to : List ℕ) → is_array from ≡ true → is_array to ≡ true → component_fits program from to ≡ true → array_fits program from to ≡ true
  arrays_fit [] to e f g = absurd cc
  arrays_fit (c ∷ from) [] e f g = absurd cc
  arrays_fit (c ∷ from) (d ∷ to) e f g = let h : component_fits program from to ≡ true = rw (e, f) at g in rw (e, f) h

  -- ---- what the machine's tests tell

  pub class_kind : (name other : Name) → class_is program name other ≡ true → class_fits program name other ≡ true
  class_kind name other e =
      elim (or_cases (bytes_eq other object) _ e) [
        | inl is ↦ fits program name other (top (same_of other object is))
        | inr more ↦
            let a = and_parts (not (is_array name)) (is_below program name other || implements program name other) more in
            elim (or_cases (is_below program name other) _ a.1) [
              | inl below ↦ fits program name other (under (not-true (is_array name) a.0) below)
              | inr has ↦ fits program name other (interface (and_parts (is_interface program other) _ has).0)
            ]
      ]

  both_there : (o p : Option Name) (f g : Name → Name → Bool) → ((below above : Name) → f below above ≡ true → g below above ≡ true)
      → option_map_or (λ above. option_map_or (λ below. f below above) o false) p false ≡ true
      → option_map_or (λ above. option_map_or (λ below. g below above) o false) p false ≡ true
  both_there None None f g each e = e
  both_there None (Some above) f g each e = e
  both_there (Some below) None f g each e = e
  both_there (Some below) (Some above) f g each e = each below above e

  leaf_kind : (from to : List ℕ) → leaf_is program from to ≡ true → leaf_fits program from to ≡ true
  leaf_kind from to e =
      elim (or_cases (bytes_eq from to) _ e) [
        | inl is ↦ or_left (bytes_eq from to) _ is
        | inr more ↦ or_right (bytes_eq from to) _ (both_there (reference_of from) (named to) (class_is program) (class_fits program) class_kind more)
      ]

  either_also : (b x y u w : Bool) → (x ≡ true → u ≡ true) → (y ≡ true → w ≡ true) → cond b x y ≡ true → cond b u w ≡ true
  either_also true x y u w f g e = f e
  either_also false x y u w f g e = g e

  component_kind : (from to : List ℕ) → component_is program from to ≡ true → component_fits program from to ≡ true
  component_kind [] to e = leaf_kind [] to e
  component_kind (c ∷ from) [] e = leaf_kind (c ∷ from) [] e
  component_kind (c ∷ from) (d ∷ to) e =
      either_also ((c == 91) && (d == 91)) (component_is program from to) (leaf_is program (c ∷ from) (d ∷ to)) (component_fits program from to)
      (leaf_fits program (c ∷ from) (d ∷ to)) (component_kind from to) (leaf_kind (c ∷ from) (d ∷ to)) e

  both_also : (a b c d : Bool) → (c ≡ true → d ≡ true) → (a && (b && c)) ≡ true → (a && (b && d)) ≡ true
  both_also true true c d f e = f e
  both_also true false c d f e = e
  both_also false b c d f e = e

  array_kind : (from to : List ℕ) → array_is program from to ≡ true → array_fits program from to ≡ true
  array_kind [] to e = absurd cc
  array_kind (c ∷ from) [] e = absurd cc
  array_kind (c ∷ from) (d ∷ to) e = both_also (c == 91) (d == 91) (component_is program from to) (component_fits program from to) (component_kind from to) e

  -- what is of a class, or an array, is assignable to it
  pub kind_fits : (name other : Name) → is_kind_of program name other ≡ true → assignable program (types.Ref name) (types.Ref other) ≡ true
  kind_fits name other e =
      elim (or_cases (class_is program name other) _ e) [
        | inl is ↦ or_left (class_fits program name other) _ (class_kind name other is)
        | inr is ↦ or_right (class_fits program name other) _ (array_kind name other is)
      ]

  pub instance_fits : (heap : List Object) (v : Value) (name : Name) → is_instance program heap v name ≡ true → is_of program heap name v ≡ true
  instance_fits heap v name e =
      let h = holds_at (λ class. is_kind_of program class name) (class_of_value heap v) e in
      held (λ class. assignable program (types.Ref class) (types.Ref name)) (class_of_value heap v) h.item h.is (kind_fits h.item name h.passes)

module _ (program : Program) (order : IsInOrder program) where
  -- ---- what is assignable to an array

  array_above : (from item : List ℕ) → array_fits program from (91 ∷ item) ≡ true
      → (rest : List ℕ) × (from ≡ 91 ∷ rest) × (component_fits program rest item ≡ true)
  array_above [] item e = absurd cc
  array_above (c ∷ rest) item e =
      let a = and_parts (c == 91) (component_fits program rest item) e in
      (rest, ap (λ (b : ℕ). b ∷ rest) (eqb-true c 91 a.0), a.1)

  pub only_arrays : (from item : List ℕ) → name_fits program from (91 ∷ item) ≡ true
      → (rest : List ℕ) × (from ≡ 91 ∷ rest) × (component_fits program rest item ≡ true)
  only_arrays from item e =
      elim (or_cases (class_fits program from (91 ∷ item)) _ e) [
        | inl one ↦ (item, array_equal program order from (91 ∷ item) refl (seen program from (91 ∷ item) one), component_itself program item)
        | inr two ↦ array_above from item two
      ]

  -- an array of items that are neither classes nor arrays
  pub plain_array : (from item : List ℕ) → is_array item ≡ false → named item ≡ None → name_fits program from (91 ∷ item) ≡ true → from ≡ 91 ∷ item
  plain_array from item apart none e =
      let a = only_arrays from item e in
      let leaf = leaf_seen program order a.0 item (sym (at_leaf program order a.0 item (never_both program order _ _ apart)) ∙ a.2) in
      a.1 ∙ ap (λ (r : List ℕ). 91 ∷ r) (plain leaf) where
        plain : {rest : List ℕ} → Leaf program rest item → rest ≡ item
        plain (same f) = f
        plain (classes below above f g h) = absurd (let both : ◌≡◌ {A = Option (List ℕ)} None (Some above) = sym none ∙ g in cc)

  -- ---- the types of items

  both_arrays : (from item : List ℕ) → is_array from ≡ true → is_array item ≡ true → component_fits program from item ≡ true
      → assignable program (type_described from) (type_described item) ≡ true
  both_arrays from item e f g =
      rw (array_described from e, array_described item f) (or_right (class_fits program from item) _ (arrays_fit program from item e f g))

  leaf_over : (from item : List ℕ) → Leaf program from item → assignable program (type_described from) (type_described item) ≡ true
  leaf_over from item (same e) = rw e (itself program (type_described item))
  leaf_over from item (classes below above e f g) =
      let named_one : reference_of item ≡ Some above = rw (named_apart program order item above f) f in
      rw (reference_described from below e, reference_described item above named_one) (or_left (class_fits program below above) _ g)

  at_leaves : (from item : List ℕ) → (is_array from && is_array item) ≡ false → component_fits program from item ≡ true
      → assignable program (type_described from) (type_described item) ≡ true
  at_leaves from item apart e = leaf_over from item (leaf_seen program order from item (sym (at_leaf program order from item apart) ∙ e))

  pub item_over : (from item : List ℕ) → component_fits program from item ≡ true
      → assignable program (type_described from) (type_described item) ≡ true
  item_over from item e =
      elim (cases_Bool (is_array from)) [
        | inl one ↦
            elim (cases_Bool (is_array item)) [
              | inl two ↦ both_arrays from item one two e
              | inr apart ↦ at_leaves from item (never_both program order _ _ apart) e
            ]
        | inr apart ↦ let no : (is_array from && is_array item) ≡ false = rw apart refl in at_leaves from item no e
      ]

  -- ---- arrays that instructions want

  leaf_first : (rest : List ℕ) → Leaf program rest (codes "Ljava/lang/Object;") → is_of_references rest ≡ true
  leaf_first rest (same e) = subst (λ (d : List ℕ). is_of_references d ≡ true) (sym e) refl
  leaf_first rest (classes below above e f g) = reference_first rest below e

  reference_array : (from : List ℕ) → name_fits program from (codes "[Ljava/lang/Object;") ≡ true → has_items items.Reference from ≡ true
  reference_array from e =
      let a = only_arrays from (codes "Ljava/lang/Object;") e in
      let leaf = leaf_seen program order a.0 (codes "Ljava/lang/Object;")
      (sym (at_leaf program order a.0 (codes "Ljava/lang/Object;") (never_both program order _ _ refl)) ∙ a.2) in
      subst (λ (d : List ℕ). has_items items.Reference d ≡ true) (sym a.1) (leaf_first a.0 leaf)

  exactly : (from item : List ℕ) → is_array item ≡ false → named item ≡ None → name_fits program from (91 ∷ item) ≡ true
      → bytes_eq from (91 ∷ item) ≡ true
  exactly from item apart none e = of_same from (91 ∷ item) (plain_array from item apart none e)

  -- the descriptor of what is wanted by an instruction on such items
  pub data Wanted (from : List ℕ) : Item → Type 0 where
    ints : name_fits program from (codes "[I") ≡ true → Wanted from items.Int
    references : name_fits program from (codes "[Ljava/lang/Object;") ≡ true → Wanted from items.Reference
    bytes : name_fits program from (codes "[B") ≡ true → Wanted from items.Byte
    truths : name_fits program from (codes "[Z") ≡ true → Wanted from items.Byte
    chars : name_fits program from (codes "[C") ≡ true → Wanted from items.Char
    shorts : name_fits program from (codes "[S") ≡ true → Wanted from items.Short

  pub wanted_items : (item : Item) (from : List ℕ) → Wanted from item → has_items item from ≡ true
  wanted_items item from (ints e) = exactly from (codes "I") refl refl e
  wanted_items item from (references e) = reference_array from e
  wanted_items item from (bytes e) = or_left (bytes_eq from (codes "[B")) _ (exactly from (codes "B") refl refl e)
  wanted_items item from (truths e) = or_right (bytes_eq from (codes "[B")) _ (exactly from (codes "Z") refl refl e)
  wanted_items item from (chars e) = exactly from (codes "C") refl refl e
  wanted_items item from (shorts e) = exactly from (codes "S") refl refl e

  -- an item of an array of references is of a class or an array
  reference_leaf : (rest : List ℕ) → Leaf program rest (codes "Ljava/lang/Object;") → (name : Name) × (type_described rest ≡ types.Ref name)
  reference_leaf rest (same e) = (object, ap type_described e)
  reference_leaf rest (classes below above e f g) = (below, reference_described rest below e)

  pub reference_item : (rest : List ℕ) → component_fits program rest (codes "Ljava/lang/Object;") ≡ true
      → (name : Name) × (type_described rest ≡ types.Ref name)
  reference_item rest e =
      reference_leaf rest (leaf_seen program order rest (codes "Ljava/lang/Object;")
      (sym (at_leaf program order rest (codes "Ljava/lang/Object;") (never_both program order _ _ refl)) ∙ e))
