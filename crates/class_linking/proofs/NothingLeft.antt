-- Where interfaces ask for no method that the library has above a class, the class leaves none to the library.
use Rattle.std.proofs.Common.{◌≡◌, Bool, true, false, not, cond, ◌&&◌, ◌||◌, List, [], ◌∷◌, ◌++◌, Some, None, refl, sym, ap, ◌∙◌}
use Rattle.std.specs.Prelude.{find, option_map}
use Rattle.std.specs.List.{AllByRecursion, flat_map, list_any}
use Rattle.std.proofs.lemmas.Bool.{or_parts}
use Rattle.mon_base.specs.declared.method.MethodId.{MethodId}
use Rattle.class_codec.specs.declared.tree.ClassFile.{ClassFile}
use Rattle.api_listing.specs.declared.types.ListedClass.{ListedClass}
use Rattle.api_listing.specs.declared.types.Listing.{Listing}
use Rattle.api_listing.specs.Nearest.{interfaces_of, names_of}
use Rattle.bytecode_model.specs.Conditions.{is_of_library, overrides_in}
use Rattle.bytecode_model.specs.Heads.{all_classes}
use Rattle.bytecode_model.specs.LeftMethods.{asked_by_named, is_left, left_in, left_to_library, offered_in}
use Rattle.bytecode_model.specs.Members.{in_class}
use Rattle.bytecode_model.specs.SearchOrder.{Name, interfaces_from, search_order, superclasses}
use Rattle.class_index.specs.Asking.{AsksNothing, IsUnasked}
use Rattle.class_index.specs.Library.{OverridesAs}

-- ---- lists

none_pass : {X : Type 0} (p : X → Bool) (xs : List X) → list_any p xs ≡ false → AllByRecursion (λ (x : X). p x ≡ false) xs
none_pass p [] e = tt
none_pass p (x ∷ xs) e =
    let both = or_parts (p x) (list_any p xs) e in
    (both.0, none_pass p xs both.1)

none_in_front : {X : Type 0} (p : X → Bool) (xs ys : List X) → list_any p (xs ++ ys) ≡ false → list_any p xs ≡ false
none_in_front p [] ys e = refl
none_in_front p (x ∷ xs) ys e =
    let both = or_parts (p x) (list_any p (xs ++ ys)) e in
    ap (λ (b : Bool). b || list_any p xs) both.0 ∙ none_in_front p xs ys both.1

find_nothing : {X : Type 0} (p : X → Bool) (xs : List X) → AllByRecursion (λ (x : X). p x ≡ false) xs → find p xs ≡ None
find_nothing p [] all = refl
find_nothing p (x ∷ xs) all = ap (λ (b : Bool). cond b (Some x) (find p xs)) all.0 ∙ find_nothing p xs all.1

all_joined : {X : Type 0} (P : X → Type 0) (xs ys : List X) → AllByRecursion P xs → AllByRecursion P ys → AllByRecursion P (xs ++ ys)
all_joined P [] ys a b = b
all_joined P (x ∷ xs) ys a b = (a.0, all_joined P xs ys a.1 b)

all_flat : {X Y : Type 0} (P : Y → Type 0) (f : X → List Y) (xs : List X) → ((x : X) → AllByRecursion P (f x)) → AllByRecursion P (flat_map f xs)
all_flat P f [] each = tt
all_flat P f (x ∷ xs) each = all_joined P (f x) (flat_map f xs) (each x) (all_flat P f xs each)

all_through : {X : Type 0} (P Q : X → Type 0) (xs : List X) → ((x : X) → P x → Q x) → AllByRecursion P xs → AllByRecursion Q xs
all_through P Q [] f all = tt
all_through P Q (x ∷ xs) f all = (f x all.0, all_through P Q xs f all.1)

-- ---- methods that the library has in none of some classes

module _ (listing : Listing) where
  abbrev Unowned : List Name → MethodId → Type 0
  Unowned classes id = overrides_in listing id classes ≡ false

  in_none : (ids : List MethodId) → AllByRecursion (Unowned []) ids
  in_none [] = tt
  in_none (id ∷ ids) = (refl, in_none ids)

  nor_in : (class : Name) (classes : List Name) (ids : List MethodId) → AllByRecursion (λ (id : MethodId). is_of_library listing (in_class id class) ≡ false) ids
      → AllByRecursion (Unowned classes) ids → AllByRecursion (Unowned (class ∷ classes)) ids
  nor_in class classes [] a b = tt
  nor_in class classes (id ∷ ids) a b = (ap (λ (h : Bool). h || overrides_in listing id classes) a.0 ∙ b.0, nor_in class classes ids a.1 b.1)

  unowned : (ids : List MethodId) (classes : List Name)
      → AllByRecursion (λ (class : Name). list_any (λ (id : MethodId). is_of_library listing (in_class id class)) ids ≡ false) classes
      → AllByRecursion (Unowned classes) ids
  unowned ids [] all = in_none ids
  unowned ids (class ∷ classes) all =
      nor_in class classes ids (none_pass (λ (id : MethodId). is_of_library listing (in_class id class)) ids all.0) (unowned ids classes all.1)

-- ---- nothing is left

module _ (files : List ClassFile) (listing : Listing) where
  abbrev Kept : List Name → MethodId → Type 0
  Kept supers id = is_left files listing supers id ≡ false

  kept : (supers : List Name) (id : MethodId) → overrides_in listing id supers ≡ false → Kept supers id
  kept supers id e = ap (λ (b : Bool). b && not (offered_in files listing id supers)) e

  -- of what one interface asks for
  pub nothing_left_by : (owners supers : List Name) (name : Name) → OverridesAs listing owners supers → AllByRecursion (AsksNothing files listing name) owners
      → option_map (λ (id : MethodId). id.name) (find (is_left files listing supers) (asked_by_named files name)) ≡ None
  nothing_left_by owners supers name same all =
      let ids = asked_by_named files name in
      ap (option_map (λ (id : MethodId). id.name)) (find_nothing (is_left files listing supers) ids
      (all_through (Unowned listing owners) (Kept supers) ids (λ id e. kept supers id (sym (same id) ∙ e)) (unowned listing ids owners all)))

  -- of what the interfaces above a class ask for
  pub nothing_left_in : (above : List Name) (class : Name) → OverridesAs listing above (search_order (all_classes listing files) class)
      → AllByRecursion (IsUnasked files listing) above → left_in files listing class ≡ None
  nothing_left_in above class same all =
      let classes = all_classes listing files in
      let supers : List Name = names_of (superclasses classes class) in
      let others : List Name = interfaces_from classes (interfaces_of (superclasses classes class)) in
      let each : (name : Name) → AllByRecursion (Kept supers) (asked_by_named files name) =
      λ name.
      all_through (Unowned listing above) (Kept supers) (asked_by_named files name)
      (λ id e. kept supers id (none_in_front (λ (c : Name). is_of_library listing (in_class id c)) supers others (sym (same id) ∙ e)))
      (unowned listing (asked_by_named files name) above
      (all_through (IsUnasked files listing) (AsksNothing files listing name) above (λ c asks. asks name) all)) in
      ap (option_map (λ (id : MethodId). id.name)) (find_nothing (is_left files listing supers) (flat_map (asked_by_named files) (search_order classes class))
      (all_flat (Kept supers) (asked_by_named files) (search_order classes class) each))

  -- an interface leaves none anyway
  pub nothing_left : (c : ListedClass) → left_in files listing c.name ≡ None → None ≡ left_to_library files listing c
  nothing_left c e = by c.is_interface where
    by : (b : Bool) → None ≡ cond b None (left_in files listing c.name)
    by true = refl
    by false = sym e
