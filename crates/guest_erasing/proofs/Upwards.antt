-- The classes above a class stay the same with one class more that none of them names.
use Rattle.std.proofs.Common.{◌≡◌, ◌≢◌, ℕ, zero, suc, ◌+◌, Bool, true, false, List, [], ◌∷◌, ◌++◌, length, Option, Some, None, refl, sym, ap, subst, ◌∙◌, append-nil, arith}
use Rattle.std.specs.Prelude.{bytes_eq, find, if◌then◌else◌}
use Rattle.std.specs.List.{AllByRecursion}
use Rattle.std.specs.Option.{option_map_or, option_or}
use Rattle.std.proofs.lemmas.Grind.{flat_map-append}
use Rattle.std.proofs.lemmas.List.{length-append}
use Rattle.std.proofs.lemmas.List.Folds.{find-append}
use Rattle.api_listing.specs.declared.types.ListedClass.{ListedClass}
use Rattle.api_listing.specs.Nearest.{class_named, upwards, names_of, interfaces_of}
use Rattle.bytecode_model.specs.Order.{EachWayEnds}
use Rattle.bytecode_model.specs.SearchOrder.{Name, is_one_of, interfaces_above, interfaces_from, with_name, with_above, reached, search_order}
use Rattle.bytecode_model.proofs.Lists.{or_none}
use Rattle.guest_erasing.proofs.Names.{other_name}

abbrev has_name : List ℕ → ListedClass → Bool
has_name name c = bytes_eq c.name name

-- what holds of each holds of the one that is found
pub found_fits : {X : Type 0} (p : X → Bool) (P : X → Type 0) (xs : List X) (x : X) → AllByRecursion P xs → find p xs ≡ Some x → P x
found_fits {X = X} p P [] x all e = absurd cc
found_fits {X = X} p P (y ∷ xs) x all e = by (p y) e (found_fits p P xs x all.1) where
  by : (b : Bool) → (if b then Some y else find p xs) ≡ Some x → (find p xs ≡ Some x → P x) → P x
  by true e rest =
      let same : y ≡ x = cc in
      subst P same all.0
  by false e rest = rest e

module _ (classes : List ListedClass) (s : ListedClass) (parents : AllByRecursion (λ (c : ListedClass). c.parent ≢ s.name) classes) where
  named_same : (name : List ℕ) → name ≢ s.name → class_named (classes ++ s ∷ []) name ≡ class_named classes name
  named_same name other =
      let not : bytes_eq s.name name ≡ false = other_name s.name name (λ e. other (sym e)) in
      let none : class_named (s ∷ []) name ≡ None = ap (λ (b : Bool). if b then Some s else None) not in
      find-append (has_name name) classes (s ∷ [])
      ∙ ap (λ (o : Option ListedClass). option_or (class_named classes name) o) none ∙ or_none (class_named classes name)

  parent_is : (name : List ℕ) (c : ListedClass) → class_named classes name ≡ Some c → c.parent ≢ s.name
  parent_is name c e = found_fits (has_name name) (λ (x : ListedClass). x.parent ≢ s.name) classes c parents e

  abbrev up_from : ℕ → List ListedClass → Option ListedClass → List ListedClass
  up_from n cs found = option_map_or (λ (c : ListedClass). c ∷ upwards n cs c.parent) found []

  upwards_same : (n : ℕ) (name : List ℕ) → name ≢ s.name → upwards n (classes ++ s ∷ []) name ≡ upwards n classes name
  upwards_same zero name other = refl
  upwards_same (suc n) name other =
      ap (λ (o : Option ListedClass). up_from n (classes ++ s ∷ []) o) (named_same name other)
      ∙ by (class_named classes name) refl (λ parent. upwards_same n parent) where
        by : (o : Option ListedClass) → class_named classes name ≡ o
            → ((parent : List ℕ) → parent ≢ s.name → upwards n (classes ++ s ∷ []) parent ≡ upwards n classes parent)
            → up_from n (classes ++ s ∷ []) o ≡ up_from n classes o
        by None is later = refl
        by (Some c) is later = ap (λ (xs : List ListedClass). c ∷ xs) (later c.parent (parent_is name c is))

  module _ (ends : EachWayEnds classes) where
    -- with as many steps as there are classes
    pub superclasses_same : (name : List ℕ) → name ≢ s.name
        → upwards (length (classes ++ s ∷ [])) (classes ++ s ∷ []) name ≡ upwards (length classes) classes name
    superclasses_same name other =
        let count : length (classes ++ s ∷ []) ≡ suc (length classes) = omega (arith, length-append classes (s ∷ [])) in
        ap (λ (n : ℕ). upwards n (classes ++ s ∷ []) name) count ∙ upwards_same (suc (length classes)) name other ∙ ends name

    module _ (alone : s.interfaces ≡ []) where
      abbrev interfaces_in : Option ListedClass → List Name
      interfaces_in found = option_map_or (λ (c : ListedClass). c.interfaces) found []

      above_same : (name : List ℕ) → interfaces_above (classes ++ s ∷ []) name ≡ interfaces_above classes name
      above_same name =
          ap (λ (o : Option ListedClass). interfaces_in o) (find-append (has_name name) classes (s ∷ []))
          ∙ by (class_named classes name) (bytes_eq s.name name) where
            by : (o : Option ListedClass) (b : Bool) → interfaces_in (option_or o (if b then Some s else None)) ≡ interfaces_in o
            by (Some c) b = refl
            by None true = alone
            by None false = refl

      waiting_same : (found : List Name) (name : Name) (waiting : List Name)
          → with_above (classes ++ s ∷ []) found name waiting ≡ with_above classes found name waiting
      waiting_same found name waiting = ap (λ (xs : List Name). if is_one_of found name then waiting else waiting ++ xs) (above_same name)

      reached_same : (n : ℕ) (found waiting : List Name) → reached n (classes ++ s ∷ []) found waiting ≡ reached n classes found waiting
      reached_same zero found waiting = refl
      reached_same (suc n) found [] = refl
      reached_same (suc n) found (name ∷ waiting) =
          ap (reached n (classes ++ s ∷ []) (with_name found name)) (waiting_same found name waiting)
          ∙ reached_same n (with_name found name) (with_above classes found name waiting)

      interfaces_same : interfaces_of (classes ++ s ∷ []) ≡ interfaces_of classes
      interfaces_same =
          flat_map-append (λ (c : ListedClass). c.interfaces) classes (s ∷ [])
          ∙ ap (λ (xs : List Name). interfaces_of classes ++ (xs ++ [])) alone ∙ append-nil (interfaces_of classes)

      pub order_same : (name : List ℕ) → name ≢ s.name → search_order (classes ++ s ∷ []) name ≡ search_order classes name
      order_same name other =
          let us : List ListedClass = upwards (length classes) classes name in
          let first : List Name = interfaces_of us in
          let all : List ListedClass → ℕ → List Name =
          λ cs n. names_of us ++ reached (length first + n) cs [] first in
          let begin : List ListedClass → List Name =
          λ xs. names_of xs ++ interfaces_from (classes ++ s ∷ []) (interfaces_of xs) in
          let one : search_order (classes ++ s ∷ []) name ≡ begin us = ap begin (superclasses_same name other) in
          let two : begin us ≡ all (classes ++ s ∷ []) (length (interfaces_of classes)) =
          ap (λ (xs : List Name). all (classes ++ s ∷ []) (length xs)) interfaces_same in
          one ∙ two ∙ ap (λ (xs : List Name). names_of us ++ xs) (reached_same (length first + length (interfaces_of classes)) [] first)
