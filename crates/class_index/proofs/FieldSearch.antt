-- Where no interface declares a field, it is found as in the superclasses alone.
use Rattle.std.proofs.Common.{◌≡◌, ℕ, zero, suc, Bool, true, false, cond, ◌||◌, List, [], ◌∷◌, ◌++◌, Option, Some, None, refl, sym, ap, subst, ◌∙◌}
use Rattle.std.specs.Prelude.{bytes_eq, find}
use Rattle.std.specs.List.{AllByRecursion}
use Rattle.std.specs.Option.{option_map_or, option_or}
use Rattle.std.proofs.lemmas.Slice.Eq.{bytes_eq-Decides}
use Rattle.mon_base.specs.declared.method.MethodId.{MethodId}
use Rattle.api_listing.specs.declared.types.ListedClass.{ListedClass}
use Rattle.api_listing.specs.Nearest.{class_named, interfaces_of, names_of, upwards}
use Rattle.bytecode_model.specs.declared.members.Found.{Found}
use Rattle.bytecode_model.specs.Members.{first_found, in_class}
use Rattle.bytecode_model.specs.SearchOrder.{Name, above_first, each_with_interfaces, field_order, interfaces_above, is_one_of, most}
use Rattle.bytecode_model.specs.SearchOrder.{reached_in_turn, superclasses, with_interfaces, with_name}
use Rattle.bytecode_model.proofs.Lists.{all_append, or_none, or_or, some_is}
use Rattle.bytecode_model.proofs.Placing.{same_name, test_cases}

-- ---- lists

-- what is said of all is said of those in front, and of those after
all_front : {X : Type 0} (P : X → Type 0) (xs ys : List X) → AllByRecursion P (xs ++ ys) → AllByRecursion P xs
all_front P [] ys all = tt
all_front P (x ∷ xs) ys all = (all.0, all_front P xs ys all.1)

all_after : {X : Type 0} (P : X → Type 0) (xs ys : List X) → AllByRecursion P (xs ++ ys) → AllByRecursion P ys
all_after P [] ys all = all
all_after P (x ∷ xs) ys all = all_after P xs ys all.1

-- what is said of each name of the list is said of all
all_named : (P : Name → Type 0) (names : List Name) → ((name : Name) → is_one_of names name ≡ true → P name) → AllByRecursion P names
all_named P [] each = tt
all_named P (x ∷ xs) each =
    let own : bytes_eq x x ≡ true = (bytes_eq-Decides x x).1 refl in (
      each x (ap (λ (b : Bool). b || is_one_of xs x) own),
      all_named P xs (λ name has. each name (by (bytes_eq x name) (is_one_of xs name) has)),
    ) where
      by : (a b : Bool) → b ≡ true → (a || b) ≡ true
      by true b e = refl
      by false b e = e

-- the interfaces of a class that is found are among those of all
interfaces_among : (P : Name → Type 0) (classes : List ListedClass) (name : Name) (c : ListedClass) → class_named classes name ≡ Some c
    → AllByRecursion P (interfaces_of classes) → AllByRecursion P c.interfaces
interfaces_among P [] name c e all = absurd cc
interfaces_among P (k ∷ ks) name c e all = by (bytes_eq k.name name) (λ f. interfaces_among P ks name c f (all_after P k.interfaces (interfaces_of ks) all)) e where
  by : (b : Bool) → (class_named ks name ≡ Some c → AllByRecursion P c.interfaces)
      → cond b (Some k) (find (λ (x : ListedClass). bytes_eq x.name name) ks) ≡ Some c → AllByRecursion P c.interfaces
  by true later f = subst (λ (x : ListedClass). AllByRecursion P x.interfaces) (some_is k c f) (all_front P k.interfaces (interfaces_of ks) all)
  by false later f = later f

module _ (look : MethodId → Option Found) (id : MethodId) where
  abbrev found : List Name → Option Found
  found names = first_found look id names

  abbrev own : Name → Option Found
  own name = look (in_class id name)

  found_pushed : (names : List Name) (name : Name) → found (names ++ name ∷ []) ≡ option_or (found names) (own name)
  found_pushed [] name = or_none (own name)
  found_pushed (x ∷ xs) name = ap (option_or (own x)) (found_pushed xs name) ∙ sym (or_or (own x) (found xs) (own name))

  once_more : (o r : Option Found) → option_or (option_or o r) o ≡ option_or o r
  once_more None r = or_none r
  once_more (Some f) r = refl

  found_before : (names : List Name) (name : Name) → is_one_of names name ≡ true → found names ≡ option_or (found names) (own name)
  found_before [] name e = absurd cc
  found_before (x ∷ xs) name e = by (bytes_eq x name) refl (found_before xs name) e where
    by : (b : Bool) → bytes_eq x name ≡ b → (is_one_of xs name ≡ true → found xs ≡ option_or (found xs) (own name)) → (b || is_one_of xs name) ≡ true
        → found (x ∷ xs) ≡ option_or (found (x ∷ xs)) (own name)
    by true is later has = subst (λ (n : Name). found (x ∷ xs) ≡ option_or (found (x ∷ xs)) (own n)) (same_name x name is) (sym (once_more (own x) (found xs)))
    by false is later has = ap (option_or (own x)) (later has) ∙ sym (or_or (own x) (found xs) (own name))

  -- a name that is added if it is new
  found_with : (names : List Name) (name : Name) → found (with_name names name) ≡ option_or (found names) (own name)
  found_with names name =
      test_cases (is_one_of names name) (λ b. found (cond b names (names ++ name ∷ [])) ≡ option_or (found names) (own name))
      (λ e. found_before names name e) (λ e. found_pushed names name)

  module _ (classes : List ListedClass) (aside : AllByRecursion (λ (name : Name). own name ≡ None) (interfaces_of classes)) where
    abbrev Aside : List Name → Type 0
    Aside names = AllByRecursion (λ (name : Name). own name ≡ None) names

    above_aside : (name : Name) → Aside (interfaces_above classes name)
    above_aside name = by (class_named classes name) refl where
      by : (o : Option ListedClass) → class_named classes name ≡ o → Aside (option_map_or (λ (c : ListedClass). c.interfaces) o [])
      by None e = tt
      by (Some c) e = interfaces_among (λ (n : Name). own n ≡ None) classes name c e aside

    turn_aside : (names : List Name) (name : Name) (waiting : List Name) → Aside waiting → Aside (above_first classes names name waiting)
    turn_aside names name waiting all =
        test_cases (is_one_of names name) (λ b. Aside (cond b waiting (interfaces_above classes name ++ waiting)))
        (λ e. all) (λ e. all_append (λ (n : Name). own n ≡ None) (interfaces_above classes name) waiting (above_aside name) all)

    -- interfaces change nothing
    found_in_turn : (n : ℕ) (names waiting : List Name) → Aside waiting → found (reached_in_turn n classes names waiting) ≡ found names
    found_in_turn zero names waiting all = refl
    found_in_turn (suc n) names [] all = refl
    found_in_turn (suc n) names (name ∷ waiting) all =
        found_in_turn n (with_name names name) (above_first classes names name waiting) (turn_aside names name waiting all.1)
        ∙ found_with names name ∙ ap (option_or (found names)) all.0 ∙ or_none (found names)

    found_in_class : (names : List Name) (c : ListedClass) → Aside c.interfaces
        → found (with_interfaces classes names c) ≡ option_or (found names) (own c.name)
    found_in_class names c all =
        found_in_turn (most classes c.interfaces) (with_name names c.name) c.interfaces all ∙ found_with names c.name

    found_in_each : (names : List Name) (cs : List ListedClass) → AllByRecursion (λ (c : ListedClass). Aside c.interfaces) cs
        → found (each_with_interfaces classes names cs) ≡ option_or (found names) (found (names_of cs))
    found_in_each names [] all = sym (or_none (found names))
    found_in_each names (c ∷ cs) all =
        found_in_each (with_interfaces classes names c) cs all.1
        ∙ ap (λ (o : Option Found). option_or o (found (names_of cs))) (found_in_class names c all.0)
        ∙ or_or (found names) (own c.name) (found (names_of cs))

    up_aside : (n : ℕ) (name : Name) → AllByRecursion (λ (c : ListedClass). Aside c.interfaces) (upwards n classes name)
    up_aside zero name = tt
    up_aside (suc n) name = by (up_aside n) (class_named classes name) refl where
      by : ((above : Name) → AllByRecursion (λ (c : ListedClass). Aside c.interfaces) (upwards n classes above)) → (o : Option ListedClass) → class_named classes name ≡ o
          → AllByRecursion (λ (c : ListedClass). Aside c.interfaces) (option_map_or (λ (c : ListedClass). c ∷ upwards n classes c.parent) o [])
      by more None e = tt
      by more (Some c) e = (interfaces_among (λ (k : Name). own k ≡ None) classes name c e aside, more c.parent)

    in_superclasses : (name : Name) → found (field_order classes name) ≡ found (names_of (superclasses classes name))
    in_superclasses name = found_in_each [] (superclasses classes name) (up_aside _ name)

  -- where no class that is named as an interface declares it
  pub found_above_interfaces : (classes : List ListedClass) (name : Name)
      → ((interface : Name) → is_one_of (interfaces_of classes) interface ≡ true → look (in_class id interface) ≡ None)
      → first_found look id (field_order classes name) ≡ first_found look id (names_of (superclasses classes name))
  found_above_interfaces classes name none =
      in_superclasses classes (all_named (λ (n : Name). own n ≡ None) (interfaces_of classes) none) name
