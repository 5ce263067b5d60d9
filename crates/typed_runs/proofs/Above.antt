-- Where a field or a method is declared: the class that declares it, where it is given, is the class that the reference names,
-- one above it, or an interface.
use Rattle.std.proofs.Common.{◌≡◌, ℕ, zero, suc, Bool, true, false, cond, List, [], ◌∷◌, ◌++◌, ◌⊎◌, length, map, Option, Some, None, refl, sym, ap, subst, ◌∙◌, inl, inr}
use Rattle.std.specs.Prelude.{bytes_eq, is_some, slice_get, option_map, not, ◌||◌}
use Rattle.std.specs.List.{list_all, list_any}
use Rattle.std.specs.Option.{option_map_or}
use Rattle.std.proofs.lemmas.Bool.{cases_Bool, or_cases, or_left, or_right, and_parts, and_from, false≢true}
use Rattle.api_listing.specs.declared.types.ListedClass.{ListedClass}
use Rattle.api_listing.specs.BuiltIn.{object, runnable}
use Rattle.api_listing.specs.Listing.{is_known}
use Rattle.api_listing.specs.Nearest.{class_named, interfaces_of, names_of, upwards}
use Rattle.cert_format.specs.declared.typing.Typing.{Typing}
use Rattle.cert_format.specs.declared.typing.VType.TheVariants as types
use Rattle.bytecode_model.specs.declared.program.LinkedClass.{LinkedClass}
use Rattle.bytecode_model.specs.declared.program.Program.{Program}
use Rattle.bytecode_model.specs.Arrays.{is_array}
use Rattle.bytecode_model.specs.Assigning.{array_fits, assignable, class_fits}
use Rattle.bytecode_model.specs.Classes.{classes_of, is_below, is_interface}
use Rattle.bytecode_model.specs.Conditions.{has_interface, is_above, is_good_interface, is_super, stands_below}
use Rattle.bytecode_model.specs.Files.{unlinked}
use Rattle.bytecode_model.specs.Heads.{head_of, heads_of}
use Rattle.bytecode_model.specs.SearchOrder.{Name, above_first, each_with_interfaces, field_order, interfaces_above, interfaces_from, is_one_of, most, reached}
use Rattle.bytecode_model.specs.SearchOrder.{reached_in_turn, search_order, superclasses, with_above, with_interfaces, with_name}
use Rattle.bytecode_model.proofs.Ending.{unnamed_up}
use Rattle.bytecode_model.proofs.Upwards.{named_after, named_passes, same_of}
use Rattle.type_lattice.proofs.Orders.{Fit, equal, top, interface, under, array_second, fits, seen}
use Rattle.guest_model.specs.Layout.{class_given}
use Rattle.typed_runs.specs.Programs.{ImplementsInterfaces, IsTypedProgram}
use Rattle.typed_runs.proofs.Listed.{all_both, all_from, all_mapped, all_more, any_cases, any_of, built_in_known, find_none, given_apart, given_found, given_head, given_unlisted, heads_named, is_closed, known_not_given, listed_closed, object_built_in, runnable_interface}

-- ---- names that are reached

named_below : (cs : List ListedClass) (name : Name) → is_one_of (names_of cs) name ≡ list_any (λ (c : ListedClass). bytes_eq c.name name) cs
named_below [] name = refl
named_below (c ∷ cs) name = ap (λ (b : Bool). bytes_eq c.name name || b) (named_below cs name)

module _ (p : Name → Bool) (classes : List ListedClass) (each : (name : Name) → list_all p (interfaces_above classes name) ≡ true) where
  waiting_pass : (known : Bool) (waiting : List Name) (name : Name) → list_all p waiting ≡ true
      → list_all p (cond known waiting (waiting ++ interfaces_above classes name)) ≡ true
  waiting_pass true waiting name e = e
  waiting_pass false waiting name e = all_both p waiting (interfaces_above classes name) e (each name)

  found_pass : (known : Bool) (found : List Name) (name : Name) → list_all p found ≡ true → p name ≡ true
      → list_all p (cond known found (found ++ name ∷ [])) ≡ true
  found_pass true found name e f = e
  found_pass false found name e f = all_both p found (name ∷ []) e (and_from (p name) true f refl)

  reached_pass : (n : ℕ) (found waiting : List Name) → list_all p found ≡ true → list_all p waiting ≡ true
      → list_all p (reached n classes found waiting) ≡ true
  reached_pass zero found waiting e f = e
  reached_pass (suc n) found [] e f = e
  reached_pass (suc n) found (name ∷ waiting) e f =
      let a = and_parts (p name) (list_all p waiting) f in
      reached_pass n (with_name found name) (with_above classes found name waiting) (found_pass (is_one_of found name) found name e a.0)
      (waiting_pass (is_one_of found name) waiting name a.1)

-- ---- names that are reached in turn

module _ (p : Name → Bool) (classes : List ListedClass) (each : (name : Name) → list_all p (interfaces_above classes name) ≡ true) (name : Name) where
  with_case : (found : List Name) (x : Name) → is_one_of (with_name found x) name ≡ true → (is_one_of found name ≡ true) ⊎ (bytes_eq x name ≡ true)
  with_case found x e = by (is_one_of found x) e where
    by : (known : Bool) → is_one_of (cond known found (found ++ x ∷ [])) name ≡ true → (is_one_of found name ≡ true) ⊎ (bytes_eq x name ≡ true)
    by true f = inl f
    by false f =
        elim (any_cases (λ (other : Name). bytes_eq other name) found (x ∷ []) f) [
          | inl before ↦ inl before
          | inr last ↦ elim (or_cases (bytes_eq x name) false last) [
            | inl same ↦ inr same
            | inr none ↦ absurd (false≢true none)
          ]
        ]

  turn_pass : (known : Bool) (waiting : List Name) (x : Name) → list_all p waiting ≡ true → list_all p (cond known waiting (interfaces_above classes x ++ waiting)) ≡ true
  turn_pass true waiting x e = e
  turn_pass false waiting x e = all_both p (interfaces_above classes x) waiting (each x) e

  turn_case : (n : ℕ) (found waiting : List Name) → list_all p waiting ≡ true → is_one_of (reached_in_turn n classes found waiting) name ≡ true
      → (is_one_of found name ≡ true) ⊎ (p name ≡ true)
  turn_case zero found waiting e f = inl f
  turn_case (suc n) found [] e f = inl f
  turn_case (suc n) found (x ∷ waiting) e f =
      let a = and_parts (p x) (list_all p waiting) e in
      elim (turn_case n (with_name found x) (above_first classes found x waiting) (turn_pass (is_one_of found x) waiting x a.1) f) [
        | inl before ↦ elim (with_case found x before) [
          | inl was ↦ inl was
          | inr same ↦ inr (subst (λ (y : Name). p y ≡ true) (same_of x name same) a.0)
        ]
        | inr passes ↦ inr passes
      ]

  each_case : (cs : List ListedClass) (found : List Name) → list_all (λ (c : ListedClass). list_all p c.interfaces) cs ≡ true
      → is_one_of (each_with_interfaces classes found cs) name ≡ true → (is_one_of found name ≡ true) ⊎ ((is_one_of (names_of cs) name ≡ true) ⊎ (p name ≡ true))
  each_case [] found e f = inl f
  each_case (c ∷ cs) found e f =
      let a = and_parts (list_all p c.interfaces) _ e in
      elim (each_case cs (with_interfaces classes found c) a.1 f) [
        | inl before ↦ elim (turn_case (most classes c.interfaces) (with_name found c.name) c.interfaces a.0 before) [
          | inl known ↦ elim (with_case found c.name known) [
            | inl was ↦ inl was
            | inr same ↦ inr (inl (or_left (bytes_eq c.name name) (is_one_of (names_of cs) name) same))
          ]
          | inr passes ↦ inr (inr passes)
        ]
        | inr later ↦ elim later [
          | inl above ↦ inr (inl (or_right (bytes_eq c.name name) (is_one_of (names_of cs) name) above))
          | inr passes ↦ inr (inr passes)
        ]
      ]

-- ---- classes whose interfaces pass a test

module _ (program : Program) (p : Name → Bool) (all : list_all (λ (c : ListedClass). list_all p c.interfaces) (classes_of program) ≡ true) where
  abbrev have_passed : ListedClass → Bool
  have_passed c = list_all p c.interfaces

  interfaces_at : (o : Option ListedClass) (name : Name) → class_named (classes_of program) name ≡ o
      → list_all p (option_map_or (λ (c : ListedClass). c.interfaces) o []) ≡ true
  interfaces_at None name e = refl
  interfaces_at (Some c) name e = named_passes have_passed (classes_of program) name c all e

  interfaces_pass : (name : Name) → list_all p (interfaces_above (classes_of program) name) ≡ true
  interfaces_pass name = interfaces_at (class_named (classes_of program) name) name refl

  upwards_at : (n : ℕ) (o : Option ListedClass) (name : Name) → class_named (classes_of program) name ≡ o
      → ((parent : Name) → list_all p (interfaces_of (upwards n (classes_of program) parent)) ≡ true)
      → list_all p (interfaces_of (option_map_or (λ (c : ListedClass). c ∷ upwards n (classes_of program) c.parent) o [])) ≡ true
  upwards_at n None name e more = refl
  upwards_at n (Some c) name e more = all_both p c.interfaces _ (named_passes have_passed (classes_of program) name c all e) (more c.parent)

  upwards_pass : (n : ℕ) (name : Name) → list_all p (interfaces_of (upwards n (classes_of program) name)) ≡ true
  upwards_pass zero name = refl
  upwards_pass (suc n) name = upwards_at n (class_named (classes_of program) name) name refl (upwards_pass n)

  -- where a method is looked for: in a class above, or in what passes
  looked_either : (from name : Name) → is_one_of (search_order (classes_of program) from) name ≡ true
      → (is_below program from name ≡ true) ⊎ (p name ≡ true)
  looked_either from name e =
      let supers = superclasses (classes_of program) from in
      elim (any_cases (λ (other : Name). bytes_eq other name) (names_of supers) _ e) [
        | inl up ↦ inl (sym (named_below supers name) ∙ up)
        | inr has ↦
            let passed = reached_pass p (classes_of program) interfaces_pass _ [] (interfaces_of supers) refl (upwards_pass (length (classes_of program)) from) in
            let one = any_of (λ (other : Name). bytes_eq other name) p (interfaces_from (classes_of program) (interfaces_of supers)) passed has in
            inr (subst (λ (n : Name). p n ≡ true) (same_of one.0 name one.1) one.2)
      ]

-- ---- a typed program

module _ (program : Program) (typing : Typing) (ok : IsTypedProgram program typing) where
  -- what may stand in the place of an interface: one, or no given class
  abbrev pub may_stand : Name → Bool
  may_stand name = not (is_some (class_given program name)) || is_interface program name

  known_stands : (name : Name) → is_known program.listing.classes name ≡ true → may_stand name ≡ true
  known_stands name known = rw (known_not_given program typing ok name known) refl

  abbrev have_stand : ListedClass → Bool
  have_stand c = list_all may_stand c.interfaces

  listed_stand : list_all have_stand program.listing.classes ≡ true
  listed_stand =
      all_more (is_closed program.listing.classes) have_stand program.listing.classes
      (λ c e. all_more (is_known program.listing.classes) may_stand c.interfaces known_stands (and_parts (bytes_eq c.name object || is_known program.listing.classes c.parent) _ e).1)
      (listed_closed program typing ok)

  abbrev pub given_heads : List ListedClass
  given_heads = heads_of (unlinked program)

  mapped_twice : (list : List LinkedClass) → heads_of (map (λ (c : LinkedClass). c.file) list) ≡ map (λ (c : LinkedClass). head_of c.file) list
  mapped_twice [] = refl
  mapped_twice (c ∷ list) = ap (λ (l : List ListedClass). head_of c.file ∷ l) (mapped_twice list)

  pub heads_are : given_heads ≡ map (λ (c : LinkedClass). head_of c.file) program.classes
  heads_are = mapped_twice program.classes

  -- a given interface
  given_interface : (name : Name) → has_interface given_heads name ≡ true → is_interface program name ≡ true
  given_interface name e =
      let tells : Option ListedClass → Bool = λ o. option_map_or (λ (c : ListedClass). c.is_interface) o false in
      let heads : class_named given_heads name ≡ class_named (map (λ (c : LinkedClass). head_of c.file) program.classes) name =
      ap (λ (classes : List ListedClass). class_named classes name) heads_are in
      elim (cases_Bool (is_known program.listing.classes name)) [
        | inl known ↦
            let none = heads ∙ heads_named program typing ok program.classes name ok.links.sound.classes
            ∙ ap (option_map (λ (c : LinkedClass). head_of c.file)) (known_not_given program typing ok name known) in
            absurd (false≢true (sym (ap tells none) ∙ e))
        | inr unknown ↦
            let found = heads ∙ sym (named_after (map (λ (c : LinkedClass). head_of c.file) program.classes) name program.listing.classes
            (find_none (λ (c : ListedClass). bytes_eq c.name name) program.listing.classes unknown)) in
            subst (λ (o : Option ListedClass). tells o ≡ true) found e
      ]

  above_interface : (name : Name) → is_above given_heads name ≡ true → is_interface program name ≡ true
  above_interface name e =
      elim (or_cases (has_interface given_heads name) _ e) [
        | inl is ↦ given_interface name is
        | inr is ↦ subst (λ (n : Name). is_interface program n ≡ true) (sym (same_of name runnable is)) (runnable_interface program typing ok)
      ]

  above_stands : (name : Name) → is_above given_heads name ≡ true → may_stand name ≡ true
  above_stands name e = or_right (not (is_some (class_given program name))) _ (above_interface name e)

  -- the superclass and the interfaces of a given class stand above it
  pub given_below : (own : ℕ) (class : LinkedClass) → slice_get program.classes own ≡ Some class → stands_below given_heads (head_of class.file) ≡ true
  given_below own class there = (and_parts (stands_below given_heads (head_of class.file)) _ (ok.links.linked.standing own class there).supers).0

  given_pass : (p : Name → Bool) → ((name : Name) → is_above given_heads name ≡ true → p name ≡ true)
      → list_all (λ (c : ListedClass). list_all p c.interfaces) (map (λ (c : LinkedClass). head_of c.file) program.classes) ≡ true
  given_pass p each =
      all_mapped (λ (c : ListedClass). list_all p c.interfaces) (λ (c : LinkedClass). head_of c.file) program.classes
      (all_from (λ (c : LinkedClass). list_all p (head_of c.file).interfaces) program.classes
      (λ own class there.
      let a = and_parts (is_super given_heads (head_of class.file).parent) _ (given_below own class there) in
      all_more (is_above given_heads) p (head_of class.file).interfaces each
      (and_parts (list_all (is_above given_heads) (head_of class.file).interfaces) _ a.1).0))

  all_stand : list_all have_stand (classes_of program) ≡ true
  all_stand = all_both have_stand program.listing.classes (map (λ (c : LinkedClass). head_of c.file) program.classes) listed_stand (given_pass may_stand above_stands)

  interfaces_stand : (name : Name) → list_all may_stand (interfaces_above (classes_of program) name) ≡ true
  interfaces_stand name = interfaces_pass program may_stand all_stand name

  up_have : (n : ℕ) (o : Option ListedClass) (name : Name) → class_named (classes_of program) name ≡ o
      → ((parent : Name) → list_all have_stand (upwards n (classes_of program) parent) ≡ true)
      → list_all have_stand (option_map_or (λ (c : ListedClass). c ∷ upwards n (classes_of program) c.parent) o []) ≡ true
  up_have n None name e more = refl
  up_have n (Some c) name e more = and_from (have_stand c) _ (named_passes have_stand (classes_of program) name c all_stand e) (more c.parent)

  upwards_have : (n : ℕ) (name : Name) → list_all have_stand (upwards n (classes_of program) name) ≡ true
  upwards_have zero name = refl
  upwards_have (suc n) name = up_have n (class_named (classes_of program) name) name refl (upwards_have n)

  -- a given class that may stand in the place of an interface is one
  given_stands : (own : ℕ) (class : LinkedClass) → slice_get program.classes own ≡ Some class → may_stand class.name ≡ true → is_interface program class.name ≡ true
  given_stands own class there stands =
      let given : not (is_some (class_given program class.name)) ≡ false = rw (given_found program typing ok own class there) refl in
      elim (or_cases (not (is_some (class_given program class.name))) _ stands) [
        | inl not_so ↦ absurd (false≢true (sym given ∙ not_so))
        | inr is ↦ is
      ]

  -- a given class in which a method of another is looked for
  pub looked_in : (from : Name) (own : ℕ) (class : LinkedClass) → slice_get program.classes own ≡ Some class
      → is_one_of (search_order (classes_of program) from) class.name ≡ true → (is_below program from class.name ≡ true) ⊎ (is_interface program class.name ≡ true)
  looked_in from own class there e =
      elim (looked_either program may_stand all_stand from class.name e) [
        | inl up ↦ inl up
        | inr stands ↦ inr (given_stands own class there stands)
      ]

  -- the same of any class, where the listing has interfaces alone after `implements`
  pub looked_fairly : ImplementsInterfaces program → (from name : Name) → is_one_of (search_order (classes_of program) from) name ≡ true
      → (is_below program from name ≡ true) ⊎ (is_interface program name ≡ true)
  looked_fairly fair from name e =
      looked_either program (is_interface program)
      (all_both (λ (c : ListedClass). list_all (is_interface program) c.interfaces) program.listing.classes _ fair (given_pass (is_interface program) above_interface))
      from name e

  -- the same of a field
  field_looked_in : (from : Name) (own : ℕ) (class : LinkedClass) → slice_get program.classes own ≡ Some class
      → is_one_of (field_order (classes_of program) from) class.name ≡ true → (is_below program from class.name ≡ true) ⊎ (is_interface program class.name ≡ true)
  field_looked_in from own class there e =
      let supers = superclasses (classes_of program) from in
      elim (each_case may_stand (classes_of program) interfaces_stand class.name supers [] (upwards_have (length (classes_of program)) from) e) [
        | inl none ↦ absurd (false≢true none)
        | inr found ↦ elim found [
          | inl up ↦ inl (sym (named_below supers class.name) ∙ up)
          | inr stands ↦ inr (given_stands own class there stands)
        ]
      ]

  not_array : (from above : Name) → is_below program from above ≡ true → is_array from ≡ false
  not_array from above e =
      elim (cases_Bool (is_array from)) [
        | inl is ↦ absurd (unnamed_up (classes_of program) (length (classes_of program)) from above (ok.links.order.no_arrays from is) e)
        | inr apart ↦ apart
      ]

  pub below_fits : (from above : Name) → is_below program from above ≡ true → assignable program (types.Ref from) (types.Ref above) ≡ true
  below_fits from above e = or_left (class_fits program from above) _ (fits program from above (under (not_array from above e) e))

  pub interface_fits : (from above : Name) → is_interface program above ≡ true → assignable program (types.Ref from) (types.Ref above) ≡ true
  interface_fits from above e = or_left (class_fits program from above) _ (fits program from above (interface e))

  -- what a field is looked for in: this class is assignable to that
  pub field_fits : (from : Name) (own : ℕ) (class : LinkedClass) → slice_get program.classes own ≡ Some class
      → is_one_of (field_order (classes_of program) from) class.name ≡ true → assignable program (types.Ref from) (types.Ref class.name) ≡ true
  field_fits from own class there e =
      elim (field_looked_in from own class there e) [
        | inl up ↦ below_fits from class.name up
        | inr is ↦ interface_fits from class.name is
      ]

  -- ---- what is assignable to a given class

  -- to one that is no interface
  pub under_given : (from : Name) (own : ℕ) (class : LinkedClass) → slice_get program.classes own ≡ Some class → is_interface program class.name ≡ false
      → assignable program (types.Ref from) (types.Ref class.name) ≡ true → (from ≡ class.name) ⊎ ((is_array from ≡ false) × (is_below program from class.name ≡ true))
  under_given from own class there apart e =
      elim (or_cases (class_fits program from class.name) (array_fits program from class.name) e) [
        | inl one ↦ by (seen program from class.name one)
        | inr two ↦ absurd (false≢true (sym (given_apart program typing ok own class there) ∙ array_second program ok.links.order from class.name two))
      ] where
        by : Fit program from class.name → (from ≡ class.name) ⊎ ((is_array from ≡ false) × (is_below program from class.name ≡ true))
        by (equal f) = inl f
        by (top f) =
            absurd (given_unlisted program typing ok own class there
            (subst (λ (n : Name). is_known program.listing.classes n ≡ true) (sym f) (built_in_known program typing ok object object_built_in)))
        by (interface f) = absurd (false≢true (sym apart ∙ f))
        by (under f g) = inr (f, g)

  -- a class whose file says so is an interface, and else none
  pub interface_is : (own : ℕ) (class : LinkedClass) → slice_get program.classes own ≡ Some class
      → is_interface program class.name ≡ (head_of class.file).is_interface
  interface_is own class there = rw (given_head program typing ok own class there) refl

  pub good_interface : (own : ℕ) (class : LinkedClass) → slice_get program.classes own ≡ Some class → is_good_interface (head_of class.file) class.file.fields ≡ true
  good_interface own class there =
      let supers = (and_parts (stands_below given_heads (head_of class.file)) _ (ok.links.linked.standing own class there).supers).1 in
      (and_parts (is_good_interface (head_of class.file) class.file.fields) _ supers).0
