-- The classes above a class end, and stay the same with one class more that none of them names.
use Rattle.std.proofs.Common.{◌≡◌, ◌≢◌, ℕ, zero, suc, ◌+◌, Bool, true, false, ◌||◌, ◌&&◌, List, [], ◌∷◌, ◌++◌, length, Option, Some, None, refl, sym, ap, subst, ◌∙◌, append_assoc, append-nil, arith}
use Rattle.std.specs.Prelude.{bytes_eq, find, if◌then◌else◌}
use Rattle.std.specs.List.{AllByRecursion, list_any}
use Rattle.std.specs.Option.{option_map_or, option_or}
use Rattle.std.proofs.lemmas.Bool.{false≢true}
use Rattle.std.proofs.lemmas.Grind.{flat_map-append}
use Rattle.std.proofs.lemmas.List.{length-append}
use Rattle.std.proofs.lemmas.List.Folds.{find-append, list_any-append}
use Rattle.api_listing.specs.declared.types.ListedClass.{ListedClass}
use Rattle.api_listing.specs.Listing.{is_known}
use Rattle.api_listing.specs.Nearest.{class_named, upwards, names_of, interfaces_of}
use Rattle.bytecode_model.specs.Conditions.{stays_within, runs_in_circle}
use Rattle.bytecode_model.specs.SearchOrder.{Name, is_one_of, interfaces_above, with_name, with_above, reached, superclasses, search_order}
use Rattle.bytecode_model.specs.SearchOrder.{above_first, most, reached_in_turn, with_interfaces, each_with_interfaces, field_order}
use Rattle.bytecode_model.proofs.Lists.{all_append, or_none}
use Rattle.bytecode_model.proofs.Placing.{test_cases, same_name}

-- ---- names

pub other_name : (a b : List ℕ) → a ≢ b → bytes_eq a b ≡ false
other_name a b other = test_cases (bytes_eq a b) (λ t. t ≡ false) (λ e. absurd (other (same_name a b e))) (λ e. refl)

abbrev pub has_name : List ℕ → ListedClass → Bool
has_name name c = bytes_eq c.name name

pub find_none : {X : Type 0} (p : X → Bool) (xs : List X) → list_any p xs ≡ false → find p xs ≡ None
find_none p [] e = refl
find_none p (x ∷ xs) e = by (p x) e (find_none p xs) where
  by : (b : Bool) → (b || list_any p xs) ≡ false → (list_any p xs ≡ false → find p xs ≡ None) → (if b then Some x else find p xs) ≡ None
  by true e rest = absurd (false≢true (sym e))
  by false e rest = rest e

-- what holds of each holds of the one that is found, which passes
pub found_fits : {X : Type 0} (p : X → Bool) (P : X → Type 0) (xs : List X) (x : X) → AllByRecursion P xs → find p xs ≡ Some x → P x × (p x ≡ true)
found_fits {X = X} p P [] x all e = absurd cc
found_fits {X = X} p P (y ∷ xs) x all e = by (p y) refl e (found_fits p P xs x all.1) where
  by : (b : Bool) → p y ≡ b → (if b then Some y else find p xs) ≡ Some x → (find p xs ≡ Some x → P x × (p x ≡ true)) → P x × (p x ≡ true)
  by true passes e rest =
      let same : y ≡ x = cc in
      (subst P same all.0, ap p (sym same) ∙ passes)
  by false passes e rest = rest e

-- ---- the way up ends

-- After n classes there is none above.
abbrev pub Ends : ℕ → List ListedClass → List ℕ → Type 0
Ends n classes name = upwards (suc n) classes name ≡ upwards n classes name

ends_none : (n : ℕ) (classes : List ListedClass) (name : List ℕ) → class_named classes name ≡ None → Ends n classes name
ends_none zero classes name e = rw e refl
ends_none (suc n) classes name e = rw e refl

ends_some : (n : ℕ) (classes : List ListedClass) (name : List ℕ) (c : ListedClass) → class_named classes name ≡ Some c → Ends n classes c.parent → Ends (suc n) classes name
ends_some n classes name c e h =
    let step : (k : ℕ) → upwards (suc k) classes name ≡ c ∷ upwards k classes c.parent = λ k. ap (λ (o : Option ListedClass). option_map_or (λ (x : ListedClass). x ∷ upwards k classes x.parent) o []) e in
    step (suc n) ∙ ap (λ (xs : List ListedClass). c ∷ xs) h ∙ sym (step n)

ends_next : (n : ℕ) (classes : List ListedClass) (name : List ℕ) → Ends n classes name → Ends (suc n) classes name
ends_next zero classes name e = by (class_named classes name) refl e where
  by : (o : Option ListedClass) → class_named classes name ≡ o → option_map_or (λ (c : ListedClass). c ∷ upwards 0 classes c.parent) o [] ≡ [] → Ends 1 classes name
  by None is f = ends_none 1 classes name is
  by (Some c) is f = absurd cc
ends_next (suc n) classes name e = by (class_named classes name) refl (λ parent. ends_next n classes parent) e where
  by : (o : Option ListedClass) → class_named classes name ≡ o → ((parent : List ℕ) → Ends n classes parent → Ends (suc n) classes parent)
      → option_map_or (λ (c : ListedClass). c ∷ upwards (suc n) classes c.parent) o [] ≡ option_map_or (λ (c : ListedClass). c ∷ upwards n classes c.parent) o [] → Ends (suc (suc n)) classes name
  by None is less f = ends_none (suc (suc n)) classes name is
  by (Some c) is less f =
      let above : upwards (suc n) classes c.parent ≡ upwards n classes c.parent = cc (f) in
      ends_some (suc n) classes name c is (less c.parent above)

ends_later : (k n : ℕ) (classes : List ListedClass) (name : List ℕ) → Ends n classes name → Ends (n + k) classes name
ends_later zero n classes name e =
    let j : n ≡ n + 0 = omega arith in
    subst (λ (i : ℕ). Ends i classes name) j e
ends_later (suc k) n classes name e =
    let j : suc (n + k) ≡ n + suc k = omega arith in
    subst (λ (i : ℕ). Ends i classes name) j (ends_next (n + k) classes name (ends_later k n classes name e))

-- Each class is below one before it, or below none.
abbrev pub ordered : List ListedClass → List ListedClass → Bool
ordered before [] = true
ordered before (c ∷ classes) = (is_known before c.parent || bytes_eq c.parent []) && ordered (before ++ c ∷ []) classes

pub and_both : (a b : Bool) → (a && b) ≡ true → (a ≡ true) × (b ≡ true)
and_both true b e = (refl, e)
and_both false b e = absurd (false≢true e)

module _ (classes : List ListedClass) (unnamed : class_named classes [] ≡ None) where
  one_more : (before after : List ListedClass) (c : ListedClass) → classes ≡ before ++ c ∷ after → (is_known before c.parent || bytes_eq c.parent []) ≡ true
      → ((name : List ℕ) → is_known before name ≡ true → Ends (length before) classes name) → (name : List ℕ) → is_known (before ++ c ∷ []) name ≡ true → Ends (length (before ++ c ∷ [])) classes name
  one_more before after c split placed h name known =
      let count : suc (length before) ≡ length (before ++ c ∷ []) = omega (arith, length-append before (c ∷ [])) in
      let all : (is_known before name || (bytes_eq c.name name || false)) ≡ true = sym (list_any-append (has_name name) before (c ∷ [])) ∙ known in
      let above : Ends (length before) classes c.parent = by_parent (is_known before c.parent) refl placed in
      subst (λ (n : ℕ). Ends n classes name) count
      (test_cases (is_known before name) (λ b. Ends (suc (length before)) classes name) (λ e. ends_next (length before) classes name (h name e)) (λ none.
      let own : (bytes_eq c.name name || false) ≡ true = ap (λ (b : Bool). b || (bytes_eq c.name name || false)) (sym none) ∙ all in
      let found : class_named classes name ≡ Some c = ap (λ (xs : List ListedClass). class_named xs name) split ∙ find-append (has_name name) before (c ∷ after)
      ∙ ap (λ (o : Option ListedClass). option_or o (class_named (c ∷ after) name)) (find_none (has_name name) before none) ∙ first (bytes_eq c.name name) own in
      ends_some (length before) classes name c found above))
    where
      first : (b : Bool) → (b || false) ≡ true → (if b then Some c else class_named after name) ≡ Some c
      first true e = refl
      first false e = absurd (false≢true e)

      by_parent : (b : Bool) → is_known before c.parent ≡ b → (b || bytes_eq c.parent []) ≡ true → Ends (length before) classes c.parent
      by_parent true is e = h c.parent is
      by_parent false is e =
          let none : c.parent ≡ [] = same_name c.parent [] e in
          ends_none (length before) classes c.parent (ap (class_named classes) none ∙ unnamed)

  pub climbs : (before more after : List ListedClass) → classes ≡ before ++ (more ++ after) → ordered before more ≡ true
      → ((name : List ℕ) → is_known before name ≡ true → Ends (length before) classes name) → (name : List ℕ) → is_known (before ++ more) name ≡ true → Ends (length (before ++ more)) classes name
  climbs before [] after split placed h name known =
      subst (λ (xs : List ListedClass). is_known xs name ≡ true → Ends (length xs) classes name) (sym (append-nil before)) (h name) known
  climbs before (c ∷ more) after split placed h name known =
      let here = and_both (is_known before c.parent || bytes_eq c.parent []) (ordered (before ++ c ∷ []) more) placed in
      let next = one_more before (more ++ after) c split here.0 h in
      let same : (before ++ c ∷ []) ++ more ≡ before ++ c ∷ more = append_assoc before (c ∷ []) more in
      let rest = climbs (before ++ c ∷ []) more after (split ∙ sym (append_assoc before (c ∷ []) (more ++ after))) here.1 next name in
      subst (λ (xs : List ListedClass). is_known xs name ≡ true → Ends (length xs) classes name) same rest known

-- The given classes stand after the listed ones, and the way up leaves them.
module _ (listed heads : List ListedClass) (low : (name : List ℕ) → is_known listed name ≡ true → Ends (length listed) (listed ++ heads) name) where
  low_or : (k : ℕ) (name : List ℕ) → (class_named (listed ++ heads) name ≡ class_named heads name → Ends (length listed + k) (listed ++ heads) name) → Ends (length listed + k) (listed ++ heads) name
  low_or k name given =
      test_cases (is_known listed name) (λ b. Ends (length listed + k) (listed ++ heads) name) (λ known. ends_later k (length listed) (listed ++ heads) name (low name known))
      (λ none. given (find-append (has_name name) listed heads ∙ ap (λ (o : Option ListedClass). option_or o (class_named heads name)) (find_none (has_name name) listed none)))

  pub leaves : (k : ℕ) (name : List ℕ) → stays_within (suc k) heads name ≡ false → Ends (length listed + k) (listed ++ heads) name
  leaves zero name e = low_or zero name (λ found. by (class_named heads name) found e) where
    by : (o : Option ListedClass) → class_named (listed ++ heads) name ≡ o → option_map_or (λ (c : ListedClass). stays_within 0 heads c.parent) o false ≡ false → Ends (length listed + 0) (listed ++ heads) name
    by None found e = ends_none (length listed + 0) (listed ++ heads) name found
    by (Some c) found e = absurd (false≢true (sym e))
  leaves (suc k) name e = low_or (suc k) name (λ found. by (class_named heads name) found e (λ parent. leaves k parent)) where
    by : (o : Option ListedClass) → class_named (listed ++ heads) name ≡ o → option_map_or (λ (c : ListedClass). stays_within (suc k) heads c.parent) o false ≡ false
        → ((parent : List ℕ) → stays_within (suc k) heads parent ≡ false → Ends (length listed + k) (listed ++ heads) parent) → Ends (length listed + suc k) (listed ++ heads) name
    by None found e later = ends_none (length listed + suc k) (listed ++ heads) name found
    by (Some c) found e later =
        let n : suc (length listed + k) ≡ length listed + suc k = omega arith in
        subst (λ (i : ℕ). Ends i (listed ++ heads) name) n (ends_some (length listed + k) (listed ++ heads) name c found (later c.parent e))

-- ---- one class more

module _ (classes : List ListedClass) (s : ListedClass) (parents : AllByRecursion (λ (c : ListedClass). c.parent ≢ s.name) classes) where
  named_same : (name : List ℕ) → name ≢ s.name → class_named (classes ++ s ∷ []) name ≡ class_named classes name
  named_same name other =
      let not : bytes_eq s.name name ≡ false = other_name s.name name (λ e. other (sym e)) in
      let none : class_named (s ∷ []) name ≡ None = ap (λ (b : Bool). if b then Some s else None) not in
      find-append (has_name name) classes (s ∷ []) ∙ ap (λ (o : Option ListedClass). option_or (class_named classes name) o) none ∙ or_none (class_named classes name)

  parent_is : (name : List ℕ) (c : ListedClass) → class_named classes name ≡ Some c → c.parent ≢ s.name
  parent_is name c e = (found_fits (has_name name) (λ (x : ListedClass). x.parent ≢ s.name) classes c parents e).0

  upwards_same : (n : ℕ) (name : List ℕ) → name ≢ s.name → upwards n (classes ++ s ∷ []) name ≡ upwards n classes name
  upwards_same zero name other = refl
  upwards_same (suc n) name other =
      ap (λ (o : Option ListedClass). option_map_or (λ (c : ListedClass). c ∷ upwards n (classes ++ s ∷ []) c.parent) o []) (named_same name other)
      ∙ by (class_named classes name) refl (λ parent. upwards_same n parent) where
        by : (o : Option ListedClass) → class_named classes name ≡ o → ((parent : List ℕ) → parent ≢ s.name → upwards n (classes ++ s ∷ []) parent ≡ upwards n classes parent)
            → option_map_or (λ (c : ListedClass). c ∷ upwards n (classes ++ s ∷ []) c.parent) o [] ≡ option_map_or (λ (c : ListedClass). c ∷ upwards n classes c.parent) o []
        by None is later = refl
        by (Some c) is later = ap (λ (xs : List ListedClass). c ∷ xs) (later c.parent (parent_is name c is))

  stays_same : (n : ℕ) (name : List ℕ) → name ≢ s.name → stays_within n (classes ++ s ∷ []) name ≡ stays_within n classes name
  stays_same zero name other = refl
  stays_same (suc n) name other =
      ap (λ (o : Option ListedClass). option_map_or (λ (c : ListedClass). stays_within n (classes ++ s ∷ []) c.parent) o false) (named_same name other)
      ∙ by (class_named classes name) refl (λ parent. stays_same n parent) where
        by : (o : Option ListedClass) → class_named classes name ≡ o → ((parent : List ℕ) → parent ≢ s.name → stays_within n (classes ++ s ∷ []) parent ≡ stays_within n classes parent)
            → option_map_or (λ (c : ListedClass). stays_within n (classes ++ s ∷ []) c.parent) o false ≡ option_map_or (λ (c : ListedClass). stays_within n classes c.parent) o false
        by None is later = refl
        by (Some c) is later = later c.parent (parent_is name c is)

  -- a way that is left is left further up too
  stays_less : (n : ℕ) (name : List ℕ) → stays_within n classes name ≡ false → stays_within (suc n) classes name ≡ false
  stays_less zero name e = absurd (false≢true (sym e))
  stays_less (suc n) name e = by (class_named classes name) (λ parent. stays_less n parent) e where
    by : (o : Option ListedClass) → ((parent : List ℕ) → stays_within n classes parent ≡ false → stays_within (suc n) classes parent ≡ false)
        → option_map_or (λ (c : ListedClass). stays_within n classes c.parent) o false ≡ false → option_map_or (λ (c : ListedClass). stays_within (suc n) classes c.parent) o false ≡ false
    by None less e = refl
    by (Some c) less e = less c.parent e

  pub no_circle : (name : List ℕ) → name ≢ s.name → runs_in_circle classes name ≡ false → runs_in_circle (classes ++ s ∷ []) name ≡ false
  no_circle name other e =
      let count : length (classes ++ s ∷ []) ≡ suc (length classes) = omega (arith, length-append classes (s ∷ [])) in
      ap (λ (n : ℕ). stays_within (suc n) (classes ++ s ∷ []) name) count ∙ stays_same (suc (suc (length classes))) name other ∙ stays_less (suc (length classes)) name e

  pub superclasses_same : ((name : List ℕ) → Ends (length classes) classes name) → (name : List ℕ) → name ≢ s.name → superclasses (classes ++ s ∷ []) name ≡ superclasses classes name
  superclasses_same ends name other =
      let count : length (classes ++ s ∷ []) ≡ suc (length classes) = omega (arith, length-append classes (s ∷ [])) in
      ap (λ (n : ℕ). upwards n (classes ++ s ∷ []) name) count ∙ upwards_same (suc (length classes)) name other ∙ ends name

  module _ (alone : s.interfaces ≡ []) where
    above_same : (name : List ℕ) → interfaces_above (classes ++ s ∷ []) name ≡ interfaces_above classes name
    above_same name =
        ap (λ (o : Option ListedClass). option_map_or (λ (c : ListedClass). c.interfaces) o []) (find-append (has_name name) classes (s ∷ [])) ∙ by (class_named classes name) (bytes_eq s.name name) where
          by : (o : Option ListedClass) (b : Bool) → option_map_or (λ (c : ListedClass). c.interfaces) (option_or o (if b then Some s else None)) [] ≡ option_map_or (λ (c : ListedClass). c.interfaces) o []
          by (Some c) b = refl
          by None true = alone
          by None false = refl

    waiting_same : (found : List Name) (name : Name) (waiting : List Name) → with_above (classes ++ s ∷ []) found name waiting ≡ with_above classes found name waiting
    waiting_same found name waiting = ap (λ (xs : List Name). if is_one_of found name then waiting else waiting ++ xs) (above_same name)

    reached_same : (n : ℕ) (found waiting : List Name) → reached n (classes ++ s ∷ []) found waiting ≡ reached n classes found waiting
    reached_same zero found waiting = refl
    reached_same (suc n) found [] = refl
    reached_same (suc n) found (name ∷ waiting) =
        ap (reached n (classes ++ s ∷ []) (with_name found name)) (waiting_same found name waiting) ∙ reached_same n (with_name found name) (with_above classes found name waiting)

    interfaces_same : interfaces_of (classes ++ s ∷ []) ≡ interfaces_of classes
    interfaces_same =
        flat_map-append (λ (c : ListedClass). c.interfaces) classes (s ∷ []) ∙ ap (λ (xs : List Name). interfaces_of classes ++ (xs ++ [])) alone ∙ append-nil (interfaces_of classes)

    pub order_same : ((name : List ℕ) → Ends (length classes) classes name) → (name : List ℕ) → name ≢ s.name → search_order (classes ++ s ∷ []) name ≡ search_order classes name
    order_same ends name other =
        let us = superclasses classes name in
        let begin : List ListedClass → List Name = λ xs. names_of xs ++ reached (length (interfaces_of xs) + length (interfaces_of (classes ++ s ∷ []))) (classes ++ s ∷ []) [] (interfaces_of xs) in
        let one : search_order (classes ++ s ∷ []) name ≡ begin us = ap begin (superclasses_same ends name other) in
        let two : begin us ≡ names_of us ++ reached (length (interfaces_of us) + length (interfaces_of classes)) (classes ++ s ∷ []) [] (interfaces_of us) =
        ap (λ (xs : List Name). names_of us ++ reached (length (interfaces_of us) + length xs) (classes ++ s ∷ []) [] (interfaces_of us)) interfaces_same in
        one ∙ two ∙ ap (λ (xs : List Name). names_of us ++ xs) (reached_same (length (interfaces_of us) + length (interfaces_of classes)) [] (interfaces_of us))

    first_same : (found : List Name) (name : Name) (waiting : List Name) → above_first (classes ++ s ∷ []) found name waiting ≡ above_first classes found name waiting
    first_same found name waiting = ap (λ (xs : List Name). if is_one_of found name then waiting else xs ++ waiting) (above_same name)

    turn_same : (n : ℕ) (found waiting : List Name) → reached_in_turn n (classes ++ s ∷ []) found waiting ≡ reached_in_turn n classes found waiting
    turn_same zero found waiting = refl
    turn_same (suc n) found [] = refl
    turn_same (suc n) found (name ∷ waiting) =
        ap (reached_in_turn n (classes ++ s ∷ []) (with_name found name)) (first_same found name waiting) ∙ turn_same n (with_name found name) (above_first classes found name waiting)

    with_same : (found : List Name) (c : ListedClass) → with_interfaces (classes ++ s ∷ []) found c ≡ with_interfaces classes found c
    with_same found c =
        ap (λ (xs : List Name). reached_in_turn (length c.interfaces + length xs) (classes ++ s ∷ []) (with_name found c.name) c.interfaces) interfaces_same
        ∙ turn_same (most classes c.interfaces) (with_name found c.name) c.interfaces

    each_same : (found : List Name) (cs : List ListedClass) → each_with_interfaces (classes ++ s ∷ []) found cs ≡ each_with_interfaces classes found cs
    each_same found [] = refl
    each_same found (c ∷ cs) = ap (λ (names : List Name). each_with_interfaces (classes ++ s ∷ []) names cs) (with_same found c) ∙ each_same (with_interfaces classes found c) cs

    pub field_order_same : ((name : List ℕ) → Ends (length classes) classes name) → (name : List ℕ) → name ≢ s.name → field_order (classes ++ s ∷ []) name ≡ field_order classes name
    field_order_same ends name other =
        ap (each_with_interfaces (classes ++ s ∷ []) []) (superclasses_same ends name other) ∙ each_same [] (superclasses classes name)

-- where no name waits, none is reached
pub none_reached : (n : ℕ) (classes : List ListedClass) (found : List Name) → reached n classes found [] ≡ found
none_reached zero classes found = refl
none_reached (suc n) classes found = refl

pub none_in_turn : (n : ℕ) (classes : List ListedClass) (found : List Name) → reached_in_turn n classes found [] ≡ found
none_in_turn zero classes found = refl
none_in_turn (suc n) classes found = refl

-- ---- the classes in which a field is looked for

-- The names that the class says are such names.
abbrev pub SaysOnly : (Name → Type 0) → ListedClass → Type 0
SaysOnly P c = P c.name × AllByRecursion P c.interfaces

module _ (P : Name → Type 0) (classes : List ListedClass) (say : AllByRecursion (SaysOnly P) classes) where
  upwards_say : (n : ℕ) (name : Name) → AllByRecursion (SaysOnly P) (upwards n classes name)
  upwards_say zero name = tt
  upwards_say (suc n) name = by (class_named classes name) refl (λ parent. upwards_say n parent) where
    by : (o : Option ListedClass) → class_named classes name ≡ o → ((parent : Name) → AllByRecursion (SaysOnly P) (upwards n classes parent))
        → AllByRecursion (SaysOnly P) (option_map_or (λ (c : ListedClass). c ∷ upwards n classes c.parent) o [])
    by None is later = tt
    by (Some c) is later = ((found_fits (has_name name) (SaysOnly P) classes c say is).0, later c.parent)

  above_say : (name : Name) → AllByRecursion P (interfaces_above classes name)
  above_say name = by (class_named classes name) refl where
    by : (o : Option ListedClass) → class_named classes name ≡ o → AllByRecursion P (option_map_or (λ (c : ListedClass). c.interfaces) o [])
    by None is = tt
    by (Some c) is = (found_fits (has_name name) (SaysOnly P) classes c say is).0.1

  name_says : (found : List Name) (name : Name) → AllByRecursion P found → P name → AllByRecursion P (with_name found name)
  name_says found name h p = by (is_one_of found name) where
    by : (b : Bool) → AllByRecursion P (if b then found else found ++ name ∷ [])
    by true = h
    by false = all_append P found (name ∷ []) h (p, tt)

  first_says : (found : List Name) (name : Name) (waiting : List Name) → AllByRecursion P waiting → AllByRecursion P (above_first classes found name waiting)
  first_says found name waiting h = by (is_one_of found name) where
    by : (b : Bool) → AllByRecursion P (if b then waiting else interfaces_above classes name ++ waiting)
    by true = h
    by false = all_append P (interfaces_above classes name) waiting (above_say name) h

  turn_says : (n : ℕ) (found waiting : List Name) → AllByRecursion P found → AllByRecursion P waiting → AllByRecursion P (reached_in_turn n classes found waiting)
  turn_says zero found waiting f w = f
  turn_says (suc n) found [] f w = f
  turn_says (suc n) found (name ∷ waiting) f w =
      turn_says n (with_name found name) (above_first classes found name waiting) (name_says found name f w.0) (first_says found name waiting w.1)

  each_says : (found : List Name) (cs : List ListedClass) → AllByRecursion P found → AllByRecursion (SaysOnly P) cs → AllByRecursion P (each_with_interfaces classes found cs)
  each_says found [] f h = f
  each_says found (c ∷ cs) f h =
      each_says (with_interfaces classes found c) cs (turn_says (most classes c.interfaces) (with_name found c.name) c.interfaces (name_says found c.name f h.0.0) h.0.1) h.1

  pub field_search_says : (name : Name) → AllByRecursion P (field_order classes name)
  field_search_says name = each_says [] (superclasses classes name) tt (upwards_say (length classes) name)
