-- The classes of a typed program: those of the listing are closed upwards, and the given ones are none of these.
use Rattle.std.proofs.Common.{◌≡◌, ℕ, zero, suc, ◌+◌, ◌-◌, ◌≤◌, Bool, true, false, List, [], ◌∷◌, ◌++◌, ◌⊎◌, length, map, append_assoc, Option, Some, None, refl, sym, ap, subst, ◌∙◌, inl, inr, arith}
use Rattle.std.specs.Prelude.{bytes_eq, find, slice_get, option_map, ◌&&◌, ◌||◌}
use Rattle.std.specs.List.{AllByRecursion, list_all, list_any, filter_map}
use Rattle.std.specs.Option.{option_map_or}
use Rattle.std.proofs.lemmas.Bool.{cases_Bool, or_cases, or_left, or_right, and_parts, and_from, false≢true}
use Rattle.std.proofs.lemmas.List.Elements.{filter_map-append}
use Rattle.api_listing.specs.declared.declaration.Declaration.{Declaration}
use Rattle.api_listing.specs.declared.declaration.Declaration.TheVariants.{Class, Method, Field}
use Rattle.api_listing.specs.declared.types.ListedClass.{ListedClass}
use Rattle.api_listing.specs.BuiltIn.{object, runnable, built_in_classes, class_rows}
use Rattle.api_listing.specs.Listing.{is_known, class_declared}
use Rattle.api_listing.specs.Nearest.{class_named, upwards}
use Rattle.cert_format.specs.declared.typing.Typing.{Typing}
use Rattle.bytecode_model.specs.declared.program.LinkedClass.{LinkedClass}
use Rattle.bytecode_model.specs.declared.program.Program.{Program}
use Rattle.bytecode_model.specs.Arrays.{is_array}
use Rattle.bytecode_model.specs.Classes.{classes_of, is_below, is_interface}
use Rattle.bytecode_model.specs.Heads.{head_of}
use Rattle.bytecode_model.specs.SearchOrder.{Name}
use Rattle.bytecode_model.specs.Sound.{IsSoundClass}
use Rattle.bytecode_model.proofs.Lists.{some_is, all_get}
use Rattle.bytecode_model.proofs.Upwards.{is_up, up_from, one_named, named_after, named_passes, named_so, same_of, of_same}
use Rattle.guest_model.specs.Layout.{class_given}
use Rattle.typed_runs.specs.Programs.{IsTypedProgram}

-- ---- lists and tests

pub all_from : {A : Type 0} (p : A → Bool) (xs : List A) → ((i : ℕ) (x : A) → slice_get xs i ≡ Some x → p x ≡ true) → list_all p xs ≡ true
all_from p [] each = refl
all_from p (x ∷ xs) each = and_from (p x) (list_all p xs) (each zero x refl) (all_from p xs (λ i y e. each (suc i) y e))

pub all_more : {A : Type 0} (p q : A → Bool) (xs : List A) → ((x : A) → p x ≡ true → q x ≡ true) → list_all p xs ≡ true → list_all q xs ≡ true
all_more p q [] each e = refl
all_more p q (x ∷ xs) each e =
    let a = and_parts (p x) (list_all p xs) e in
    and_from (q x) (list_all q xs) (each x a.0) (all_more p q xs each a.1)

pub all_both : {A : Type 0} (p : A → Bool) (xs ys : List A) → list_all p xs ≡ true → list_all p ys ≡ true → list_all p (xs ++ ys) ≡ true
all_both p [] ys e f = f
all_both p (x ∷ xs) ys e f =
    let a = and_parts (p x) (list_all p xs) e in
    and_from (p x) (list_all p (xs ++ ys)) a.0 (all_both p xs ys a.1 f)

pub all_mapped : {A B : Type 0} (p : B → Bool) (f : A → B) (xs : List A) → list_all (λ x. p (f x)) xs ≡ true → list_all p (map f xs) ≡ true
all_mapped p f [] e = refl
all_mapped p f (x ∷ xs) e =
    let a = and_parts (p (f x)) (list_all (λ y. p (f y)) xs) e in
    and_from (p (f x)) (list_all p (map f xs)) a.0 (all_mapped p f xs a.1)

pub any_front : {A : Type 0} (p : A → Bool) (xs ys : List A) → list_any p xs ≡ true → list_any p (xs ++ ys) ≡ true
any_front p [] ys e = absurd cc
any_front p (x ∷ xs) ys e =
    elim (or_cases (p x) (list_any p xs) e) [
      | inl here ↦ or_left (p x) _ here
      | inr later ↦ or_right (p x) _ (any_front p xs ys later)
    ]

pub any_cases : {A : Type 0} (p : A → Bool) (xs ys : List A) → list_any p (xs ++ ys) ≡ true → (list_any p xs ≡ true) ⊎ (list_any p ys ≡ true)
any_cases p [] ys e = inr e
any_cases p (x ∷ xs) ys e =
    elim (or_cases (p x) (list_any p (xs ++ ys)) e) [
      | inl here ↦ inl (or_left (p x) _ here)
      | inr later ↦
          elim (any_cases p xs ys later) [
            | inl front ↦ inl (or_right (p x) _ front)
            | inr back ↦ inr back
          ]
    ]

-- one that passes a test is where another test holds of all that pass it
pub any_of : {A : Type 0} (p q : A → Bool) (xs : List A) → list_all q xs ≡ true → list_any p xs ≡ true → (x : A) × (p x ≡ true) × (q x ≡ true)
any_of p q [] e f = absurd cc
any_of p q (x ∷ xs) e f =
    let a = and_parts (q x) (list_all q xs) e in
    elim (or_cases (p x) (list_any p xs) f) [
      | inl here ↦ (x, here, a.0)
      | inr later ↦ any_of p q xs a.1 later
    ]

pub find_none : {A : Type 0} (p : A → Bool) (xs : List A) → list_any p xs ≡ false → find p xs ≡ None
find_none p [] e = refl
find_none p (x ∷ xs) e =
    elim (cases_Bool (p x)) [
      | inl is ↦ let h : true ≡ false = rw is at e in absurd cc
      | inr fails ↦ let h : list_any p xs ≡ false = rw fails at e in rw fails (find_none p xs h)
    ]

-- what is found is there, and the test holds of it
pub record Found {A : Type 0} (p : A → Bool) (xs : List A) (x : A) : Type 0 where
  pub place : ℕ
  pub there : slice_get xs place ≡ Some x
  pub passes : p x ≡ true

pub find_there : {A : Type 0} (p : A → Bool) (xs : List A) (x : A) → find p xs ≡ Some x → Found p xs x
find_there p [] x e = absurd cc
find_there p (y ∷ xs) x e =
    elim (cases_Bool (p y)) [
      | inl is ↦
          let h : ◌≡◌ {A = Option _} (Some y) (Some x) = rw is at e in
          let one : y ≡ x = some_is y x h in
          record { place = 0; there = ap (λ (z : _). Some z) one; passes = subst (λ (z : _). p z ≡ true) one is }
      | inr fails ↦
          let h : find p xs ≡ Some x = rw fails at e in
          let f = find_there p xs x h in
          record { place = suc f.place; there = f.there; passes = f.passes }
    ]

-- one that passes is found, where no other passes
found_at : {A : Type 0} (p : A → Bool) (y : A) (xs : List A) (i : ℕ) (x : A) → slice_get (y ∷ xs) i ≡ Some x → p x ≡ true → p y ≡ false
    → ((k : ℕ) → slice_get xs k ≡ Some x → find p xs ≡ Some x) → find p xs ≡ Some x
found_at p y xs zero x e is fails later = let one : y ≡ x = some_is y x e in absurd (false≢true (sym fails ∙ ap p one ∙ is))
found_at p y xs (suc k) x e is fails later = later k e

pub find_only : {A : Type 0} (p : A → Bool) (xs : List A) (i : ℕ) (x : A) → slice_get xs i ≡ Some x → p x ≡ true
    → ((j : ℕ) (y : A) → slice_get xs j ≡ Some y → p y ≡ true → y ≡ x) → find p xs ≡ Some x
find_only p [] i x e is only = absurd cc
find_only p (y ∷ xs) i x e is only =
    elim (cases_Bool (p y)) [
      | inl here ↦ rw here (ap (λ (z : _). Some z) (only 0 y refl here))
      | inr fails ↦ rw fails (found_at p y xs i x e is fails (λ k f. find_only p xs k x f is (λ j z g h. only (suc j) z g h)))
    ]

-- ---- the listing

-- whether the class above it and its interfaces are among the classes; Object has none above it
abbrev pub is_closed : List ListedClass → ListedClass → Bool
is_closed classes c = (bytes_eq c.name object || is_known classes c.parent) && list_all (is_known classes) c.interfaces

closed_front : (xs ys : List ListedClass) (c : ListedClass) → is_closed xs c ≡ true → is_closed (xs ++ ys) c ≡ true
closed_front xs ys c e =
    let a = and_parts (bytes_eq c.name object || is_known xs c.parent) (list_all (is_known xs) c.interfaces) e in
    let more : (name : Name) → is_known xs name ≡ true → is_known (xs ++ ys) name ≡ true =
    λ name f. any_front (λ (k : ListedClass). bytes_eq k.name name) xs ys f in
    let up : (bytes_eq c.name object || is_known (xs ++ ys) c.parent) ≡ true =
    elim (or_cases (bytes_eq c.name object) (is_known xs c.parent) a.0) [
      | inl top ↦ or_left (bytes_eq c.name object) _ top
      | inr known ↦ or_right (bytes_eq c.name object) _ (more c.parent known)
    ] in
    and_from _ _ up (all_more (is_known xs) (is_known (xs ++ ys)) c.interfaces more a.1)

built_in_closed : list_all (is_closed built_in_classes) built_in_classes ≡ true
unfolding class_rows
built_in_closed = refl

pub object_built_in : is_known built_in_classes object ≡ true
unfolding class_rows
object_built_in = refl

pub runnable_built_in : is_known built_in_classes runnable ≡ true
unfolding class_rows
runnable_built_in = refl

runnable_is : option_map_or (λ (c : ListedClass). c.is_interface) (class_named built_in_classes runnable) false ≡ true
unfolding class_rows
runnable_is = refl

module _ (program : Program) (typing : Typing) (ok : IsTypedProgram program typing) where
  abbrev pub listed_classes : List ListedClass
  listed_classes = program.listing.classes

  -- the classes after the built-in ones
  abbrev more_listed : List ListedClass
  more_listed = filter_map class_declared ok.links.listed.said

  listed_is : listed_classes ≡ built_in_classes ++ more_listed
  listed_is = ap (λ l. l.classes) ok.links.listed.listed

  pub built_in_known : (name : Name) → is_known built_in_classes name ≡ true → is_known listed_classes name ≡ true
  built_in_known name e =
      subst (λ (classes : List ListedClass). is_known classes name ≡ true) (sym listed_is)
      (any_front (λ (k : ListedClass). bytes_eq k.name name) built_in_classes more_listed e)

  declared_closed : (before after : List Declaration) (c : ListedClass) → ok.links.listed.said ≡ before ++ Class c ∷ after
      → is_closed (built_in_classes ++ more_listed) c ≡ true
  declared_closed before after c e =
      let named = ok.links.listed.named before after (Class c) e in
      let front : List ListedClass = built_in_classes ++ filter_map class_declared before in
      let a = and_parts (is_known front c.parent) (list_all (is_known front) c.interfaces) named in
      let closed : is_closed front c ≡ true = and_from _ _ (or_right (bytes_eq c.name object) _ a.0) a.1 in
      let split : built_in_classes ++ more_listed ≡ front ++ filter_map class_declared (Class c ∷ after) =
      ap (λ (said : List Declaration). built_in_classes ++ filter_map class_declared said) e
      ∙ ap (λ (l : List ListedClass). built_in_classes ++ l) (filter_map-append class_declared before (Class c ∷ after))
      ∙ sym (append_assoc built_in_classes (filter_map class_declared before) (filter_map class_declared (Class c ∷ after))) in
      subst (λ (classes : List ListedClass). is_closed classes c ≡ true) (sym split)
      (closed_front front (filter_map class_declared (Class c ∷ after)) c closed)

  declared_all : (before after : List Declaration) → ok.links.listed.said ≡ before ++ after
      → list_all (is_closed (built_in_classes ++ more_listed)) (filter_map class_declared after) ≡ true
  declared_all before [] e = refl
  declared_all before (Class c ∷ after) e =
      and_from _ _ (declared_closed before after c e) (declared_all (before ++ Class c ∷ []) after (e ∙ sym (append_assoc before (Class c ∷ []) after)))
  declared_all before (Method m types ∷ after) e =
      declared_all (before ++ Method m types ∷ []) after (e ∙ sym (append_assoc before (Method m types ∷ []) after))
  declared_all before (Field id class ∷ after) e =
      declared_all (before ++ Field id class ∷ []) after (e ∙ sym (append_assoc before (Field id class ∷ []) after))

  -- each class of the listing
  pub listed_closed : list_all (is_closed listed_classes) listed_classes ≡ true
  listed_closed =
      subst (λ (classes : List ListedClass). list_all (is_closed classes) classes ≡ true) (sym listed_is)
      (all_both (is_closed (built_in_classes ++ more_listed)) built_in_classes more_listed
      (all_more (is_closed built_in_classes) (is_closed (built_in_classes ++ more_listed)) built_in_classes
      (λ c e. closed_front built_in_classes more_listed c e) built_in_closed)
      (declared_all [] ok.links.listed.said refl))

  -- ---- what is found by a name

  known_found : (classes : List ListedClass) (more : List ListedClass) (name : Name) → is_known classes name ≡ true
      → (c : ListedClass) × (class_named classes name ≡ Some c) × (class_named (classes ++ more) name ≡ Some c)
  known_found [] more name e = absurd cc
  known_found (x ∷ classes) more name e =
      elim (cases_Bool (bytes_eq x.name name)) [
        | inl is ↦ (x, rw is refl, rw is refl)
        | inr fails ↦
            let h : is_known classes name ≡ true = rw fails at e in
            let f = known_found classes more name h in
            (f.0, rw fails f.1, rw fails f.2)
      ]

  pub runnable_interface : is_interface program runnable ≡ true
  runnable_interface =
      let given = map (λ (c : LinkedClass). head_of c.file) program.classes in
      let f = known_found built_in_classes (more_listed ++ given) runnable runnable_built_in in
      let all : classes_of program ≡ built_in_classes ++ (more_listed ++ given) =
      ap (λ (l : List ListedClass). l ++ given) listed_is ∙ append_assoc built_in_classes more_listed given in
      let is_one : Option ListedClass → Bool = λ o. option_map_or (λ (c : ListedClass). c.is_interface) o false in
      ap (λ (classes : List ListedClass). is_one (class_named classes runnable)) all ∙ ap is_one f.2 ∙ sym (ap is_one f.1) ∙ runnable_is

  -- the class of the listing with a name that is known there
  pub record Listed (name : Name) : Type 0 where
    pub class : ListedClass
    pub named : class.name ≡ name
    pub found : class_named (classes_of program) name ≡ Some class
    pub above : (name ≡ object) ⊎ (is_known listed_classes class.parent ≡ true)

  pub listed : (name : Name) → is_known listed_classes name ≡ true → Listed name
  listed name e =
      let f = known_found listed_classes (map (λ (c : LinkedClass). head_of c.file) program.classes) name e in
      let closed = named_passes (is_closed listed_classes) listed_classes name f.0 listed_closed f.1 in
      let named = named_so listed_classes name f.0 f.1 in
      let up = (and_parts (bytes_eq f.0.name object || is_known listed_classes f.0.parent) _ closed).0 in
      record {
        class = f.0;
        named = named;
        found = f.2;
        above =
            elim (or_cases (bytes_eq f.0.name object) _ up) [
              | inl top ↦ inl (sym named ∙ same_of f.0.name object top)
              | inr known ↦ inr known
            ];
      }

  -- ---- one step more upwards

  further_from : (n : ℕ) (found : Option ListedClass) (above : Name)
      → ((c : ListedClass) → is_up (classes_of program) n c.parent above ≡ true → is_up (classes_of program) (suc n) c.parent above ≡ true)
      → one_named above (up_from (classes_of program) found n) ≡ true → one_named above (up_from (classes_of program) found (suc n)) ≡ true
  further_from n None above more e = absurd cc
  further_from n (Some c) above more e =
      elim (or_cases (bytes_eq c.name above) (is_up (classes_of program) n c.parent above) e) [
        | inl is ↦ or_left (bytes_eq c.name above) _ is
        | inr later ↦ or_right (bytes_eq c.name above) _ (more c later)
      ]

  further : (n : ℕ) (class above : Name) → is_up (classes_of program) n class above ≡ true → is_up (classes_of program) (suc n) class above ≡ true
  further zero class above e = absurd cc
  further (suc n) class above e =
      further_from n (class_named (classes_of program) class) above (λ c later. further n c.parent above later) e

  further_by : (k n : ℕ) (class above : Name) → is_up (classes_of program) n class above ≡ true → is_up (classes_of program) (k + n) class above ≡ true
  further_by zero n class above e = let same : 0 + n ≡ n = omega arith in rw same e
  further_by (suc k) n class above e =
      let same : suc k + n ≡ suc (k + n) = omega arith in
      rw same (further (k + n) class above (further_by k n class above e))

  abbrev pub count : ℕ
  count = length (classes_of program)

  pub up_below : (n : ℕ) (class above : Name) → n ≤ count → is_up (classes_of program) n class above ≡ true → is_below program class above ≡ true
  up_below n class above less e =
      let same : (count - n) + n ≡ count = omega arith in
      subst (λ (m : ℕ). is_up (classes_of program) m class above ≡ true) same (further_by (count - n) n class above e)

  within_some : (classes : List ListedClass) (name : Name) (c : ListedClass) → class_named classes name ≡ Some c → 1 ≤ length classes
  within_some [] name c e = absurd cc
  within_some (x ∷ classes) name c e = omega arith

  -- a class that is known is below itself
  pub below_itself : (name : Name) → is_known listed_classes name ≡ true → is_below program name name ≡ true
  below_itself name known =
      let l = listed name known in
      let here : is_up (classes_of program) 1 name name ≡ true =
      subst (λ (o : Option ListedClass). one_named name (up_from (classes_of program) o 0) ≡ true) (sym l.found)
      (or_left (bytes_eq l.class.name name) _ (of_same l.class.name name l.named)) in
      up_below 1 name name (within_some (classes_of program) name l.class l.found) here

  -- ---- what is above a class of the listing is of the listing

  known_at : (n : ℕ) (class above : Name) → suc n ≤ count → (l : Listed class)
      → ((parent : Name) → is_known listed_classes parent ≡ true → is_up (classes_of program) n parent above ≡ true → is_known listed_classes above ≡ true)
      → is_known listed_classes class ≡ true → is_up (classes_of program) (suc n) class above ≡ true → is_known listed_classes above ≡ true
  known_at n class above less l later known e =
      let here : one_named above (l.class ∷ upwards n (classes_of program) l.class.parent) ≡ true =
      subst (λ (o : Option ListedClass). one_named above (up_from (classes_of program) o n) ≡ true) l.found e in
      elim (or_cases (bytes_eq l.class.name above) (is_up (classes_of program) n l.class.parent above) here) [
        | inl is ↦ subst (λ (name : Name). is_known listed_classes name ≡ true) (sym l.named ∙ same_of l.class.name above is) known
        | inr up ↦
            elim l.above [
              | inl top ↦
                  let one : above ≡ object = ok.links.order.top above
                  (subst (λ (name : Name). is_below program name above ≡ true) top (up_below (suc n) class above less e)) in
                  subst (λ (name : Name). is_known listed_classes name ≡ true) (sym one) (built_in_known object object_built_in)
              | inr parent ↦ later l.class.parent parent up
            ]
      ]

  known_up : (n : ℕ) (class above : Name) → n ≤ count → is_known listed_classes class ≡ true → is_up (classes_of program) n class above ≡ true
      → is_known listed_classes above ≡ true
  known_up zero class above less known e = absurd cc
  known_up (suc n) class above less known e =
      known_at n class above less (listed class known) (λ parent k up. known_up n parent above (omega arith) k up) known e

  pub known_below : (class above : Name) → is_known listed_classes class ≡ true → is_below program class above ≡ true → is_known listed_classes above ≡ true
  known_below class above known e = known_up count class above (omega arith) known e

  -- ---- given classes

  pub sound_class : (own : ℕ) (class : LinkedClass) → slice_get program.classes own ≡ Some class → IsSoundClass class
  sound_class own class there = all_get IsSoundClass program.classes own class ok.links.sound.classes there

  pub given_unlisted : (own : ℕ) (class : LinkedClass) → slice_get program.classes own ≡ Some class → is_known listed_classes class.name ≡ true → ⊥
  given_unlisted own class there known = false≢true (sym (ok.links.linked.standing own class there).unlisted ∙ known)

  same_index : (i j : ℕ) (x y : LinkedClass) → slice_get program.classes i ≡ Some x → slice_get program.classes j ≡ Some y → i ≡ j → x ≡ y
  same_index i j x y e f same = some_is x y (sym e ∙ ap (slice_get program.classes) same ∙ f)

  -- no other class has its name
  pub given_once : (own other : ℕ) (class found : LinkedClass) → slice_get program.classes own ≡ Some class → slice_get program.classes other ≡ Some found
      → found.name ≡ class.name → found ≡ class
  given_once own other class found e f named = same_index other own found class f e ((ok.links.linked.standing own class e).once other found f named)

  pub given_found : (own : ℕ) (class : LinkedClass) → slice_get program.classes own ≡ Some class → class_given program class.name ≡ Some class
  given_found own class there =
      find_only (λ (c : LinkedClass). bytes_eq c.name class.name) program.classes own class there (of_same class.name class.name refl)
      (λ j y e is. given_once own j class y there e (same_of y.name class.name is))

  -- the class that is given by the name
  pub record Given (name : Name) (class : LinkedClass) : Type 0 where
    pub own : ℕ
    pub there : slice_get program.classes own ≡ Some class
    pub named : class.name ≡ name

  pub given_is : (name : Name) (class : LinkedClass) → class_given program name ≡ Some class → Given name class
  given_is name class e =
      let f = find_there (λ (c : LinkedClass). bytes_eq c.name name) program.classes class e in
      record { own = f.place; there = f.there; named = same_of class.name name f.passes }

  pub known_not_given : (name : Name) → is_known listed_classes name ≡ true → class_given program name ≡ None
  known_not_given name known = by (class_given program name) refl where
    by : (o : Option LinkedClass) → class_given program name ≡ o → o ≡ None
    by None e = refl
    by (Some class) e =
        let g = given_is name class e in
        absurd (given_unlisted g.own class g.there (subst (λ (n : Name). is_known listed_classes n ≡ true) (sym g.named) known))

  -- ---- heads of given classes

  pub heads_named : (list : List LinkedClass) (name : Name) → AllByRecursion IsSoundClass list
      → class_named (map (λ (c : LinkedClass). head_of c.file) list) name ≡ option_map (λ (c : LinkedClass). head_of c.file) (find (λ (c : LinkedClass). bytes_eq c.name name) list)
  heads_named [] name all = refl
  heads_named (x ∷ list) name all =
      let same : bytes_eq (head_of x.file).name name ≡ bytes_eq x.name name = ap (λ (n : Name). bytes_eq n name) (sym all.0.name) in
      elim (cases_Bool (bytes_eq x.name name)) [
        | inl is ↦ let other : bytes_eq (head_of x.file).name name ≡ true = same ∙ is in rw (other, is) refl
        | inr fails ↦ let other : bytes_eq (head_of x.file).name name ≡ false = same ∙ fails in rw (other, fails) (heads_named list name all.1)
      ]

  pub own_head : (own : ℕ) (class : LinkedClass) → slice_get program.classes own ≡ Some class
      → class_named (map (λ (c : LinkedClass). head_of c.file) program.classes) class.name ≡ Some (head_of class.file)
  own_head own class there =
      heads_named program.classes class.name ok.links.sound.classes ∙ ap (option_map (λ (c : LinkedClass). head_of c.file)) (given_found own class there)

  pub not_known_found : (name : Name) → is_known listed_classes name ≡ false
      → class_named (classes_of program) name ≡ option_map (λ (c : LinkedClass). head_of c.file) (class_given program name)
  not_known_found name e =
      named_after (map (λ (c : LinkedClass). head_of c.file) program.classes) name listed_classes (find_none (λ (c : ListedClass). bytes_eq c.name name) listed_classes e)
      ∙ heads_named program.classes name ok.links.sound.classes

  pub given_head : (own : ℕ) (class : LinkedClass) → slice_get program.classes own ≡ Some class
      → class_named (classes_of program) class.name ≡ Some (head_of class.file)
  given_head own class there =
      not_known_found class.name (ok.links.linked.standing own class there).unlisted
      ∙ ap (option_map (λ (c : LinkedClass). head_of c.file)) (given_found own class there)

  pub given_parent : (own : ℕ) (class : LinkedClass) → slice_get program.classes own ≡ Some class → (head_of class.file).parent ≡ class.parent
  given_parent own class there = sym (sound_class own class there).parent

  pub given_name : (own : ℕ) (class : LinkedClass) → slice_get program.classes own ≡ Some class → (head_of class.file).name ≡ class.name
  given_name own class there = sym (sound_class own class there).name

  pub given_apart : (own : ℕ) (class : LinkedClass) → slice_get program.classes own ≡ Some class → is_array class.name ≡ false
  given_apart own class there =
      elim (cases_Bool (is_array class.name)) [
        | inl is ↦
            let both : ◌≡◌ {A = Option ListedClass} None (Some (head_of class.file)) = sym (ok.links.order.no_arrays class.name is) ∙ given_head own class there in
            absurd cc
        | inr apart ↦ apart
      ]

  pub known_apart : (name : Name) → is_known listed_classes name ≡ true → is_array name ≡ false
  known_apart name known =
      let l = listed name known in
      elim (cases_Bool (is_array name)) [
        | inl is ↦ let both : ◌≡◌ {A = Option ListedClass} None (Some l.class) = sym (ok.links.order.no_arrays name is) ∙ l.found in absurd cc
        | inr apart ↦ apart
      ]
