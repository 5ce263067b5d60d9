-- The given classes among all classes: each has one place, after those of the listing.
use Rattle.std.proofs.Common.{◌≡◌, ℕ, suc, ◌+◌, ◌-◌, ◌<◌, ◌≤◌, ◌&&◌, Bool, true, false, not, cond, List, [], ◌∷◌, ◌++◌, length, map, Option, Some, None, refl, sym, ap, subst, ◌∙◌, arith, length-append}
use Rattle.std.specs.Prelude.{bytes_eq, slice_get}
use Rattle.std.specs.List.{position_from, AllByRecursion}
use Rattle.std.specs.Option.{option_or, option_map, option_map_or, option_and_then, is_some}
use Rattle.std.proofs.lemmas.List.{length-map}
use Rattle.std.proofs.lemmas.Option.{slice_get-map}
use Rattle.mon_base.proofs.Lists.{position_below}
use Rattle.api_listing.specs.declared.types.ListedClass.{ListedClass}
use Rattle.api_listing.specs.BuiltIn.{built_in_classes}
use Rattle.api_listing.specs.Listing.{is_known}
use Rattle.api_listing.specs.Nearest.{class_named}
use Rattle.bytecode_model.specs.declared.program.LinkedClass.{LinkedClass}
use Rattle.bytecode_model.specs.declared.program.Program.{Program}
use Rattle.bytecode_model.specs.Classes.{classes_of}
use Rattle.bytecode_model.specs.Heads.{head_of}
use Rattle.bytecode_model.specs.Places.{class_place}
use Rattle.bytecode_model.specs.Sound.{IsSoundClass}
use Rattle.bytecode_model.proofs.Lists.{some_is}
use Rattle.bytecode_model.proofs.Placing.{find_at, has_place, same_name}
use Rattle.guest_model.specs.Answering.{is_listed_class}
use Rattle.guest_model.specs.Finding.{given_index}
use Rattle.guest_model.specs.Layout.{class_given}
use Rattle.guest_model.specs.Places.{class_index}
use Rattle.guest_model.specs.Ready.{IsReady}
use Rattle.guest_tables.specs.Library.{is_fresh}

-- ---- places in lists

-- what stands in the place that is found
pub stands : {X : Type 0} (test : X → Bool) (i : ℕ) (xs : List X) (k : ℕ) → position_from test i xs ≡ Some k
    → (x : X) × (i ≤ k) × (slice_get xs (k - i) ≡ Some x) × (test x ≡ true)
stands test i [] k e = absurd cc
stands {X = X} test i (x ∷ xs) k e = by (test x) refl e (stands test (i + 1) xs k) where
  by : (b : Bool) → test x ≡ b → cond b (Some i) (position_from test (i + 1) xs) ≡ Some k
      → (position_from test (i + 1) xs ≡ Some k → (y : X) × (i + 1 ≤ k) × (slice_get xs (k - (i + 1)) ≡ Some y) × (test y ≡ true))
      → (y : X) × (i ≤ k) × (slice_get (x ∷ xs) (k - i) ≡ Some y) × (test y ≡ true)
  by true t e later =
      let same : i ≡ k = some_is i k e in
      let none : k - i ≡ 0 = omega arith in
      (x, omega arith, rw none refl, t)
  by false t e later =
      let s = later e in
      let above : i + 1 ≤ k = s.1 in
      let more : k - i ≡ suc (k - (i + 1)) = omega arith in
      (s.0, omega arith, rw more s.2, s.3)

pub after_others : {X : Type 0} (test : X → Bool) (i n : ℕ) (xs ys : List X) → n ≡ i + length xs → position_from test i (xs ++ ys) ≡ option_or (position_from test i xs) (position_from test n ys)
after_others test i n [] ys e =
    let same : i ≡ n = omega arith in
    ap (λ k. position_from test k ys) same
after_others test i n (x ∷ xs) ys e =
    let more : n ≡ (i + 1) + length xs = omega arith in
    by (test x) _ _ _ (after_others test (i + 1) n xs ys more) where
      by : (b : Bool) (o p r : Option ℕ) → o ≡ option_or p r → cond b (Some i) o ≡ option_or (cond b (Some i) p) r
      by true o p r e = refl
      by false o p r e = e

pub moved : {X : Type 0} (test : X → Bool) (i n m : ℕ) (xs : List X) → m ≡ i + n → position_from test m xs ≡ option_map (λ k. k + n) (position_from test i xs)
moved test i n m [] s = refl
moved test i n m (x ∷ xs) s =
    let next : m + 1 ≡ (i + 1) + n = omega arith in
    by (test x) _ _ (moved test (i + 1) n (m + 1) xs next) where
      by : (b : Bool) (o p : Option ℕ) → o ≡ option_map (λ k. k + n) p → cond b (Some m) o ≡ option_map (λ k. k + n) (cond b (Some i) p)
      by true o p e = ap Some s
      by false o p e = e

pub same_place : {X Y : Type 0} (f : X → Y) (test : Y → Bool) (other : X → Bool) (i : ℕ) (xs : List X) → AllByRecursion (λ x. test (f x) ≡ other x) xs
    → position_from test i (map f xs) ≡ position_from other i xs
same_place f test other i [] all = refl
same_place f test other i (x ∷ xs) all = by _ _ _ _ all.0 (same_place f test other (i + 1) xs all.1) where
  by : (a b : Bool) (o p : Option ℕ) → a ≡ b → o ≡ p → cond a (Some i) o ≡ cond b (Some i) p
  by a b o p e q = cc

-- ---- given classes

same_names : (name : List ℕ) (xs : List LinkedClass) → AllByRecursion IsSoundClass xs → AllByRecursion (λ (c : LinkedClass). bytes_eq (head_of c.file).name name ≡ bytes_eq c.name name) xs
same_names name [] all = tt
same_names name (x ∷ xs) all = (ap (λ n. bytes_eq n name) (sym all.0.name), same_names name xs all.1)

-- the place of a class: that among the listed ones, or else that among the given ones, after these
index_is : (program : Program) → IsReady program → (name : List ℕ)
    → class_index program name ≡ option_or (class_place program.listing.classes name) (option_map (λ k. k + length program.listing.classes) (given_index program name))
index_is program r name =
    let listed = program.listing.classes in
    let test = λ (c : ListedClass). bytes_eq c.name name in
    let heads = map (λ (c : LinkedClass). head_of c.file) program.classes in
    after_others test 0 (length listed) listed heads (omega arith)
    ∙ ap (option_or (class_place listed name)) (moved test 0 (length listed) (length listed) heads (omega arith)
    ∙ ap (option_map (λ k. k + length listed)) (same_place (λ (c : LinkedClass). head_of c.file) test (λ (c : LinkedClass). bytes_eq c.name name) 0 program.classes (same_names name program.classes r.sound.classes)))

no_place : (o : Option ℕ) → is_some o ≡ false → o ≡ None
no_place None e = refl
no_place (Some k) e = absurd cc

-- a given class is none of the listing
unlisted : (program : Program) → IsReady program → (name : List ℕ) (k : ℕ) → given_index program name ≡ Some k → class_place program.listing.classes name ≡ None
unlisted program r name k e =
    let s = stands (λ (c : LinkedClass). bytes_eq c.name name) 0 program.classes k e in
    let zero_less : k - 0 ≡ k = omega arith in
    let here : slice_get program.classes k ≡ Some s.0 = subst (λ (j : ℕ). slice_get program.classes j ≡ Some s.0) zero_less s.2 in
    let unknown : is_known program.listing.classes s.0.name ≡ false = (r.standing k s.0 here).unlisted in
    let same : s.0.name ≡ name = same_name _ _ s.3 in
    no_place _ (has_place (λ (c : ListedClass). bytes_eq c.name name) 0 program.listing.classes ∙ rw (← same) unknown)

some_given : (program : Program) → IsReady program → (name : List ℕ) (k : ℕ) → given_index program name ≡ Some k
    → class_index program name ≡ Some (k + length program.listing.classes)
some_given program r name k e =
    index_is program r name
    ∙ ap (λ o. option_or o (option_map (λ k. k + length program.listing.classes) (given_index program name))) (unlisted program r name k e)
    ∙ ap (option_map (λ k. k + length program.listing.classes)) e

none_given : (program : Program) → IsReady program → (name : List ℕ) → given_index program name ≡ None → class_index program name ≡ class_place program.listing.classes name
none_given program r name e =
    index_is program r name ∙ ap (λ o. option_or (class_place program.listing.classes name) (option_map (λ k. k + length program.listing.classes) o)) e ∙ or_none _ where
      or_none : (o : Option ℕ) → option_or o None ≡ o
      or_none None = refl
      or_none (Some k) = refl

-- ---- what the code tells

pub nowhere : (program : Program) → IsReady program → (name : List ℕ) → class_index program name ≡ None → given_index program name ≡ None
nowhere program r name e = by (given_index program name) refl where
  by : (o : Option ℕ) → given_index program name ≡ o → o ≡ None
  by None g = refl
  by (Some k) g = let s = some_given program r name k g in absurd cc

pub listed : (program : Program) → IsReady program → (name : List ℕ) (p : ℕ) → class_index program name ≡ Some p → p < length program.listing.classes
    → given_index program name ≡ None
listed program r name p e l = by (given_index program name) refl where
  by : (o : Option ℕ) → given_index program name ≡ o → o ≡ None
  by None g = refl
  by (Some k) g =
      let same : p ≡ k + length program.listing.classes = some_is _ _ (sym e ∙ some_given program r name k g) in
      absurd (omega arith)

pub given : (program : Program) → IsReady program → (name : List ℕ) (p : ℕ) → class_index program name ≡ Some p → length program.listing.classes ≤ p
    → Some (p - length program.listing.classes) ≡ given_index program name
given program r name p e l = by (given_index program name) refl where
  by : (o : Option ℕ) → given_index program name ≡ o → Some (p - length program.listing.classes) ≡ o
  by None g =
      let w : p < 0 + length program.listing.classes = position_below _ 0 program.listing.classes p (sym (none_given program r name g) ∙ e) in
      absurd (omega arith)
  by (Some k) g =
      let same : p ≡ k + length program.listing.classes = some_is _ _ (sym e ∙ some_given program r name k g) in
      let less : p - length program.listing.classes ≡ k = omega arith in
      ap Some less

-- a place fits in 32 bits
pub index_few : (program : Program) → IsReady program → (name : List ℕ) (p : ℕ) → class_index program name ≡ Some p → p < 4294967296
index_few program r name p e =
    let w : p < 0 + length (classes_of program) = position_below _ 0 (classes_of program) p e in
    let heads : length (map (λ (c : LinkedClass). head_of c.file) program.classes) ≡ length program.classes = length-map _ _ in
    let all : length (classes_of program) ≡ length program.listing.classes + length (map (λ (c : LinkedClass). head_of c.file) program.classes) = length-append _ _ in
    let few : length program.classes ≤ 1001 = r.sound.few in
    let few_listed : length program.listing.classes ≤ 20020 = r.sound.listed.classes in
    omega arith

-- the class of the name stands at the index
pub class_found : (program : Program) (name : List ℕ) (o : Option ℕ) → given_index program name ≡ o → class_given program name ≡ option_and_then (slice_get program.classes) o
class_found program name o e = find_at (λ (c : LinkedClass). bytes_eq c.name name) program.classes ∙ ap (option_and_then (slice_get program.classes)) e

-- ---- the listing

parts : (program : Program) (name : List ℕ) → class_index program name
    ≡ option_or (class_place program.listing.classes name)
    (position_from (λ (c : ListedClass). bytes_eq c.name name) (length program.listing.classes) (map (λ (c : LinkedClass). head_of c.file) program.classes))
parts program name =
    after_others (λ (c : ListedClass). bytes_eq c.name name) 0 (length program.listing.classes) program.listing.classes (map (λ (c : LinkedClass). head_of c.file) program.classes) (omega arith)

-- the place of a class that is in the listing, or else that after it
placed : (program : Program) (name : List ℕ) (o : Option ℕ) → class_place program.listing.classes name ≡ o
    → class_index program name
    ≡ option_or o (position_from (λ (c : ListedClass). bytes_eq c.name name) (length program.listing.classes) (map (λ (c : LinkedClass). head_of c.file) program.classes))
placed program name o is =
    parts program name
    ∙ ap (λ (p : Option ℕ). option_or p (position_from (λ (c : ListedClass). bytes_eq c.name name) (length program.listing.classes) (map (λ (c : LinkedClass). head_of c.file) program.classes))) is

-- a place below that of the given classes is one in the listing, and no other is
pub listed_there : (program : Program) (name : List ℕ) (p : ℕ) → class_index program name ≡ Some p → p < length program.listing.classes → class_place program.listing.classes name ≡ Some p
listed_there program name p e l = by (class_place program.listing.classes name) refl where
  by : (o : Option ℕ) → class_place program.listing.classes name ≡ o → o ≡ Some p
  by (Some k) is = sym (placed program name (Some k) is) ∙ e
  by None is =
      let following = stands (λ (c : ListedClass). bytes_eq c.name name) (length program.listing.classes) (map (λ (c : LinkedClass). head_of c.file) program.classes) p
      (sym (placed program name None is) ∙ e) in
      let above : length program.listing.classes ≤ p = following.1 in
      absurd (omega arith)

pub listed_not : (program : Program) (name : List ℕ) (p : ℕ) → class_index program name ≡ Some p → length program.listing.classes ≤ p → class_place program.listing.classes name ≡ None
listed_not program name p e l = by (class_place program.listing.classes name) refl where
  by : (o : Option ℕ) → class_place program.listing.classes name ≡ o → o ≡ None
  by None is = refl
  by (Some k) is =
      let same : k ≡ p = some_is _ _ (sym (placed program name (Some k) is) ∙ e) in
      let within : k < 0 + length program.listing.classes = position_below (λ (c : ListedClass). bytes_eq c.name name) 0 program.listing.classes k is in
      absurd (omega arith)

pub listed_nowhere : (program : Program) (name : List ℕ) → class_index program name ≡ None → class_place program.listing.classes name ≡ None
listed_nowhere program name e = by (class_place program.listing.classes name) refl where
  by : (o : Option ℕ) → class_place program.listing.classes name ≡ o → o ≡ None
  by None is = refl
  by (Some k) is =
      let wrong : Some k ≡ None = sym (placed program name (Some k) is) ∙ e in
      absurd cc

-- ---- what a table tells of the listing

tells_fresh : (classes : List ListedClass) (name : List ℕ) (o : Option ℕ) → class_place classes name ≡ o
    → option_map_or (λ (b : Bool). b) (option_and_then (slice_get (map is_fresh classes)) o) false
    ≡ (option_map_or (λ (c : ListedClass). not c.is_interface) (class_named classes name) false && not (is_known built_in_classes name))
tells_fresh classes name None is =
    ap (λ (o : Option ListedClass). option_map_or (λ (c : ListedClass). not c.is_interface) o false && not (is_known built_in_classes name))
    (sym (find_at (λ (c : ListedClass). bytes_eq c.name name) classes ∙ ap (option_and_then (slice_get classes)) is))
tells_fresh classes name (Some p) is =
    let s = stands (λ (c : ListedClass). bytes_eq c.name name) 0 classes p is in
    let zero_less : p - 0 ≡ p = omega arith in
    let here : slice_get classes p ≡ Some s.0 = subst (λ (j : ℕ). slice_get classes j ≡ Some s.0) zero_less s.2 in
    let same : s.0.name ≡ name = same_name _ _ s.3 in
    let found : class_named classes name ≡ Some s.0 = find_at (λ (c : ListedClass). bytes_eq c.name name) classes ∙ ap (option_and_then (slice_get classes)) is ∙ here in
    ap (λ (o : Option Bool). option_map_or (λ (b : Bool). b) o false) (slice_get-map is_fresh classes p ∙ ap (option_map is_fresh) here)
    ∙ ap (λ (n : List ℕ). not s.0.is_interface && not (is_known built_in_classes n)) same
    ∙ ap (λ (o : Option ListedClass). option_map_or (λ (c : ListedClass). not c.is_interface) o false && not (is_known built_in_classes name)) (sym found)

pub fresh_is : (program : Program) (name : List ℕ) (p : ℕ) → class_place program.listing.classes name ≡ Some p
    → option_map_or (λ (b : Bool). b) (slice_get (map is_fresh program.listing.classes) p) false ≡ is_listed_class program name
fresh_is program name p is = tells_fresh program.listing.classes name (Some p) is

pub fresh_not : (program : Program) (name : List ℕ) → class_place program.listing.classes name ≡ None → false ≡ is_listed_class program name
fresh_not program name is = tells_fresh program.listing.classes name None is
