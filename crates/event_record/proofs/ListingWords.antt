-- What stands in a listing are words, each method once, and its descriptor tells whether it gives something.
use Rattle.std.proofs.Common.{◌≡◌, ◌≢◌, ℕ, zero, suc, ◌+◌, ◌-◌, ◌<◌, Bool, true, false, List, [], ◌∷◌, ◌++◌, length, take, drop, filter, replicate, append_assoc, Option, Some, None, refl, sym, ap, subst, ◌∙◌, arith}
use Rattle.std.specs.Prelude.{◌==◌, ◌&&◌, ◌||◌, bytes_eq, codes, is_some, not, slice_get}
use Rattle.std.specs.List.{AllByRecursion, filter_map, flat_map, list_all, list_any}
use Rattle.std.proofs.lemmas.Bool.{and_parts, false≢true}
use Rattle.std.proofs.lemmas.List.{append-nil, length-append, take-append-drop}
use Rattle.std.proofs.lemmas.List.Elements.{filter_map-append}
use Rattle.std.proofs.lemmas.Slice.Eq.{bytes_eq-Decides}
use Rattle.mon_base.specs.declared.method.MethodId.{MethodId}
use Rattle.api_listing.specs.declared.declaration.Declaration.{Declaration}
use Rattle.api_listing.specs.declared.declaration.Declaration.TheVariants.{Class, Method, Field}
use Rattle.api_listing.specs.declared.descriptor.Element.{Element}
use Rattle.api_listing.specs.declared.descriptor.Element.TheVariants as elements
use Rattle.api_listing.specs.declared.descriptor.FieldType.{FieldType}
use Rattle.api_listing.specs.declared.descriptor.MethodType.{MethodType}
use Rattle.api_listing.specs.declared.types.ListedClass.{ListedClass}
use Rattle.api_listing.specs.declared.types.ListedMethod.{ListedMethod}
use Rattle.api_listing.specs.declared.types.Listing.{Listing}
use Rattle.api_listing.specs.BuiltIn.{built_in_classes, class_rows, is_method}
use Rattle.api_listing.specs.Descriptor.{EncodesDescriptor, element_encoded, method_encoded, result_encoded, type_encoded}
use Rattle.api_listing.specs.Lines.{EncodesKind, says_something}
use Rattle.api_listing.specs.Listing.{AreSaid, EncodesListing, class_declared, has_method, is_known, listing_of, method_declared, stands_already}
use Rattle.api_listing.specs.Words.{pieces}
use Rattle.event_record.specs.Entry.{gives_nothing}
use Rattle.event_record.specs.Printing.{HasNoBreak, IsInWords}
use Rattle.event_record.specs.Encoding.{IsFirst}
use Rattle.event_record.proofs.Indices.{is_itself}
use Rattle.event_record.proofs.Unbroken.{IsInLine, front, lines_have_no_newline, words_have_no_break}

-- ---- lists

all_get : {A : Type 0} (P : A → Type 0) (xs : List A) (i : ℕ) (x : A) → AllByRecursion P xs → slice_get xs i ≡ Some x → P x
all_get P [] i x all e = absurd cc
all_get P (y ∷ xs) zero x all e = let same : y ≡ x = cc in subst P same all.0
all_get P (y ∷ xs) (suc i) x all e = all_get P xs i x all.1 e

all_filtered : {A : Type 0} (P : A → Type 0) (p : A → Bool) (xs : List A) → AllByRecursion P xs → AllByRecursion P (filter p xs)
all_filtered P p [] all = tt
all_filtered P p (x ∷ xs) all = by (p x) refl (all_filtered P p xs all.1) where
  by : (b : Bool) → p x ≡ b → AllByRecursion P (filter p xs) → AllByRecursion P (filter p (x ∷ xs))
  by true e rest = rw e (all.0, rest)
  by false e rest = rw e rest

all_both : {A : Type 0} (P : A → Type 0) (xs ys : List A) → AllByRecursion P xs → AllByRecursion P ys → AllByRecursion P (xs ++ ys)
all_both P [] ys p q = q
all_both P (x ∷ xs) ys p q = (p.0, all_both P xs ys p.1 q)

-- ---- words

-- a byte that is no space and no newline
abbrev fine : ℕ → Bool
fine b = not (b == 32) && not (b == 10)

fine_byte : (b : ℕ) → fine b ≡ true → (b ≢ 32) × (b ≢ 10)
fine_byte b e = (λ s. false≢true (sym (ap fine s) ∙ e), λ s. false≢true (sym (ap fine s) ∙ e))

fine_word : (word : List ℕ) → list_all fine word ≡ true → HasNoBreak word
fine_word [] e = tt
fine_word (b ∷ word) e = let a = and_parts (fine b) (list_all fine word) e in (fine_byte b a.0, fine_word word a.1)

fine_names : (classes : List ListedClass) → list_all (λ (c : ListedClass). list_all fine c.name) classes ≡ true
    → AllByRecursion (λ (c : ListedClass). HasNoBreak c.name) classes
fine_names [] e = tt
fine_names (c ∷ classes) e =
    let a = and_parts (list_all fine c.name) (list_all (λ (d : ListedClass). list_all fine d.name) classes) e in
    (fine_word c.name a.0, fine_names classes a.1)

built_in_fine : list_all (λ (c : ListedClass). list_all fine c.name) built_in_classes ≡ true
unfolding class_rows
built_in_fine = refl

-- ---- what is said

abbrev AreWords : List (List ℕ) → Type 0
AreWords words = AllByRecursion HasNoBreak words

class_word : (words : List (List ℕ)) (c : ListedClass) (b : Bool) → AreWords words → EncodesKind b words c → HasNoBreak c.name
class_word words c true all encoded = let a = subst AreWords encoded.encoded all in a.1.0
class_word words c false all encoded = let a = subst AreWords encoded.encoded all in a.1.0

classes_in_words : (lines : List (List ℕ)) (said : List Declaration) → AllByRecursion (λ (line : List ℕ). AreWords (pieces 32 line)) lines
    → AreSaid lines said → AllByRecursion (λ (c : ListedClass). HasNoBreak c.name) (filter_map class_declared said)
classes_in_words [] [] all are = tt
classes_in_words [] (d ∷ said) all are = absurd are
classes_in_words (line ∷ lines) [] all are = absurd are
classes_in_words (line ∷ lines) (Class c ∷ said) all are =
    (class_word (pieces 32 line) c c.is_interface all.0 are.0.encoded, classes_in_words lines said all.1 are.1)
classes_in_words (line ∷ lines) (Method m types ∷ said) all are = classes_in_words lines said all.1 are.1
classes_in_words (line ∷ lines) (Field id class ∷ said) all are = classes_in_words lines said all.1 are.1

-- the words of a method, and its types
record IsWellListed (m : ListedMethod) : Type 0 where
  pub words : IsInWords m.id
  pub types : MethodType
  pub encoded : EncodesDescriptor m.id.desc types

methods_in_words : (lines : List (List ℕ)) (said : List Declaration) → AllByRecursion (λ (line : List ℕ). AreWords (pieces 32 line)) lines
    → AreSaid lines said → AllByRecursion IsWellListed (filter_map method_declared said)
methods_in_words [] [] all are = tt
methods_in_words [] (d ∷ said) all are = absurd are
methods_in_words (line ∷ lines) [] all are = absurd are
methods_in_words (line ∷ lines) (Class c ∷ said) all are = methods_in_words lines said all.1 are.1
methods_in_words (line ∷ lines) (Method m types ∷ said) all are =
    let a = subst AreWords are.0.0.encoded all.0 in (
      record { words = record { class = a.1.0; name = a.1.1.0; desc = a.1.1.1.0 }; types = types; encoded = are.0.1 },
      methods_in_words lines said all.1 are.1,
    )
methods_in_words (line ∷ lines) (Field id class ∷ said) all are = methods_in_words lines said all.1 are.1

lines_in_words : (lines : List (List ℕ)) → AllByRecursion (AllByRecursion IsInLine) lines → AllByRecursion (λ (line : List ℕ). AreWords (pieces 32 line)) lines
lines_in_words [] all = tt
lines_in_words (line ∷ lines) all = (words_have_no_break line all.0, lines_in_words lines all.1)

-- ---- each method once

-- a test that is passed by none of a list and of one more
apart_any : {A : Type 0} (p : A → Bool) (xs : List A) (x : A) → list_any p (xs ++ x ∷ []) ≡ false → (list_any p xs ≡ false) × (p x ≡ false)
apart_any p [] x e = by (p x) refl where
  by : (b : Bool) → p x ≡ b → (false ≡ false) × (p x ≡ false)
  by true is = absurd (let t : list_any p (x ∷ []) ≡ true = rw is refl in false≢true (sym e ∙ t))
  by false is = (refl, is)
apart_any p (y ∷ xs) x e = by (p y) refl (apart_any p xs x) where
  by : (b : Bool) → p y ≡ b → (list_any p (xs ++ x ∷ []) ≡ false → (list_any p xs ≡ false) × (p x ≡ false))
      → (list_any p (y ∷ xs) ≡ false) × (p x ≡ false)
  by true is others = absurd (let t : list_any p (y ∷ (xs ++ x ∷ [])) ≡ true = rw is refl in false≢true (sym e ∙ t))
  by false is others =
      let rest : list_any p (xs ++ x ∷ []) ≡ false = rw is at e in
      let a = others rest in
      (rw is a.0, a.1)

left_none : (a b : Bool) → not (a || b) ≡ true → a ≡ false
left_none true b e = absurd cc
left_none false b e = refl

-- what none of a list is, and which methods stand before this one
abbrev IsNew : List ListedMethod → List ListedMethod → ℕ → ListedMethod → Type 0
IsNew before methods index m =
    (has_method before m.id ≡ false) × ((j : ℕ) (n : ListedMethod) → j < index → slice_get methods j ≡ Some n → n.id ≢ m.id)

module _ (said : List Declaration) (once : (before after : List Declaration) (d : Declaration) → said ≡ before ++ d ∷ after → not (stands_already (listing_of before) d) ≡ true) where
  new_from : (before after : List Declaration) → said ≡ before ++ after → (index : ℕ) (m : ListedMethod)
      → slice_get (filter_map method_declared after) index ≡ Some m
      → IsNew (filter_map method_declared before) (filter_map method_declared after) index m
  new_from before [] split index m e = absurd cc
  new_from before (Class c ∷ after) split index m e =
      let same : filter_map method_declared (before ++ Class c ∷ []) ≡ filter_map method_declared before =
      filter_map-append method_declared before (Class c ∷ []) ∙ append-nil (filter_map method_declared before) in
      let rest = new_from (before ++ Class c ∷ []) after (split ∙ sym (append_assoc before (Class c ∷ []) after)) index m e in
      (sym (ap (λ (xs : List ListedMethod). has_method xs m.id) same) ∙ rest.0, rest.1)
  new_from before (Field id class ∷ after) split index m e =
      let same : filter_map method_declared (before ++ Field id class ∷ []) ≡ filter_map method_declared before =
      filter_map-append method_declared before (Field id class ∷ []) ∙ append-nil (filter_map method_declared before) in
      let rest = new_from (before ++ Field id class ∷ []) after (split ∙ sym (append_assoc before (Field id class ∷ []) after)) index m e in
      (sym (ap (λ (xs : List ListedMethod). has_method xs m.id) same) ∙ rest.0, rest.1)
  new_from before (Method x types ∷ after) split zero m e =
      let same : x ≡ m = cc in
      let here : has_method (filter_map method_declared before) x.id ≡ false = left_none (has_method (filter_map method_declared before) x.id) _ (once before after (Method x types) split) in
      (subst (λ (y : ListedMethod). has_method (filter_map method_declared before) y.id ≡ false) same here, λ j n low at. absurd (omega (arith, low)))
  new_from before (Method x types ∷ after) split (suc index) m e =
      let longer : filter_map method_declared (before ++ Method x types ∷ []) ≡ filter_map method_declared before ++ x ∷ [] =
      filter_map-append method_declared before (Method x types ∷ []) in
      let rest = new_from (before ++ Method x types ∷ []) after (split ∙ sym (append_assoc before (Method x types ∷ []) after)) index m e in
      let test : ListedMethod → Bool = λ (y : ListedMethod). is_method m.id.class m.id.name m.id.desc y.id in
      let apart = apart_any test (filter_map method_declared before) x (sym (ap (λ (xs : List ListedMethod). list_any test xs) longer) ∙ rest.0) in
      let differ : x.id ≢ m.id =
      λ same. false≢true (sym apart.1 ∙ ap (λ (id : MethodId). is_method m.id.class m.id.name m.id.desc id) same ∙ is_itself m.id) in
      (apart.0, before_it differ rest.1) where
        before_it : x.id ≢ m.id → ((j : ℕ) (n : ListedMethod) → j < index → slice_get (filter_map method_declared after) j ≡ Some n → n.id ≢ m.id)
            → (j : ℕ) (n : ListedMethod) → j < suc index → slice_get (x ∷ filter_map method_declared after) j ≡ Some n → n.id ≢ m.id
        before_it differ rest zero n low at = let same : x ≡ n = cc in subst (λ (y : ListedMethod). y.id ≢ m.id) same differ
        before_it differ rest (suc j) n low at = rest j n (omega (arith, low)) at

-- ---- the end of a descriptor

-- the last byte of a text, after this one
abbrev last_of : ℕ → List ℕ → ℕ
last_of b [] = b
last_of b (c ∷ text) = last_of c text

last_after : (b : ℕ) (before : List ℕ) (c : ℕ) (text : List ℕ) → last_of b (before ++ c ∷ text) ≡ last_of c text
last_after b [] c text = refl
last_after b (d ∷ before) c text = last_after d before c text

element_ends : (b : ℕ) (e : Element) → (last_of b (element_encoded e) == 86) ≡ false
element_ends b elements.Boolean = refl
element_ends b elements.Byte = refl
element_ends b elements.Char = refl
element_ends b elements.Short = refl
element_ends b elements.Int = refl
element_ends b (elements.Class name) = ap (λ (n : ℕ). n == 86) (last_after 76 name 59 [])

type_ends : (b n : ℕ) (e : Element) → (last_of b (replicate n 91 ++ element_encoded e) == 86) ≡ false
type_ends b zero e = element_ends b e
type_ends b (suc n) e = type_ends 91 n e

short_drop : (before : List ℕ) (a b : ℕ) → drop (length (before ++ a ∷ b ∷ []) - 2) (before ++ a ∷ b ∷ []) ≡ a ∷ b ∷ []
short_drop [] a b = refl
short_drop (c ∷ before) a b =
    let long : length (before ++ a ∷ b ∷ []) ≡ length before + 2 = length-append before (a ∷ b ∷ []) in
    let next : suc (length (before ++ a ∷ b ∷ [])) - 2 ≡ suc (length (before ++ a ∷ b ∷ []) - 2) = omega (arith, long) in
    ap (λ (n : ℕ). drop n (c ∷ (before ++ a ∷ b ∷ []))) next ∙ short_drop before a b

-- A text that ends so has this last byte.
ends_in : (text : List ℕ) (k a b : ℕ) → drop k text ≡ a ∷ b ∷ [] → (c : ℕ) → last_of c text ≡ b
ends_in text k a b e c =
    ap (λ (t : List ℕ). last_of c t) (sym (take-append-drop k text) ∙ ap (λ (t : List ℕ). take k text ++ t) e) ∙ last_after c (take k text) a (b ∷ [])

pub tells_result : (desc : List ℕ) (types : MethodType) → desc ≡ method_encoded types → gives_nothing desc ≡ not (is_some types.result)
tells_result desc types encoded = ap gives_nothing encoded ∙ by types.result where
  by : (result : Option FieldType) → gives_nothing (40 ∷ (flat_map type_encoded types.arguments ++ 41 ∷ result_encoded result)) ≡ not (is_some result)
  by None =
      (bytes_eq-Decides (drop (length (40 ∷ (flat_map type_encoded types.arguments ++ 41 ∷ 86 ∷ [])) - 2) (40 ∷ (flat_map type_encoded types.arguments ++ 41 ∷ 86 ∷ []))) (codes ")V")).1
      (short_drop (40 ∷ flat_map type_encoded types.arguments) 41 86)
  by (Some t) = of (gives_nothing whole) refl where
    whole : List ℕ
    whole = 40 ∷ (flat_map type_encoded types.arguments ++ 41 ∷ type_encoded t)

    of : (b : Bool) → gives_nothing whole ≡ b → gives_nothing whole ≡ false
    of false is = is
    of true is =
        let ends : drop (length whole - 2) whole ≡ 41 ∷ 86 ∷ [] = (bytes_eq-Decides (drop (length whole - 2) whole) (codes ")V")).0 is in
        let last : last_of 0 whole ≡ 86 = ends_in whole (length whole - 2) 41 86 ends 0 in
        let following : last_of 0 whole ≡ last_of 41 (type_encoded t) = last_after 40 (flat_map type_encoded types.arguments) 41 (type_encoded t) in
        let none = type_ends 41 t.dimensions t.element in
        absurd (false≢true (sym none ∙ ap (λ (n : ℕ). n == 86) (sym following ∙ last)))

-- ---- what a listing has

module _ (text : List ℕ) (listing : Listing) (encodes : EncodesListing text listing) where
  in_words : AllByRecursion (λ (line : List ℕ). AreWords (pieces 32 line)) (filter says_something encodes.lines)
  in_words =
      all_filtered (λ (line : List ℕ). AreWords (pieces 32 line)) says_something encodes.lines
      (lines_in_words encodes.lines (front (AllByRecursion IsInLine) encodes.lines ([] ∷ [])
      (subst (AllByRecursion (AllByRecursion IsInLine)) encodes.ended (lines_have_no_newline text))))

  -- a class that is known is named by a word
  class_names : AllByRecursion (λ (c : ListedClass). HasNoBreak c.name) listing.classes
  class_names =
      subst (λ (l : Listing). AllByRecursion (λ (c : ListedClass). HasNoBreak c.name) l.classes) (sym encodes.listed)
      (all_both (λ (c : ListedClass). HasNoBreak c.name) built_in_classes (filter_map class_declared encodes.said)
      (fine_names built_in_classes built_in_fine) (classes_in_words (filter says_something encodes.lines) encodes.said in_words encodes.encoded))

  pub known_word : (class : List ℕ) → is_known listing.classes class ≡ true → HasNoBreak class
  known_word class known = by listing.classes class_names known where
    by : (classes : List ListedClass) → AllByRecursion (λ (c : ListedClass). HasNoBreak c.name) classes → is_known classes class ≡ true → HasNoBreak class
    by [] all e = absurd cc
    by (c ∷ classes) all e = of (bytes_eq c.name class) refl (by classes all.1) where
      of : (b : Bool) → bytes_eq c.name class ≡ b → (is_known classes class ≡ true → HasNoBreak class) → HasNoBreak class
      of true is others = subst HasNoBreak ((bytes_eq-Decides c.name class).0 is) all.0
      of false is others = let rest : is_known classes class ≡ true = rw is at e in others rest

  well_listed : (index : ℕ) (m : ListedMethod) → slice_get listing.methods index ≡ Some m → IsWellListed m
  well_listed index m there =
      all_get IsWellListed (filter_map method_declared encodes.said) index m
      (methods_in_words (filter says_something encodes.lines) encodes.said in_words encodes.encoded)
      (ap (λ (l : Listing). slice_get l.methods index) (sym encodes.listed) ∙ there)

  pub method_words : (index : ℕ) (m : ListedMethod) → slice_get listing.methods index ≡ Some m → IsInWords m.id
  method_words index m there = (well_listed index m there).words

  pub method_types : (index : ℕ) (m : ListedMethod) → slice_get listing.methods index ≡ Some m → (types : MethodType) × EncodesDescriptor m.id.desc types
  method_types index m there = let w = well_listed index m there in (w.types, w.encoded)

  pub method_first : (index : ℕ) (m : ListedMethod) → slice_get listing.methods index ≡ Some m → IsFirst listing.methods m.id index
  method_first index m there =
      let at_said : slice_get (filter_map method_declared encodes.said) index ≡ Some m = ap (λ (l : Listing). slice_get l.methods index) (sym encodes.listed) ∙ there in
      let new = new_from encodes.said encodes.once [] encodes.said refl index m at_said in
      record {
        method = m;
        there = there;
        named = refl;
        first = λ j n low at. new.1 j n low (ap (λ (l : Listing). slice_get l.methods j) (sym encodes.listed) ∙ at);
      }
