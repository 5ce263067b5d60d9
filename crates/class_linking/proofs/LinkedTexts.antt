-- The text of each string constant is among the literals, at its place.
use Rattle.std.proofs.Common.{◌≡◌, ℕ, zero, suc, ◌+◌, Bool, true, false, cond, ◌||◌, List, [], ◌∷◌, ◌++◌, Option, Some, None, refl, sym, ap, ap₂, subst, ◌∙◌, arith}
use Rattle.std.specs.Prelude.{slice_get, bytes_eq, ⊤}
use Rattle.std.specs.List.{position_from, fold, flat_map, filter_map, cons_option}
use Rattle.std.specs.Option.{option_map_or}
use Rattle.std.proofs.lemmas.Bool.{false≢true, or_parts}
use Rattle.std.proofs.lemmas.Slice.Eq.{bytes_eq-Decides}
use Rattle.class_codec.specs.declared.tree.Const.{Const}
use Rattle.class_codec.specs.declared.tree.ClassFile.{ClassFile}
use Rattle.bytecode_model.specs.Operands.{literals_of, strings_in, place_of, text_of_string}
use Rattle.bytecode_model.specs.SearchOrder.{Name, is_one_of, with_name}
use Rattle.bytecode_model.proofs.Lists.{some_is}
use Rattle.class_linking.proofs.Nearest.{one_more, front_is_one}
use Rattle.bytecode_model.proofs.Placing.{same_name}

-- ---- among names

-- a name among others stands at its place
record IsPlaced (names : List Name) (name : Name) (at : ℕ) : Type 0 where
  place : ℕ
  is : position_from (λ (other : Name). bytes_eq other name) at names ≡ Some (at + place)
  there : slice_get names place ≡ Some name

placed : (names : List Name) (name : Name) (at : ℕ) → is_one_of names name ≡ true → IsPlaced names name at
placed [] name at e = absurd cc
placed (other ∷ names) name at e = by (bytes_eq other name) refl e (placed names name (at + 1)) where
  by : (b : Bool) → bytes_eq other name ≡ b → (b || is_one_of names name) ≡ true → (is_one_of names name ≡ true → IsPlaced names name (at + 1)) → IsPlaced (other ∷ names) name at
  by true is e later =
      let none : at ≡ at + 0 = omega arith in
      let found : position_from (λ (o : Name). bytes_eq o name) at (other ∷ names) ≡ Some at = ap (λ b. cond b (Some at) (position_from (λ (o : Name). bytes_eq o name) (at + 1) names)) is in
      record { place = 0; is = found ∙ ap Some none; there = ap Some (same_name other name is) }
  by false is e later =
      let l = later e in
      let more : at + 1 + l.place ≡ at + suc l.place = omega arith in
      let found : position_from (λ (o : Name). bytes_eq o name) at (other ∷ names) ≡ position_from (λ (o : Name). bytes_eq o name) (at + 1) names
      = ap (λ b. cond b (Some at) (position_from (λ (o : Name). bytes_eq o name) (at + 1) names)) is in
      record { place = suc l.place; is = found ∙ l.is ∙ ap Some more; there = l.there }

at_its_place : (names : List Name) (name : Name) → is_one_of names name ≡ true → slice_get names (place_of names name) ≡ Some name
at_its_place names name e =
    let p = placed names name 0 e in
    let front : 0 + p.place ≡ p.place = omega arith in
    let is : place_of names name ≡ p.place = ap (λ (o : Option ℕ). option_map_or (λ (i : ℕ). i) o 0) p.is ∙ front in
    ap (slice_get names) is ∙ p.there

-- a name among some is among more
left_of : (xs ys : List Name) (name : Name) → is_one_of xs name ≡ true → is_one_of (xs ++ ys) name ≡ true
left_of [] ys name e = absurd cc
left_of (x ∷ xs) ys name e = by (bytes_eq x name) e (left_of xs ys name) where
  by : (b : Bool) → (b || is_one_of xs name) ≡ true → (is_one_of xs name ≡ true → is_one_of (xs ++ ys) name ≡ true) → (b || is_one_of (xs ++ ys) name) ≡ true
  by true e later = refl
  by false e later = later e

right_of : (xs ys : List Name) (name : Name) → is_one_of ys name ≡ true → is_one_of (xs ++ ys) name ≡ true
right_of [] ys name e = e
right_of (x ∷ xs) ys name e = one_more (bytes_eq x name) (is_one_of (xs ++ ys) name) (right_of xs ys name e)

-- ---- each once

kept : (names : List Name) (x name : Name) → is_one_of names name ≡ true → is_one_of (with_name names x) name ≡ true
kept names x name e = by (is_one_of names x) where
  by : (b : Bool) → is_one_of (cond b names (names ++ x ∷ [])) name ≡ true
  by true = e
  by false = left_of names (x ∷ []) name e

added : (names : List Name) (x : Name) → is_one_of (with_name names x) x ≡ true
added names x = by (is_one_of names x) refl where
  by : (b : Bool) → is_one_of names x ≡ b → is_one_of (cond b names (names ++ x ∷ [])) x ≡ true
  by true e = e
  by false e = right_of names (x ∷ []) x (front_is_one x [])

all_kept : (xs names : List Name) (name : Name) → is_one_of names name ≡ true → is_one_of (fold with_name names xs) name ≡ true
all_kept [] names name e = e
all_kept (x ∷ xs) names name e = all_kept xs (with_name names x) name (kept names x name e)

all_added : (xs names : List Name) (name : Name) → is_one_of xs name ≡ true → is_one_of (fold with_name names xs) name ≡ true
all_added [] names name e = absurd cc
all_added (x ∷ xs) names name e = by (bytes_eq x name) refl e (all_added xs (with_name names x) name) where
  by : (b : Bool) → bytes_eq x name ≡ b → (b || is_one_of xs name) ≡ true → (is_one_of xs name ≡ true → is_one_of (fold with_name (with_name names x) xs) name ≡ true)
      → is_one_of (fold with_name (with_name names x) xs) name ≡ true
  by true is e later = all_kept xs (with_name names x) name (subst (λ (n : Name). is_one_of (with_name names x) n ≡ true) (same_name x name is) (added names x))
  by false is e later = later e

-- no name stands twice
abbrev AreOnce : List Name → Type 0
AreOnce [] = ⊤
AreOnce (x ∷ names) = (is_one_of names x ≡ false) × AreOnce names

other_way : (a b : Name) → bytes_eq a b ≡ false → bytes_eq b a ≡ false
other_way a b e = by (bytes_eq b a) refl where
  by : (r : Bool) → bytes_eq b a ≡ r → r ≡ false
  by true is = absurd (false≢true (sym e ∙ (bytes_eq-Decides a b).1 (sym (same_name b a is))))
  by false is = refl

not_pushed : (names : List Name) (x name : Name) → is_one_of names name ≡ false → bytes_eq x name ≡ false → is_one_of (names ++ x ∷ []) name ≡ false
not_pushed [] x name none apart = ap (λ (b : Bool). b || false) apart
not_pushed (y ∷ names) x name none apart =
    let n = or_parts (bytes_eq y name) (is_one_of names name) none in
    ap₂ (λ (a b : Bool). a || b) n.0 (not_pushed names x name n.1 apart)

once_pushed : (names : List Name) (x : Name) → AreOnce names → is_one_of names x ≡ false → AreOnce (names ++ x ∷ [])
once_pushed [] x once new = (refl, tt)
once_pushed (y ∷ names) x once new =
    let n = or_parts (bytes_eq y x) (is_one_of names x) new in
    (not_pushed names x y once.0 (other_way y x n.0), once_pushed names x once.1 n.1)

once_with : (names : List Name) (x : Name) → AreOnce names → AreOnce (with_name names x)
once_with names x once = by (is_one_of names x) refl where
  by : (b : Bool) → is_one_of names x ≡ b → AreOnce (cond b names (names ++ x ∷ []))
  by true e = once
  by false e = once_pushed names x once e

all_once : (xs names : List Name) → AreOnce names → AreOnce (fold with_name names xs)
all_once [] names once = once
all_once (x ∷ xs) names once = all_once xs (with_name names x) (once_with names x once)

is_there : (names : List Name) (i : ℕ) (name : Name) → slice_get names i ≡ Some name → is_one_of names name ≡ true
is_there [] i name e = absurd cc
is_there (x ∷ names) zero name e = subst (λ (n : Name). is_one_of (n ∷ names) name ≡ true) (sym (some_is x name e)) (front_is_one name names)
is_there (x ∷ names) (suc i) name e = one_more (bytes_eq x name) (is_one_of names name) (is_there names i name e)

not_after : (x name : Name) (names : List Name) (j : ℕ) → is_one_of names x ≡ false → x ≡ name → slice_get names j ≡ Some name → ⊥
not_after x name names j new same e = false≢true (sym new ∙ is_there names j x (e ∙ ap Some (sym same)))

one_place : (names : List Name) (i j : ℕ) (name : Name) → AreOnce names → slice_get names i ≡ Some name → slice_get names j ≡ Some name → i ≡ j
one_place [] i j name once at_i at_j = absurd cc
one_place (x ∷ names) zero zero name once at_i at_j = refl
one_place (x ∷ names) zero (suc j) name once at_i at_j = absurd (not_after x name names j once.0 (some_is x name at_i) at_j)
one_place (x ∷ names) (suc i) zero name once at_i at_j = absurd (not_after x name names i once.0 (some_is x name at_j) at_i)
one_place (x ∷ names) (suc i) (suc j) name once at_i at_j = ap suc (one_place names i j name once.1 at_i at_j)

-- a text has one place among the literals
pub literals_once : (files : List ClassFile) (i j : ℕ) (text : Name) → slice_get (literals_of files) i ≡ Some text → slice_get (literals_of files) j ≡ Some text → i ≡ j
literals_once files i j text = one_place (literals_of files) i j text (all_once (flat_map strings_in files) [] tt)

-- ---- the strings of files

string_there : (pool : List Const) (cs : List Const) (i : ℕ) (c : Const) (text : Name) → slice_get cs i ≡ Some c → text_of_string pool c ≡ Some text
    → is_one_of (filter_map (text_of_string pool) cs) text ≡ true
string_there pool [] i c text there is = absurd cc
string_there pool (d ∷ cs) zero c text there is =
    let same : text_of_string pool d ≡ Some text = ap (text_of_string pool) (some_is d c there) ∙ is in
    by (text_of_string pool d) same where
      by : (o : Option Name) → o ≡ Some text → is_one_of (cons_option o (filter_map (text_of_string pool) cs)) text ≡ true
      by None e = absurd cc
      by (Some t) e = subst (λ (n : Name). is_one_of (n ∷ filter_map (text_of_string pool) cs) text ≡ true) (sym (some_is t text e)) (front_is_one text (filter_map (text_of_string pool) cs))
string_there pool (d ∷ cs) (suc i) c text there is = by (text_of_string pool d) (string_there pool cs i c text there is) where
  by : (o : Option Name) → is_one_of (filter_map (text_of_string pool) cs) text ≡ true → is_one_of (cons_option o (filter_map (text_of_string pool) cs)) text ≡ true
  by None e = e
  by (Some t) e = one_more (bytes_eq t text) (is_one_of (filter_map (text_of_string pool) cs) text) e

in_files : (files : List ClassFile) (own : ℕ) (file : ClassFile) (text : Name) → slice_get files own ≡ Some file → is_one_of (strings_in file) text ≡ true → is_one_of (flat_map strings_in files) text ≡ true
in_files [] own file text there e = absurd cc
in_files (f ∷ files) zero file text there e =
    left_of (strings_in f) (flat_map strings_in files) text (subst (λ (x : ClassFile). is_one_of (strings_in x) text ≡ true) (sym (some_is f file there)) e)
in_files (f ∷ files) (suc own) file text there e = right_of (strings_in f) (flat_map strings_in files) text (in_files files own file text there e)

-- the place of the text of a string constant
pub literal_there : (files : List ClassFile) (own : ℕ) (file : ClassFile) (i : ℕ) (c : Const) (text : Name) → slice_get files own ≡ Some file → slice_get file.pool i ≡ Some c
    → text_of_string file.pool c ≡ Some text → slice_get (literals_of files) (place_of (literals_of files) text) ≡ Some text
literal_there files own file i c text file_there there is =
    at_its_place (literals_of files) text
    (all_added (flat_map strings_in files) [] text (in_files files own file text file_there (string_there file.pool file.pool i c text there is)))
