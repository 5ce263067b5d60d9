-- A listing that grows, and the sets of what it has.
use Rattle.std.proofs.Common.{◌≡◌, ℕ, Bool, true, false, List, [], ◌∷◌, ◌++◌, length, get_or, take, ◌+◌, ◌<◌, ◌≤◌, ◌||◌, Option, Some, None, refl, sym, ap, ◌∙◌, append_assoc}
use Rattle.std.specs.Prelude.{bytes_eq}
use Rattle.std.specs.List.{filter_map, list_any}
use Rattle.std.specs.Option.{option_to_list}
use Rattle.std.proofs.Math.Path.{fun_ext}
use Rattle.std.proofs.lemmas.Bool.{le-ltb}
use Rattle.std.proofs.lemmas.List.{take_more}
use Rattle.std.proofs.lemmas.List.Elements.{filter_map-append}
use Rattle.api_listing.specs.declared.types.ListedClass.{ListedClass}
use Rattle.listing_text.specs.declared.lines.Said.{Said}
use Rattle.api_listing.specs.BuiltIn.{built_in_classes}
use Rattle.api_listing.specs.Listing.{is_known}
use Rattle.listing_text.specs.Reading.{is_named, class_said, classes_in, after_lines, built_in_listing, read_lines}

or_swaps : (a b c : Bool) → (a || (b || c)) ≡ (b || (a || c))
or_swaps true true c = refl
or_swaps true false c = refl
or_swaps false b c = refl

-- one item more
pub any_pushed : {X : Type 0} (p : X → Bool) (xs : List X) (x : X) → list_any p (xs ++ x ∷ []) ≡ (p x || list_any p xs)
any_pushed p [] x = refl
any_pushed p (y ∷ ys) x = ap (λ (b : Bool). p y || b) (any_pushed p ys x) ∙ or_swaps (p y) (p x) (list_any p ys)

one : {X Y : Type 0} (h : X → Option Y) (x : X) (o : Option Y) → h x ≡ o → filter_map h (x ∷ []) ≡ option_to_list o
one h x None e = rw e refl
one h x (Some y) e = rw e refl

-- what h gives of one item more
filter_map_more : {X Y : Type 0} (h : X → Option Y) (xs : List X) (i : ℕ) (d : X) → i < length xs → filter_map h (take (i + 1) xs) ≡ filter_map h (take i xs) ++ option_to_list (h (get_or xs i d))
filter_map_more h xs i d lt =
    ap (filter_map h) (take_more xs i d lt) ∙ filter_map-append h (take i xs) (get_or xs i d ∷ [])
    ∙ ap (λ (t : List _). filter_map h (take i xs) ++ t) (one h (get_or xs i d) (h (get_or xs i d)) refl)

known_with : (classes : List ListedClass) (name : List ℕ) (o : Option ListedClass) → is_known (classes ++ option_to_list o) name ≡ (is_named name o || is_known classes name)
known_with classes name None = ap (λ (cs : List ListedClass). is_known cs name) (append_none classes) where
  append_none : (cs : List ListedClass) → cs ++ [] ≡ cs
  append_none [] = refl
  append_none (c ∷ cs) = ap (λ (t : List ListedClass). c ∷ t) (append_none cs)
known_with classes name (Some c) = any_pushed (λ (x : ListedClass). bytes_eq x.name name) classes c

-- one line more
pub known_more : (lines : List Said) (i : ℕ) (line : Said) (name : List ℕ) → i < length lines → line ≡ get_or lines i line
    → is_known (classes_in (take (i + 1) lines)) name ≡ (is_named name (class_said line) || is_known (classes_in (take i lines)) name)
known_more lines i line name lt is =
    let more : classes_in (take (i + 1) lines) ≡ classes_in (take i lines) ++ option_to_list (class_said line) =
    ap (λ (cs : List ListedClass). built_in_classes ++ cs) (filter_map_more class_said lines i line lt ∙ ap (λ (s : Said). filter_map class_said (take i lines) ++ option_to_list (class_said s)) (sym is))
    ∙ sym (append_assoc built_in_classes (filter_map class_said (take i lines)) (option_to_list (class_said line))) in
    ap (λ (cs : List ListedClass). is_known cs name) more ∙ known_with (classes_in (take i lines)) name (class_said line)

pub any_agrees : {X : Type 0} (p : X → Bool) (xs new : List X) (x : X) (first before after : Bool) → new ≡ xs ++ x ∷ [] → first ≡ p x → before ≡ list_any p xs → after ≡ (first || before) → after ≡ list_any p new
any_agrees p xs new x first before after is tested old added =
    added ∙ ap (λ (b : Bool). b || before) tested ∙ ap (λ (b : Bool). p x || b) old
    ∙ sym (ap (list_any p) is ∙ any_pushed p xs x)

-- few lines, with a set of the names of all classes
pub few_lines : (lines : List Said) (known : List ℕ → Bool) → length lines ≤ 20000 → ((q : List ℕ) → known q ≡ is_known (classes_in lines) q) → after_lines known 1 built_in_listing lines ≡ read_lines lines
few_lines lines known few each =
    let all : known ≡ is_known (classes_in lines) = fun_ext each in
    rw (le-ltb 20000 (length lines) few) (ap (λ (k : List ℕ → Bool). after_lines k 1 built_in_listing lines) all)
