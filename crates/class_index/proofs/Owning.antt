-- Which classes may have methods of the library.
use Rattle.std.proofs.Common.{◌≡◌, ℕ, Bool, true, false, cond, not, ◌&&◌, ◌||◌, List, [], ◌∷◌, refl, sym, ap, ◌∙◌}
use Rattle.std.specs.Prelude.{bytes_eq}
use Rattle.std.specs.List.{filter, list_any, list_all}
use Rattle.std.specs.BTreeSet.{BTreeSet}
use Rattle.std.proofs.lemmas.Bool.{false≢true}
use Rattle.mon_base.specs.declared.method.MethodId.{MethodId}
use Rattle.api_listing.specs.declared.types.ListedMethod.{ListedMethod}
use Rattle.api_listing.specs.declared.types.Listing.{Listing}
use Rattle.api_listing.specs.BuiltIn.{MethodRow, method_rows, is_method, is_row, is_built_in}
use Rattle.api_listing.specs.Listing.{has_method}
use Rattle.api_listing.specs.Seen.{has_name}
use Rattle.bytecode_model.specs.Conditions.{is_run, is_of_library}
use Rattle.class_index.specs.Library.{is_owner, is_of_java, may_own, OverridesAs}
use Rattle.bytecode_model.specs.Members.{in_class}
use Rattle.bytecode_model.proofs.Placing.{same_name}

or_left : (a b : Bool) → a ≡ true → (a || b) ≡ true
or_left a b e = ap (λ (x : Bool). x || b) e

or_right : (a b : Bool) → b ≡ true → (a || b) ≡ true
or_right true b e = refl
or_right false b e = e

or_cases : (a b d : Bool) → (a ≡ true → d ≡ true) → (b ≡ true → d ≡ true) → (a || b) ≡ true → d ≡ true
or_cases true b d f g e = f refl
or_cases false b d f g e = g e

and_front : (a b : Bool) → (a && b) ≡ true → a ≡ true
and_front true b e = refl
and_front false b e = e

and_back : (a b : Bool) → (a && b) ≡ true → b ≡ true
and_back true b e = e
and_back false b e = absurd cc

first_of_two : (a b : Bool) → (a || b) ≡ true → not b ≡ true → a ≡ true
first_of_two true b e f = refl
first_of_two false true e f = f
first_of_two false false e f = e

-- ---- lists

-- what passes a test is kept by a weaker one
any_kept : {X : Type 0} (f p : X → Bool) → ((x : X) → f x ≡ true → p x ≡ true) → (xs : List X) → list_any f (filter p xs) ≡ list_any f xs
any_kept f p weaker [] = refl
any_kept f p weaker (x ∷ xs) = by (p x) (weaker x) (any_kept f p weaker xs) where
  out : (d : Bool) → (d ≡ true → false ≡ true) → list_any f xs ≡ (d || list_any f xs)
  out true w = absurd (false≢true (w refl))
  out false w = refl

  by : (b : Bool) → (f x ≡ true → b ≡ true) → list_any f (filter p xs) ≡ list_any f xs → list_any f (cond b (x ∷ filter p xs) (filter p xs)) ≡ (f x || list_any f xs)
  by true w e = ap (λ (r : Bool). f x || r) e
  by false w e = e ∙ out (f x) w

-- ---- classes with methods of the library

owner_of : (methods : List ListedMethod) (q : MethodId) → has_method methods q ≡ true → is_owner methods q.class ≡ true
owner_of [] q e = e
owner_of (m ∷ methods) q e =
    or_cases (is_method q.class q.name q.desc m.id) (has_method methods q) (bytes_eq m.id.class q.class || is_owner methods q.class)
    (λ t. or_left (bytes_eq m.id.class q.class) (is_owner methods q.class) (and_front (bytes_eq m.id.class q.class) (bytes_eq m.id.name q.name && bytes_eq m.id.desc q.desc) t))
    (λ t. or_right (bytes_eq m.id.class q.class) (is_owner methods q.class) (owner_of methods q t)) e

-- each built-in method is of such a class, or is the one that counts for nothing
abbrev counts : List ℕ → List ℕ → List ℕ → Bool
counts class name desc = is_of_java class || is_run name desc

rows_count : list_all (λ (row : MethodRow). counts row.0 row.1 row.2) method_rows ≡ true
unfolding method_rows
rows_count = refl

row_counts : (rows : List MethodRow) (class name desc : List ℕ) → list_all (λ (row : MethodRow). counts row.0 row.1 row.2) rows ≡ true → list_any (is_row class name desc) rows ≡ true
    → counts class name desc ≡ true
row_counts [] class name desc all some = absurd cc
row_counts (row ∷ rows) class name desc all some =
    or_cases (is_row class name desc row) (list_any (is_row class name desc) rows) (counts class name desc)
    (λ t.
    let rest = and_back (bytes_eq row.0 class) (bytes_eq row.1 name && bytes_eq row.2 desc) t in
    let class_is : row.0 ≡ class = same_name row.0 class (and_front (bytes_eq row.0 class) (bytes_eq row.1 name && bytes_eq row.2 desc) t) in
    let name_is : row.1 ≡ name = same_name row.1 name (and_front (bytes_eq row.1 name) (bytes_eq row.2 desc) rest) in
    let desc_is : row.2 ≡ desc = same_name row.2 desc (and_back (bytes_eq row.1 name) (bytes_eq row.2 desc) rest) in
    ap (λ (c : List ℕ). counts c name desc) (sym class_is) ∙ ap (λ (n : List ℕ). counts row.0 n desc) (sym name_is) ∙ ap (counts row.0 row.1) (sym desc_is)
    ∙ and_front (counts row.0 row.1 row.2) (list_all (λ (r : MethodRow). counts r.0 r.1 r.2) rows) all)
    (λ t. row_counts rows class name desc (and_back (counts row.0 row.1 row.2) (list_all (λ (r : MethodRow). counts r.0 r.1 r.2) rows) all) t) some

-- a class with a method of the library may own it
library_owned : (owners : BTreeSet (List ℕ)) (listing : Listing) (q : MethodId) → ((n : List ℕ) → has_name owners n ≡ is_owner listing.methods n) → is_of_library listing q ≡ true → may_own owners q.class ≡ true
library_owned owners listing q owned e =
    or_cases (has_method listing.methods q) (is_built_in q.class q.name q.desc && not (is_run q.name q.desc)) (may_own owners q.class)
    (λ t. or_left (has_name owners q.class) (is_of_java q.class) (owned q.class ∙ owner_of listing.methods q t))
    (λ t. or_right (has_name owners q.class) (is_of_java q.class) (first_of_two (is_of_java q.class) (is_run q.name q.desc)
    (row_counts method_rows q.class q.name q.desc rows_count (and_front (is_built_in q.class q.name q.desc) (not (is_run q.name q.desc)) t))
    (and_back (is_built_in q.class q.name q.desc) (not (is_run q.name q.desc)) t))) e

pub owners_suffice : (owners : BTreeSet (List ℕ)) (listing : Listing) (names : List (List ℕ)) → ((n : List ℕ) → has_name owners n ≡ is_owner listing.methods n) → OverridesAs listing (filter (may_own owners) names) names
owners_suffice owners listing names owned id = any_kept (λ (name : List ℕ). is_of_library listing (in_class id name)) (may_own owners) (λ name. library_owned owners listing (in_class id name) owned) names
