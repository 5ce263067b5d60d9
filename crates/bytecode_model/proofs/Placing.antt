-- Places of names in a map: of each name the first counts.
use Rattle.std.proofs.Common.{◌≡◌, ℕ, ◌+◌, Bool, true, false, cond, List, [], ◌∷◌, Option, Some, None, refl, sym, ap, ◌∙◌, ◌||◌, ◌++◌, length, arith, add-one}
use Rattle.std.specs.Prelude.{bytes_eq, find, Vec}
use Rattle.std.specs.List.{position_from, list_any, slice_get}
use Rattle.std.specs.Option.{option_or, option_map, is_some, option_and_then}
use Rattle.std.specs.BTreeMap.{BTreeMap}
use Rattle.std.specs.Global.{Global}
use Rattle.std.proofs.lemmas.Bool.{false≢true}
use Rattle.std.proofs.lemmas.Slice.Eq.{bytes_eq-Decides}
use Rattle.bytecode_model.specs.ByName.{noted}
use Rattle.bytecode_model.specs.Places.{name_place, NamesPlaced}
use Rattle.bytecode_model.specs.SearchOrder.{is_one_of, with_name}
use Rattle.bytecode_model.proofs.Lists.{or_none, or_or}

pub test_cases : (b : Bool) (P : Bool → Type 0) → (b ≡ true → P true) → (b ≡ false → P false) → P b
test_cases true P f g = f refl
test_cases false P f g = g refl

pub same_name : (a b : List ℕ) → bytes_eq a b ≡ true → a ≡ b
same_name a b t = (bytes_eq-Decides a b).0 t

pub none_or : {X : Type 0} (o p : Option X) → is_some o ≡ false → p ≡ option_or o p
none_or None p e = refl
none_or (Some x) p e = absurd (false≢true (sym e))

-- one item more
pub place_goes_on : {X : Type 0} (test : X → Bool) (all rest : List X) (x : X) (index : ℕ) (before after total : Option ℕ) → all ≡ x ∷ rest
    → after ≡ option_or before (cond (test x) (Some index) None) → option_or before (position_from test index all) ≡ total → option_or after (position_from test (index + 1) rest) ≡ total
place_goes_on test all rest x index before after total is more so_far =
    ap (λ o. option_or o (position_from test (index + 1) rest)) more ∙ or_or before (cond (test x) (Some index) None) (position_from test (index + 1) rest)
    ∙ ap (option_or before) (front (test x)) ∙ ap (λ xs. option_or before (position_from test index xs)) (sym is) ∙ so_far where
      front : (b : Bool) → option_or (cond b (Some index) None) (position_from test (index + 1) rest) ≡ cond b (Some index) (position_from test (index + 1) rest)
      front true = refl
      front false = refl

pub place_is_done : {X : Type 0} (test : X → Bool) (all : List X) (index : ℕ) (before total : Option ℕ) → all ≡ [] → option_or before (position_from test index all) ≡ total → before ≡ total
place_is_done test all index before total is so_far = sym (or_none before) ∙ ap (λ xs. option_or before (position_from test index xs)) (sym is) ∙ so_far

-- whether there is a place
pub has_place : {X : Type 0} (test : X → Bool) (index : ℕ) (xs : List X) → is_some (position_from test index xs) ≡ list_any test xs
has_place test index [] = refl
has_place test index (x ∷ xs) = by (test x) (position_from test (index + 1) xs) (list_any test xs) (has_place test (index + 1) xs) where
  by : (b : Bool) (o : Option ℕ) (rest : Bool) → is_some o ≡ rest → is_some (cond b (Some index) o) ≡ (b || rest)
  by true o rest e = refl
  by false o rest e = e

shift : {X : Type 0} (test : X → Bool) (index : ℕ) (xs : List X) → position_from test (index + 1) xs ≡ option_map (λ n. n + 1) (position_from test index xs)
shift test index [] = refl
shift test index (x ∷ xs) = by (test x) _ _ (shift test (index + 1) xs) where
  by : (b : Bool) (o p : Option ℕ) → o ≡ option_map (λ n. n + 1) p → cond b (Some (index + 1)) o ≡ option_map (λ n. n + 1) (cond b (Some index) p)
  by true o p e = refl
  by false o p e = e

at_front : {X : Type 0} (x : X) (xs : List X) (o : Option ℕ) → option_and_then (slice_get (x ∷ xs)) (option_map (λ n. n + 1) o) ≡ option_and_then (slice_get xs) o
at_front x xs None = refl
at_front x xs (Some n) = ap (slice_get (x ∷ xs)) (add-one n)

-- the first that passes stands at its place
pub find_at : {X : Type 0} (test : X → Bool) (xs : List X) → find test xs ≡ option_and_then (slice_get xs) (position_from test 0 xs)
find_at test [] = refl
find_at test (x ∷ xs) = by (test x) (find_at test xs ∙ sym (at_front x xs (position_from test 0 xs)) ∙ ap (option_and_then (slice_get (x ∷ xs))) (sym (shift test 0 xs))) where
  by : (b : Bool) → find test xs ≡ option_and_then (slice_get (x ∷ xs)) (position_from test 1 xs) → cond b (Some x) (find test xs) ≡ option_and_then (slice_get (x ∷ xs)) (cond b (Some 0) (position_from test 1 xs))
  by true e = refl
  by false e = e

-- one item after the others
pub place_pushed : {X : Type 0} (test : X → Bool) (xs : List X) (i n : ℕ) (x : X) → n ≡ i + length xs
    → position_from test i (xs ++ x ∷ []) ≡ option_or (position_from test i xs) (cond (test x) (Some n) None)
place_pushed test [] i n x e =
    let same : i ≡ n = omega arith in
    ap (λ k. cond (test x) (Some k) None) same
place_pushed test (y ∷ ys) i n x e =
    let more : n ≡ (i + 1) + length ys = omega arith in
    by (test y) _ _ _ (place_pushed test ys (i + 1) n x more) where
      by : (b : Bool) (o p r : Option ℕ) → o ≡ option_or p r → cond b (Some i) o ≡ option_or (cond b (Some i) p) r
      by true o p r e = refl
      by false o p r e = e

-- a name that is there, and one that is new
pub with_known : (names : List (List ℕ)) (name : List ℕ) → is_one_of names name ≡ true → names ≡ with_name names name
with_known names name e = sym (ap (λ b. cond b names (names ++ name ∷ [])) e)

pub with_new : (names : List (List ℕ)) (name : List ℕ) → is_one_of names name ≡ false → names ++ name ∷ [] ≡ with_name names name
with_new names name e = sym (ap (λ b. cond b names (names ++ name ∷ [])) e)

pub is_placed : (places : BTreeMap (Vec ℕ Global) ℕ) (names : List (List ℕ)) (name : List ℕ) (b : Bool) → NamesPlaced places names → b ≡ is_some (noted places name) → is_one_of names name ≡ b
is_placed places names name b placed e = sym (e ∙ ap is_some (placed name) ∙ has_place (λ other. bytes_eq other name) 0 names)

pub text_pushed : (old new : BTreeMap (Vec ℕ Global) ℕ) (texts more : List (List ℕ)) (text copy : List ℕ) (n : ℕ) → copy ≡ text → more ≡ texts ++ copy ∷ [] → n ≡ length texts → NamesPlaced old texts
    → ((q : List ℕ) → noted new q ≡ option_or (noted old q) (cond (bytes_eq text q) (Some n) None)) → NamesPlaced new more
text_pushed old new texts more text copy n same is count placed puts q =
    puts q ∙ ap (λ o. option_or o (cond (bytes_eq text q) (Some n) None)) (placed q)
    ∙ sym (place_pushed (λ other. bytes_eq other q) texts 0 n text (omega arith))
    ∙ ap (λ t. name_place (texts ++ t ∷ []) q) (sym same) ∙ ap (λ ts. name_place ts q) (sym is)
