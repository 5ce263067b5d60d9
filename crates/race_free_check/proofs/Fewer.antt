-- A search that tries the first of alike items alone finds what a search through all finds.
use Rattle.std.proofs.Common.{◌≡◌, ◌⊎◌, inl, inr, ℕ, suc, ◌+◌, ◌≤◌, Bool, true, false, cond, List, [], ◌∷◌, ◌++◌, length, map, Option, Some, None, refl, sym, ap, ◌∙◌, arith}
use Rattle.std.specs.Prelude.{◌||◌, flat_map}
use Rattle.std.specs.List.{enumerate_from, list_any}
use Rattle.std.specs.Option.{option_or}
use Rattle.std.proofs.lemmas.Bool.{false≢true}
use Rattle.std.proofs.Math.Nat.{mul-le-mul_left, mul_comm}
use Rattle.conspec_automaton.specs.Points.{each_choice, size_of}
use Rattle.race_free_check.specs.Distinct.{unlike}
use Rattle.race_free_check.specs.Searching.{first_some}
use Rattle.race_free_check.proofs.Members.{Has, in_either}

-- ---- the first of which something is found

module _ {X Y : Type 0} where
  pub first_agreed : (test other : X → Option Y) → ((x : X) → test x ≡ other x) → (xs : List X) → first_some test xs ≡ first_some other xs
  first_agreed test other agree [] = refl
  first_agreed test other agree (x ∷ xs) = ap (λ (o : Option Y). option_or o (first_some test xs)) (agree x) ∙ ap (option_or (other x)) (first_agreed test other agree xs)

  -- Where the one finds nothing of any item, the other finds nothing.
  pub none_too : (test other : X → Option Y) → ((x : X) → other x ≡ None → test x ≡ None) → (xs : List X) → first_some other xs ≡ None → first_some test xs ≡ None
  none_too test other each [] none = refl
  none_too test other each (x ∷ xs) none = by (other x) refl none (none_too test other each xs) where
    by : (o : Option Y) → other x ≡ o → option_or o (first_some other xs) ≡ None → (first_some other xs ≡ None → first_some test xs ≡ None) → option_or (test x) (first_some test xs) ≡ None
    by (Some y) e none later = absurd cc
    by None e none later = ap (λ (o : Option Y). option_or o (first_some test xs)) (each x e) ∙ later none

  first_joined : (test : X → Option Y) (xs ys : List X) → first_some test (xs ++ ys) ≡ option_or (first_some test xs) (first_some test ys)
  first_joined test [] ys = refl
  first_joined test (x ∷ xs) ys = by (test x) (first_joined test xs ys) where
    by : (o : Option Y) → first_some test (xs ++ ys) ≡ option_or (first_some test xs) (first_some test ys) → option_or o (first_some test (xs ++ ys)) ≡ option_or (option_or o (first_some test xs)) (first_some test ys)
    by (Some y) rest = refl
    by None rest = rest

  pub first_mapped : {Z : Type 0} (test : X → Option Y) (f : Z → X) (zs : List Z) → first_some test (map f zs) ≡ first_some (λ z. test (f z)) zs
  first_mapped test f [] = refl
  first_mapped test f (z ∷ zs) = ap (option_or (test (f z))) (first_mapped test f zs)

  first_flat : {Z : Type 0} (test : X → Option Y) (f : Z → List X) (zs : List Z) → first_some test (flat_map f zs) ≡ first_some (λ z. first_some test (f z)) zs
  first_flat test f [] = refl
  first_flat test f (z ∷ zs) = first_joined test (f z) (flat_map f zs) ∙ ap (option_or (first_some test (f z))) (first_flat test f zs)

-- ---- one list

module _ {X : Type 0} (alike : X → X → Bool) where
  pub fewer_items : (xs seen : List X) → length (unlike alike seen xs) ≤ length xs
  fewer_items [] seen = omega arith
  fewer_items (x ∷ xs) seen = by (list_any (alike x) seen) (fewer_items xs seen) (fewer_items xs (seen ++ x ∷ [])) where
    by : (b : Bool) → length (unlike alike seen xs) ≤ length xs → length (unlike alike (seen ++ x ∷ []) xs) ≤ length xs
        → length (cond b (unlike alike seen xs) (x ∷ unlike alike (seen ++ x ∷ []) xs)) ≤ suc (length xs)
    by true skipped kept = omega arith
    by false skipped kept = omega arith

  -- Of an item nothing is found where nothing is found of one that it is like.
  module _ {Y : Type 0} (test : X → Option Y) (same : (x y : X) → alike x y ≡ true → test y ≡ None → test x ≡ None) where
    -- nothing is found of the items
    abbrev Nothing : List X → Type 0
    Nothing seen = (y : X) → Has seen y → test y ≡ None

    none_like : (x : X) (seen : List X) → list_any (alike x) seen ≡ true → Nothing seen → test x ≡ None
    none_like x [] some none = absurd (false≢true some)
    none_like x (y ∷ seen) some none = by (alike x y) refl some (λ later. none_like x seen later (λ z h. none z (inr h))) where
      by : (b : Bool) → alike x y ≡ b → (b || list_any (alike x) seen) ≡ true → (list_any (alike x) seen ≡ true → test x ≡ None) → test x ≡ None
      by true e some later = same x y e (none y (inl refl))
      by false e some later = later some

    seen_more : (x : X) (seen : List X) → test x ≡ None → Nothing seen → Nothing (seen ++ x ∷ [])
    seen_more x seen e none y h = by (in_either seen (x ∷ []) y h) where
      by : Has seen y ⊎ Has (x ∷ []) y → test y ≡ None
      by (inl before) = none y before
      by (inr (inl here)) = ap test (sym here) ∙ e
      by (inr (inr none)) = absurd none

    pub first_unlike : (xs seen : List X) → Nothing seen → first_some test (unlike alike seen xs) ≡ first_some test xs
    first_unlike [] seen none = refl
    first_unlike (x ∷ xs) seen none = by (list_any (alike x) seen) refl (first_unlike xs seen none) (kept (test x) refl (first_unlike xs (seen ++ x ∷ []))) where
      kept : (o : Option Y) → test x ≡ o → (Nothing (seen ++ x ∷ []) → first_some test (unlike alike (seen ++ x ∷ []) xs) ≡ first_some test xs)
          → option_or o (first_some test (unlike alike (seen ++ x ∷ []) xs)) ≡ option_or o (first_some test xs)
      kept (Some y) e rest = refl
      kept None e rest = rest (seen_more x seen e none)

      by : (b : Bool) → list_any (alike x) seen ≡ b → first_some test (unlike alike seen xs) ≡ first_some test xs
          → option_or (test x) (first_some test (unlike alike (seen ++ x ∷ []) xs)) ≡ option_or (test x) (first_some test xs)
          → first_some test (cond b (unlike alike seen xs) (x ∷ unlike alike (seen ++ x ∷ []) xs)) ≡ option_or (test x) (first_some test xs)
      by true e skipped kept = skipped ∙ sym (ap (λ (o : Option Y). option_or o (first_some test xs)) (none_like x seen e none))
      by false e skipped kept = kept

-- ---- a choice of one item of each list

module _ {X : Type 0} (alike : ℕ → X → X → Bool) where
  -- The items are alike, each with the one at its place.
  abbrev pub AreLike : ℕ → List X → List X → Type 0
  AreLike place [] [] = Unit {0}
  AreLike place [] (y ∷ ys) = ⊥
  AreLike place (x ∷ xs) [] = ⊥
  AreLike place (x ∷ xs) (y ∷ ys) = (alike place x y ≡ true) × AreLike (place + 1) xs ys

  abbrev pub fewer : ℕ → List (List X) → List (List X)
  fewer place lists = map (λ (c : ℕ × List X). unlike (alike c.0) [] c.1) (enumerate_from place lists)

  pub fewer_choices : (lists : List (List X)) (place : ℕ) → size_of (fewer place lists) ≤ size_of lists
  fewer_choices [] place = omega arith
  fewer_choices (xs ∷ lists) place =
      let first = fewer_items (alike place) xs [] in
      let rest = fewer_choices lists (place + 1) in
      let less = mul-le-mul_left {m = size_of (fewer (place + 1) lists)} {n = size_of lists} (length (unlike (alike place) [] xs)) rest in
      let more = mul-le-mul_left {m = length (unlike (alike place) [] xs)} {n = length xs} (size_of lists) first in
      let turned = mul_comm (size_of lists) (length (unlike (alike place) [] xs)) in
      let turned_all = mul_comm (size_of lists) (length xs) in
      omega arith

  -- Of a choice nothing is found where nothing is found of one that it is like.
  abbrev pub Same : {Y : Type 0} → ℕ → (List X → Option Y) → Type 0
  Same place test = (xs ys : List X) → AreLike place xs ys → test ys ≡ None → test xs ≡ None

  module _ (itself : (place : ℕ) (x : X) → alike place x x ≡ true) where
    like_itself : (place : ℕ) (xs : List X) → AreLike place xs xs
    like_itself place [] = tt
    like_itself place (x ∷ xs) = (itself place x, like_itself (place + 1) xs)

    pub first_of_fewer : {Y : Type 0} (lists : List (List X)) (place : ℕ) (test : List X → Option Y) → Same place test → first_some test (each_choice (fewer place lists)) ≡ first_some test (each_choice lists)
    first_of_fewer [] place test same = refl
    first_of_fewer (xs ∷ lists) place test same =
        begun (fewer (place + 1) lists) (unlike (alike place) [] xs)
        ∙ first_unlike (alike place) (λ x. first_some (λ ys. test (x ∷ ys)) (each_choice (fewer (place + 1) lists)))
        (λ x y like none. none_too (λ ys. test (x ∷ ys)) (λ ys. test (y ∷ ys)) (λ ys. same (x ∷ ys) (y ∷ ys) (like, like_itself (place + 1) ys)) (each_choice (fewer (place + 1) lists)) none)
        xs [] (λ y h. absurd h)
        ∙ first_agreed _ _ (λ (x : X). first_of_fewer lists (place + 1) (λ ys. test (x ∷ ys)) (λ ys zs like. same (x ∷ ys) (x ∷ zs) (itself place x, like))) xs
        ∙ sym (begun lists xs) where
          begun : (others : List (List X)) (items : List X) → first_some test (each_choice (items ∷ others)) ≡ first_some (λ x. first_some (λ ys. test (x ∷ ys)) (each_choice others)) items
          begun others items =
              first_flat test (λ x. map (λ ys. x ∷ ys) (each_choice others)) items
              ∙ first_agreed _ _ (λ (x : X). first_mapped test (λ (ys : List X). x ∷ ys) (each_choice others)) items
