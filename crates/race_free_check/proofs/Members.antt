-- What is in a list: in lists that are joined, mapped, filtered, or told by their indexes.
use Rattle.std.proofs.Common.{◌≡◌, ◌⊎◌, inl, inr, ℕ, zero, suc, ◌+◌, ◌<◌, Bool, true, false, cond, List, [], ◌∷◌, ◌++◌, length, get_or, map, filter, Option, Some, None, refl, sym, ap, subst, ◌∙◌, arith}
use Rattle.std.specs.Prelude.{◌||◌, find, slice_get, filter_map, flat_map}
use Rattle.std.specs.List.{AllByRecursion, cons_option, enumerate_from, list_any, list_all}

-- x is in the list.
abbrev pub Has : {X : Type 0} → List X → X → Type 0
Has [] x = ⊥
Has (y ∷ ys) x = (y ≡ x) ⊎ Has ys x

-- an item of which something else is told
pub record Among {X : Type 0} (xs : List X) (P : X → Type 0) : Type 0 where
  pub item : X
  pub there : Has xs item
  pub so : P item

-- ---- what holds of all

pub of_all : {X : Type 0} (P : X → Type 0) (xs : List X) (x : X) → AllByRecursion P xs → Has xs x → P x
of_all P [] x all h = absurd h
of_all P (y ∷ ys) x all (inl e) = subst P e all.0
of_all P (y ∷ ys) x all (inr h) = of_all P ys x all.1 h

-- ---- indexes

pub at_index : {X : Type 0} (xs : List X) (i : ℕ) (x : X) → slice_get xs i ≡ Some x → Has xs x
at_index [] i x e = absurd cc
at_index (y ∷ ys) zero x e = let same : y ≡ x = cc in inl same
at_index (y ∷ ys) (suc i) x e = inr (at_index ys i x e)

pub record Index {X : Type 0} (xs : List X) (x : X) : Type 0 where
  pub place : ℕ
  pub there : slice_get xs place ≡ Some x

pub index_of : {X : Type 0} (xs : List X) (x : X) → Has xs x → Index xs x
index_of [] x h = absurd h
index_of (y ∷ ys) x (inl e) = record { place = 0; there = ap Some e }
index_of (y ∷ ys) x (inr h) = let i = index_of ys x h in record { place = suc i.place; there = i.there }

-- the place of an item, for an element d past the end
pub record Place {X : Type 0} (xs : List X) (x d : X) : Type 0 where
  pub place : ℕ
  pub inside : place < length xs
  pub is : get_or xs place d ≡ x

pub place_of : {X : Type 0} (xs : List X) (x d : X) → Has xs x → Place xs x d
place_of [] x d h = absurd h
place_of (y ∷ ys) x d (inl e) = record { place = 0; inside = omega arith; is = e }
place_of (y ∷ ys) x d (inr h) = let p = place_of ys x d h in record { place = suc p.place; inside = omega arith; is = p.is }

-- ---- lists that are joined

pub in_left : {X : Type 0} (xs ys : List X) (x : X) → Has xs x → Has (xs ++ ys) x
in_left [] ys x h = absurd h
in_left (z ∷ xs) ys x (inl e) = inl e
in_left (z ∷ xs) ys x (inr h) = inr (in_left xs ys x h)

pub in_right : {X : Type 0} (xs ys : List X) (x : X) → Has ys x → Has (xs ++ ys) x
in_right [] ys x h = h
in_right (z ∷ xs) ys x h = inr (in_right xs ys x h)

pub in_either : {X : Type 0} (xs ys : List X) (x : X) → Has (xs ++ ys) x → Has xs x ⊎ Has ys x
in_either [] ys x h = inr h
in_either (z ∷ xs) ys x (inl e) = inl (inl e)
in_either (z ∷ xs) ys x (inr h) = by (in_either xs ys x h) where
  by : Has xs x ⊎ Has ys x → Has (z ∷ xs) x ⊎ Has ys x
  by (inl left) = inl (inr left)
  by (inr right) = inr right

-- ---- lists that are mapped

module _ {X Y : Type 0} where
  pub in_map : (f : X → Y) (xs : List X) (x : X) → Has xs x → Has (map f xs) (f x)
  in_map f [] x h = absurd h
  in_map f (z ∷ xs) x (inl e) = inl (ap f e)
  in_map f (z ∷ xs) x (inr h) = inr (in_map f xs x h)

  pub map_has : (f : X → Y) (xs : List X) (y : Y) → Has (map f xs) y → Among xs (λ x. f x ≡ y)
  map_has f [] y h = absurd h
  map_has f (z ∷ xs) y (inl e) = record { item = z; there = inl refl; so = e }
  map_has f (z ∷ xs) y (inr h) = let m = map_has f xs y h in record { item = m.item; there = inr m.there; so = m.so }

  pub in_flat : (f : X → List Y) (xs : List X) (x : X) (y : Y) → Has xs x → Has (f x) y → Has (flat_map f xs) y
  in_flat f [] x y h k = absurd h
  in_flat f (z ∷ xs) x y (inl e) k = in_left (f z) (flat_map f xs) y (subst (λ (w : X). Has (f w) y) (sym e) k)
  in_flat f (z ∷ xs) x y (inr h) k = in_right (f z) (flat_map f xs) y (in_flat f xs x y h k)

  pub flat_has : (f : X → List Y) (xs : List X) (y : Y) → Has (flat_map f xs) y → Among xs (λ x. Has (f x) y)
  flat_has f [] y h = absurd h
  flat_has f (z ∷ xs) y h = by (in_either (f z) (flat_map f xs) y h) (flat_has f xs y) where
    by : Has (f z) y ⊎ Has (flat_map f xs) y → (Has (flat_map f xs) y → Among xs (λ x. Has (f x) y)) → Among (z ∷ xs) (λ x. Has (f x) y)
    by (inl here) later = record { item = z; there = inl refl; so = here }
    by (inr there) later = let m = later there in record { item = m.item; there = inr m.there; so = m.so }

  pub in_filter_map : (h : X → Option Y) (xs : List X) (x : X) (y : Y) → Has xs x → h x ≡ Some y → Has (filter_map h xs) y
  in_filter_map h [] x y has e = absurd has
  in_filter_map h (z ∷ xs) x y (inl same) e =
      let here : h z ≡ Some y = ap h same ∙ e in
      rw here (inl refl)
  in_filter_map h (z ∷ xs) x y (inr has) e = by (h z) (in_filter_map h xs x y has e) where
    by : (o : Option Y) → Has (filter_map h xs) y → Has (cons_option o (filter_map h xs)) y
    by None k = k
    by (Some w) k = inr k

-- ---- lists that are filtered

pub in_filter : {X : Type 0} (p : X → Bool) (xs : List X) (x : X) → Has xs x → p x ≡ true → Has (filter p xs) x
in_filter p [] x h e = absurd h
in_filter p (z ∷ xs) x (inl same) e =
    let here : p z ≡ true = ap p same ∙ e in
    rw here (inl same)
in_filter p (z ∷ xs) x (inr h) e = by (p z) (in_filter p xs x h e) where
  by : (b : Bool) → Has (filter p xs) x → Has (cond b (z ∷ filter p xs) (filter p xs)) x
  by true k = inr k
  by false k = k

pub record Passes {X : Type 0} (p : X → Bool) (xs : List X) (x : X) : Type 0 where
  pub there : Has xs x
  pub passes : p x ≡ true

pub filter_has : {X : Type 0} (p : X → Bool) (xs : List X) (x : X) → Has (filter p xs) x → Passes p xs x
filter_has p [] x h = absurd h
filter_has p (z ∷ xs) x h = by (p z) refl h (filter_has p xs x) where
  later : Passes p xs x → Passes p (z ∷ xs) x
  later m = record { there = inr m.there; passes = m.passes }

  by : (b : Bool) → p z ≡ b → Has (cond b (z ∷ filter p xs) (filter p xs)) x → (Has (filter p xs) x → Passes p xs x) → Passes p (z ∷ xs) x
  by true e (inl same) rest = record { there = inl same; passes = ap p (sym same) ∙ e }
  by true e (inr k) rest = later (rest k)
  by false e k rest = later (rest k)

-- ---- tests of lists

pub in_any : {X : Type 0} (p : X → Bool) (xs : List X) (x : X) → Has xs x → p x ≡ true → list_any p xs ≡ true
in_any p [] x h e = absurd h
in_any p (z ∷ xs) x (inl same) e = let here : p z ≡ true = ap p same ∙ e in rw here refl
in_any p (z ∷ xs) x (inr h) e = by (p z) (in_any p xs x h e) where
  by : (b : Bool) → list_any p xs ≡ true → (b || list_any p xs) ≡ true
  by true k = refl
  by false k = k

pub none_found : {X : Type 0} (p : X → Bool) (xs : List X) (x : X) → find p xs ≡ None → Has xs x → p x ≡ false
none_found p [] x e h = absurd h
none_found p (z ∷ xs) x e h = by (p z) refl e h (none_found p xs x) where
  by : (b : Bool) → p z ≡ b → cond b (Some z) (find p xs) ≡ None → Has (z ∷ xs) x → (find p xs ≡ None → Has xs x → p x ≡ false) → p x ≡ false
  by true is none has later = absurd cc
  by false is none (inl same) later = ap p (sym same) ∙ is
  by false is none (inr has) later = later none has

pub found_passes : {X : Type 0} (p : X → Bool) (xs : List X) (x : X) → find p xs ≡ Some x → Passes p xs x
found_passes p [] x e = absurd cc
found_passes p (z ∷ xs) x e = by (p z) refl e (found_passes p xs x) where
  by : (b : Bool) → p z ≡ b → cond b (Some z) (find p xs) ≡ Some x → (find p xs ≡ Some x → Passes p xs x) → Passes p (z ∷ xs) x
  by true is some later =
      let same : z ≡ x = cc in
      record { there = inl same; passes = ap p (sym same) ∙ is }
  by false is some later = let m = later some in record { there = inr m.there; passes = m.passes }

pub none_where : {X : Type 0} (p : X → Bool) (xs : List X) → ((x : X) → Has xs x → p x ≡ false) → find p xs ≡ None
none_where p [] each = refl
none_where p (z ∷ xs) each = rw (each z (inl refl)) (none_where p xs (λ x h. each x (inr h)))

-- two tests that agree on the items find the same one
pub same_found : {X : Type 0} (p q : X → Bool) (xs : List X) → ((x : X) → Has xs x → p x ≡ q x) → find p xs ≡ find q xs
same_found p q [] each = refl
same_found p q (z ∷ xs) each = rw (each z (inl refl), same_found p q xs (λ x h. each x (inr h))) refl

pub same_all : {X : Type 0} (p q : X → Bool) (xs : List X) → ((x : X) → Has xs x → p x ≡ q x) → list_all p xs ≡ list_all q xs
same_all p q [] each = refl
same_all p q (z ∷ xs) each = rw (each z (inl refl), same_all p q xs (λ x h. each x (inr h))) refl

-- ---- items with their places

pub in_places : {X : Type 0} (xs : List X) (n : ℕ) (x : X) → Has xs x → Among (enumerate_from n xs) (λ (c : ℕ × X). c.1 ≡ x)
in_places [] n x h = absurd h
in_places (z ∷ xs) n x (inl same) = record { item = (n, z); there = inl refl; so = same }
in_places (z ∷ xs) n x (inr h) = let m = in_places xs (n + 1) x h in record { item = m.item; there = inr m.there; so = m.so }

pub places_have : {X : Type 0} (xs : List X) (n : ℕ) (c : ℕ × X) → Has (enumerate_from n xs) c → Has xs c.1
places_have [] n c h = absurd h
places_have (z ∷ xs) n c (inl same) = inl (ap (λ (d : ℕ × _). d.1) same)
places_have (z ∷ xs) n c (inr h) = inr (places_have xs (n + 1) c h)
