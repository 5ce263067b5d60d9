-- Values that may be there, and lists of which something holds.
use Rattle.std.proofs.Common.{◌≡◌, ℕ, zero, suc, Bool, true, false, cond, List, [], ◌∷◌, ◌++◌, length, map, take, drop, replicate, Option, Some, None, refl, sym, ap, ◌∙◌, subst, arith}
use Rattle.std.specs.Prelude.{◌<◌, get_or, slice_get, slice_set, find, option_map, option_and_then, reverse, Contains, IsSome, IsSomeAnd}
use Rattle.std.specs.List.{AllByRecursion}
use Rattle.std.specs.Option.{option_map_or, option_to_list}
use Rattle.std.proofs.lemmas.Grind.{reverse_onto}
use Rattle.std.proofs.lemmas.List.Elements.{Contains-append_right}

pub and_then_of : {A B : Type 0} (f : A → Option B) (o : Option A) (y : B) → option_and_then f o ≡ Some y → (x : A) × (o ≡ Some x) × (f x ≡ Some y)
and_then_of f None y e = absurd cc
and_then_of f (Some x) y e = (x, refl, e)

pub some_is : {A : Type 0} (x y : A) → ◌≡◌ {A = Option A} (Some x) (Some y) → x ≡ y
some_is x y e = cc

pub map_of : {A B : Type 0} (f : A → B) (o : Option A) (y : B) → option_map f o ≡ Some y → (x : A) × (o ≡ Some x) × (f x ≡ y)
map_of f None y e = absurd cc
map_of f (Some x) y e = (x, refl, some_is (f x) y e)

pub unless_of : {A : Type 0} (b : Bool) (x y : A) → cond b None (Some x) ≡ Some y → x ≡ y
unless_of true x y e = absurd cc
unless_of false x y e = some_is x y e

found_or : {A : Type 0} (b : Bool) (p : A → Bool) (first : A) (others : List A) (x : A) → p first ≡ b → cond b (Some first) (find p others) ≡ Some x
    → (find p others ≡ Some x → Contains others x × (p x ≡ true)) → Contains (first ∷ others) x × (p x ≡ true)
found_or true p first others x is e later =
    let same : first ≡ x = some_is first x e in
    ((0, omega arith, same), subst (λ (y : _). p y ≡ true) same is)
found_or false p first others x is e later =
    let l = later e in
    (Contains-append_right (first ∷ []) others x l.0, l.1)

-- what is found is there, and the test holds of it
pub find_is : {A : Type 0} (p : A → Bool) (xs : List A) (x : A) → find p xs ≡ Some x → Contains xs x × (p x ≡ true)
find_is p [] x e = absurd cc
find_is p (first ∷ others) x e = found_or (p first) p first others x refl e (find_is p others x)

some_or : {A : Type 0} (b : Bool) (first : A) (later : Option A) → (b ≡ false → IsSome later) → IsSome (cond b (Some first) later)
some_or true first later rest = refl
some_or false first later rest = rest refl

-- where one is there of which the test holds, one is found
pub found_some : {A : Type 0} (p : A → Bool) (xs : List A) (x : A) → Contains xs x → p x ≡ true → IsSome (find p xs)
found_some {A} p xs x has holds = by xs has.0 has.1 has.2 where
  by : (ys : List A) (k : ℕ) → k < length ys → get_or ys k x ≡ x → IsSome (find p ys)
  by [] k within is = absurd (omega (arith, within))
  by (first ∷ others) zero within is =
      some_or (p first) first (find p others) (λ fails. let not_so : true ≡ false = sym holds ∙ ap p (sym is) ∙ fails in absurd cc)
  by (first ∷ others) (suc k) within is = some_or (p first) first (find p others) (λ fails. by others k (omega (arith, within)) is)

-- ---- what holds of a value that may be there

unfoldable pub IfThere : {A : Type 0} → (A → Type 0) → Option A → Type 0
IfThere {A = A} P o = (x : A) → o ≡ Some x → P x

pub if_none : {A : Type 0} (P : A → Type 0) → IfThere P None
unfolding IfThere
if_none P x e = absurd cc

pub if_some : {A : Type 0} (P : A → Type 0) (x : A) → P x → IfThere P (Some x)
unfolding IfThere
if_some P x p y e = subst P (some_is x y e) p

pub is_there : {A : Type 0} (P : A → Type 0) (o : Option A) (x : A) → IfThere P o → o ≡ Some x → P x
unfolding IfThere
is_there P o x h e = h x e

pub if_either : {A : Type 0} (P : A → Type 0) (b : Bool) (o q : Option A) → IfThere P o → IfThere P q → IfThere P (cond b o q)
if_either P true o q h k = h
if_either P false o q h k = k

-- where the test holds
pub if_holds : {A : Type 0} (P : A → Type 0) (b : Bool) (o : Option A) → (b ≡ true → IfThere P o) → IfThere P (cond b o None)
if_holds P true o h = h refl
if_holds P false o h = if_none P

pub if_then : {A B : Type 0} (P : B → Type 0) (f : A → Option B) (o : Option A) → ((x : A) → o ≡ Some x → IfThere P (f x))
    → IfThere P (option_and_then f o)
unfolding IfThere
if_then P f o each y e = let a = and_then_of f o y e in each a.0 a.1 y a.2

pub if_mapped : {A B : Type 0} (P : B → Type 0) (f : A → B) (o : Option A) → ((x : A) → o ≡ Some x → P (f x)) → IfThere P (option_map f o)
unfolding IfThere
if_mapped P f o each y e = let m = map_of f o y e in subst P m.2 (each m.0 m.1)

-- what holds of the value holds otherwise of what is made of it
pub if_made : {A B : Type 0} (P : A → Type 0) (Q : B → Type 0) (f : A → B) (o : Option A) → ((x : A) → P x → Q (f x)) → IfThere P o
    → IfThere Q (option_map f o)
if_made P Q f o each h = if_mapped Q f o (λ x e. each x (is_there P o x h e))

-- by whether the value is there
pub there_or : {A B : Type 0} (P : B → Type 0) (f : A → B) (o : Option A) (y : B) → P y → ((x : A) → o ≡ Some x → P (f x))
    → P (option_map_or f o y)
there_or P f None y h each = h
there_or P f (Some x) y h each = each x refl

-- ---- what holds of each item

pub all_get : {A : Type 0} (P : A → Type 0) (xs : List A) (i : ℕ) (x : A) → AllByRecursion P xs → slice_get xs i ≡ Some x → P x
all_get P [] i x all e = absurd cc
all_get P (y ∷ xs) zero x all e = subst P (some_is y x e) all.0
all_get P (y ∷ xs) (suc i) x all e = all_get P xs i x all.1 e

pub all_set : {A : Type 0} (P : A → Type 0) (xs : List A) (i : ℕ) (x : A) → AllByRecursion P xs → P x → AllByRecursion P (slice_set xs i x)
all_set P [] i x all h = tt
all_set P (y ∷ xs) zero x all h = (h, all.1)
all_set P (y ∷ xs) (suc i) x all h = (all.0, all_set P xs i x all.1 h)

pub all_append : {A : Type 0} (P : A → Type 0) (xs ys : List A) → AllByRecursion P xs → AllByRecursion P ys → AllByRecursion P (xs ++ ys)
all_append P [] ys p q = q
all_append P (x ∷ xs) ys p q = (p.0, all_append P xs ys p.1 q)

pub all_drop : {A : Type 0} (P : A → Type 0) (n : ℕ) (xs : List A) → AllByRecursion P xs → AllByRecursion P (drop n xs)
all_drop P zero xs p = p
all_drop P (suc n) [] p = tt
all_drop P (suc n) (x ∷ xs) p = all_drop P n xs p.1

pub all_take : {A : Type 0} (P : A → Type 0) (n : ℕ) (xs : List A) → AllByRecursion P xs → AllByRecursion P (take n xs)
all_take P zero xs p = tt
all_take P (suc n) [] p = tt
all_take P (suc n) (x ∷ xs) p = (p.0, all_take P n xs p.1)

pub all_replicate : {A : Type 0} (P : A → Type 0) (n : ℕ) (x : A) → P x → AllByRecursion P (replicate n x)
all_replicate P zero x p = tt
all_replicate P (suc n) x p = (p, all_replicate P n x p)

-- what holds of each item holds of each that is made of one
pub all_map : {A B : Type 0} (P : B → Type 0) (f : A → B) (xs : List A) → ((x : A) → P (f x)) → AllByRecursion P (map f xs)
all_map P f [] each = tt
all_map P f (x ∷ xs) each = (each x, all_map P f xs each)

pub all_mapped : {A B : Type 0} (P : A → Type 0) (Q : B → Type 0) (f : A → B) (xs : List A) → ((x : A) → P x → Q (f x))
    → AllByRecursion P xs → AllByRecursion Q (map f xs)
all_mapped P Q f [] each all = tt
all_mapped P Q f (x ∷ xs) each all = (each x all.0, all_mapped P Q f xs each all.1)

pub all_reverse : {A : Type 0} (P : A → Type 0) (xs : List A) → AllByRecursion P xs → AllByRecursion P (reverse xs)
all_reverse P [] p = tt
all_reverse P (x ∷ xs) p =
    subst (AllByRecursion P) (sym (reverse_onto xs x [])) (all_append P (reverse xs) (x ∷ []) (all_reverse P xs p.1) (p.0, tt))

pub all_of_one : {A : Type 0} (P : A → Type 0) (o : Option A) → IfThere P o → AllByRecursion P (option_to_list o)
unfolding IfThere
all_of_one P None h = tt
all_of_one P (Some x) h = (h x refl, tt)

-- the one item
pub the_one : {A : Type 0} (P : A → Type 0) (o : Option A) (x : A) → AllByRecursion P (option_to_list o) → o ≡ Some x → P x
the_one P None x all e = absurd cc
the_one P (Some y) x all e = subst P (some_is y x e) all.0

-- a list that has an item is not empty
pub not_empty : {A : Type 0} (xs : List A) (i : ℕ) (x : A) → slice_get xs i ≡ Some x → 0 < length xs
not_empty [] i x e = absurd cc
not_empty (y ∷ xs) i x e = omega arith

pub some_and : {A : Type 0} (P : A → Type 0) (o : Option A) (x : A) → o ≡ Some x → P x → IsSomeAnd o P
some_and P o x e p = subst (λ (a : Option _). IsSomeAnd a P) (sym e) p
