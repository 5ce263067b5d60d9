-- Lists that are gone over from the front, and readings one after another.
use Rattle.std.proofs.Common.{◌≡◌, ℕ, suc, ◌+◌, Bool, true, false, cond, not, ◌&&◌, ◌||◌, List, [], ◌∷◌, ◌++◌, length, Some, Result, Ok, refl, ap, subst, ◌∙◌, arith}
use Rattle.std.specs.Prelude.{find, slice_get}
use Rattle.std.specs.List.{AllByRecursion, list_any}
use Rattle.mon_base.specs.Reading.{◌>>=◌, need}
use Rattle.bytecode_model.proofs.Lists.{some_is}
use Rattle.class_linking.specs.Fault.{Linked, linked_from}

-- ---- readings

-- What the second reading gives, after a first that succeeds.
pub then_ok : {A B E : Type 0} (r : Result A E) (f : A → Result B E) (x : A) (y : B) → r ≡ Ok x → f x ≡ Ok y → (r >>= f) ≡ Ok y
then_ok r f x y one two = ap (λ (s : Result _ _). s >>= f) one ∙ two

-- Two tests that pass change nothing.
pub two_tests : {A E : Type 0} (a b : Bool) (first second : E) (r : Result A E) → a ≡ true → b ≡ false → (need a first >>= λ _. need (not b) second >>= λ _. r) ≡ r
two_tests a b first second r one two = rw (one, two) refl

-- Four tests that pass.
pub four_tests : {E : Type 0} (a b c d : Bool) (first second third last : E) → a ≡ true → b ≡ false → c ≡ true → d ≡ true
    → (need a first >>= λ _. need (not b) second >>= λ _. need c third >>= λ _. need d last) ≡ Ok tt
four_tests a b c d first second third last one two three four = rw (one, two, three, four) refl

-- ---- lists that are linked item by item

-- one item more
pub linked_more : {X Y : Type 0} (one : ℕ → X → Linked Y) (at : ℕ) (x : X) (xs : List X) (y : Y) (ys : List Y) → one at x ≡ Ok y → linked_from one (at + 1) xs ≡ Ok ys
    → linked_from one at (x ∷ xs) ≡ Ok (y ∷ ys)
linked_more one at x xs y ys first others = rw (first, others) refl

-- ---- places

-- What stands behind others.
pub get_behind : {X : Type 0} (xs ys : List X) (k : ℕ) → slice_get (xs ++ ys) (length xs + k) ≡ slice_get ys k
get_behind [] ys k = ap (slice_get ys) (omega arith)
get_behind (x ∷ xs) ys k =
    let shift : length (x ∷ xs) + k ≡ suc (length xs + k) = omega arith in
    ap (slice_get (x ∷ (xs ++ ys))) shift ∙ get_behind xs ys k

-- ---- first items

-- What holds of each item holds of the first that passes.
pub found_one : {X : Type 0} (p : X → Bool) (P : X → Type 0) (xs : List X) (x : X) → AllByRecursion P xs → find p xs ≡ Some x → P x
found_one p P [] x all e = absurd cc
found_one p P (y ∷ xs) x all e = by (p y) e (found_one p P xs x all.1) where
  by : (b : Bool) → cond b (Some y) (find p xs) ≡ Some x → (find p xs ≡ Some x → P x) → P x
  by true f others = subst P (some_is y x f) all.0
  by false f others = others f

-- Where one is found, one passes.
pub found_any : {X : Type 0} (p : X → Bool) (xs : List X) (x : X) → find p xs ≡ Some x → list_any p xs ≡ true
found_any p [] x e = absurd cc
found_any p (y ∷ xs) x e = by (p y) e (found_any p xs x) where
  by : (b : Bool) → cond b (Some y) (find p xs) ≡ Some x → (find p xs ≡ Some x → list_any p xs ≡ true) → (b || list_any p xs) ≡ true
  by true f others = refl
  by false f others = others f

-- A test that fails passes on to the others.
pub passed_on : {X : Type 0} (b : Bool) (x y : X) → cond (b && false) x y ≡ y
passed_on true x y = refl
passed_on false x y = refl
