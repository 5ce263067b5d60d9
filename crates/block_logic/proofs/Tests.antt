-- Tests that pass, and values that are there.
use Rattle.std.proofs.Common.{◌≡◌, ℕ, zero, suc, ◌<◌, Bool, true, false, cond, List, [], ◌∷◌, length, Option, Some, None, refl, arith}
use Rattle.std.specs.Prelude.{◌||◌, Contains, if◌then◌else◌, is_some, not, slice_get}
use Rattle.std.specs.List.{list_all}
use Rattle.std.specs.Option.{option_map_or}
use Rattle.std.proofs.lemmas.Bool.{and_parts}

-- ---- tests

-- what follows where a test holds, or does not
pub if_so : (b c : Bool) → (not b || c) ≡ true → b ≡ true → c ≡ true
if_so true c e h = e
if_so false c e h = absurd cc

-- what is chosen by a test
pub chosen : (b c d : Bool) → (if b then c else d) ≡ true → b ≡ true → c ≡ true
chosen true c d e h = e
chosen false c d e h = absurd cc

pub not_chosen : (b c d : Bool) → (if b then c else d) ≡ true → b ≡ false → d ≡ true
not_chosen true c d e h = absurd cc
not_chosen false c d e h = e

-- ---- values that are there, or not

pub not_there : {A : Type 0} (o : Option A) → not (is_some o) ≡ true → o ≡ None
not_there None e = refl
not_there (Some x) e = absurd cc

pub it_is_there : {A : Type 0} (o : Option A) → is_some o ≡ true → (x : A) × (o ≡ Some x)
it_is_there None e = absurd cc
it_is_there (Some x) e = (x, refl)

pub get_within : {A : Type 0} (xs : List A) (i : ℕ) → i < length xs → (x : A) × (slice_get xs i ≡ Some x)
get_within [] i within = absurd (omega (arith, within))
get_within (x ∷ xs) zero within = (x, refl)
get_within (x ∷ xs) (suc i) within = get_within xs i (omega (arith, within))

-- a value that is there only where a test holds
pub if_true : {A : Type 0} (b : Bool) (o : Option A) (x : A) → cond b o None ≡ Some x → (b ≡ true) × (o ≡ Some x)
if_true true o x e = (refl, e)
if_true false o x e = absurd cc

-- a test of a value that is there
pub passed_by : {A : Type 0} (test : A → Bool) (o : Option A) → option_map_or test o false ≡ true → (x : A) × (o ≡ Some x) × (test x ≡ true)
passed_by test None e = absurd cc
passed_by test (Some x) e = (x, refl, e)

-- a test that all items pass is passed by each of them
pub all_passed : {A : Type 0} (test : A → Bool) (xs : List A) (x : A) → list_all test xs ≡ true → Contains xs x → test x ≡ true
all_passed test [] x all has = absurd (omega (arith, has.1))
all_passed test (y ∷ ys) x all (zero, within, is) = rw (← is) ((and_parts (test y) (list_all test ys) all).0)
all_passed test (y ∷ ys) x all (suc i, within, is) = all_passed test ys x ((and_parts (test y) (list_all test ys) all).1) (i, omega (arith, within), is)
