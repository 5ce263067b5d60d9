-- Values that may be there.
use Rattle.std.proofs.Common.{◌≡◌, ℕ, zero, suc, ◌<◌, Bool, true, false, cond, List, [], ◌∷◌, length, Option, Some, None, refl, arith}
use Rattle.std.specs.Prelude.{IsSome, slice_get, option_map, option_and_then}
use Rattle.std.specs.Option.{option_map_or}

-- what is there only where the test holds, and only where it does not
pub if_of : {A : Type 0} (b : Bool) (o : Option A) (y : A) → cond b o None ≡ Some y → (b ≡ true) × (o ≡ Some y)
if_of true o y e = (refl, e)
if_of false o y e = absurd cc

pub unless_of : {A : Type 0} (b : Bool) (o : Option A) (y : A) → cond b None o ≡ Some y → (b ≡ false) × (o ≡ Some y)
unless_of true o y e = absurd cc
unless_of false o y e = (refl, e)

-- ---- what is there

pub then_some : {A B : Type 0} (f : A → Option B) (o : Option A) → IsSome o → ((x : A) → o ≡ Some x → IsSome (f x))
    → IsSome (option_and_then f o)
then_some f None h each = absurd cc
then_some f (Some x) h each = each x refl

pub map_some : {A B : Type 0} (f : A → B) (o : Option A) → IsSome o → IsSome (option_map f o)
map_some f None h = h
map_some f (Some x) h = refl

pub map_or_some : {A B : Type 0} (f : A → Option B) (o : Option A) (other : Option B) → ((x : A) → IsSome (f x)) → IsSome other
    → IsSome (option_map_or f o other)
map_or_some f None other each h = h
map_or_some f (Some x) other each h = each x

pub cond_either : {A : Type 0} (b : Bool) (o p : Option A) → IsSome o → IsSome p → IsSome (cond b o p)
cond_either true o p h k = h
cond_either false o p h k = k

pub get_some : {A : Type 0} (xs : List A) (i : ℕ) → i < length xs → IsSome (slice_get xs i)
get_some [] i h = absurd (omega arith)
get_some (x ∷ xs) zero h = refl
get_some (x ∷ xs) (suc i) h = get_some xs i (omega arith)

pub holds_there : {A : Type 0} (p : A → Bool) (o : Option A) → option_map_or p o false ≡ true → IsSome o
holds_there p None e = absurd cc
holds_there p (Some x) e = refl
