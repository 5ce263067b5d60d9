-- Values that are there or not, and rules in order.
use Rattle.std.proofs.Common.{◌≡◌, ℕ, zero, suc, List, [], ◌∷◌, Option, Some, None, refl, subst}
use Rattle.std.specs.Prelude.{slice_get, option_and_then}
use Rattle.std.specs.List.{AllByRecursion}
use Rattle.cert_checker.specs.Places.{or_else, placed}

-- a value that was made in two steps
pub and_then_of : {A B : Type 0} (f : A → Option B) (o : Option A) (y : B) → option_and_then f o ≡ Some y → (x : A) × (o ≡ Some x) × (f x ≡ Some y)
and_then_of f None y e = absurd cc
and_then_of f (Some x) y e = (x, refl, e)

-- nothing was found: not in the item, and not later
pub or_else_none : {A : Type 0} (now later : Option A) → or_else now later ≡ None → (now ≡ None) × (later ≡ None)
or_else_none None later e = (refl, e)
or_else_none (Some x) later e = absurd cc

pub placed_none : {A : Type 0} (at : ℕ) (found : Option A) → placed at found ≡ None → found ≡ None
placed_none at None e = refl
placed_none at (Some x) e = absurd cc

-- what holds of each item holds of the item at a place
pub all_at : {X : Type 0} (P : X → Type 0) (xs : List X) (i : ℕ) (x : X) → AllByRecursion P xs → slice_get xs i ≡ Some x → P x
all_at P [] i x all e = absurd cc
all_at P (y ∷ ys) zero x all e = let same : y ≡ x = cc in subst P same all.0
all_at P (y ∷ ys) (suc i) x all e = all_at P ys i x all.1 e
