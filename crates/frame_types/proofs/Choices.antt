-- Values that may be there, and chains of tests.
use Rattle.std.proofs.Common.{◌≡◌, Bool, true, false, cond, Option, Some, None, refl}
use Rattle.std.specs.Prelude.{not, option_map, option_and_then, is_some}
use Rattle.std.specs.Option.{option_or, option_map_or}

pub some_is : {A : Type 0} (x y : A) → ◌≡◌ {A = Option A} (Some x) (Some y) → x ≡ y
some_is x y e = cc

pub and_then_of : {A B : Type 0} (f : A → Option B) (o : Option A) (y : B) → option_and_then f o ≡ Some y → (x : A) × (o ≡ Some x) × (f x ≡ Some y)
and_then_of f None y e = absurd cc
and_then_of f (Some x) y e = (x, refl, e)

-- Where neither is there, neither of both is.
pub neither : {A : Type 0} (a b : Option A) → option_or a b ≡ None → (a ≡ None) × (b ≡ None)
neither None b e = (refl, e)
neither (Some x) b e = absurd cc

pub both_none : {A : Type 0} (a b : Option A) → a ≡ None → b ≡ None → option_or a b ≡ None
both_none a b e f = rw (e, f) refl

pub map_none : {A B : Type 0} (f : A → B) (o : Option A) → option_map f o ≡ None → o ≡ None
map_none f None e = refl
map_none f (Some x) e = absurd cc

-- A test that is passed, where a chain of tests gives nothing.
pub passed : {A : Type 0} (b : Bool) (x : A) (rest : Option A) → cond (not b) (Some x) rest ≡ None → (b ≡ true) × (rest ≡ None)
passed true x rest e = (refl, e)
passed false x rest e = absurd cc

pub is_there : {A : Type 0} (f : A → Bool) (o : Option A) → option_map_or f o false ≡ true → is_some o ≡ true
is_there f None e = e
is_there f (Some x) e = refl

pub and_then_none : {A B : Type 0} (f : A → Option B) (o : Option A) → ((x : A) → o ≡ Some x → f x ≡ None) → option_and_then f o ≡ None
and_then_none f None h = refl
and_then_none f (Some x) h = h x refl

-- what a choice that gives nothing tells of each side
pub of_both : {A : Type 0} (b : Bool) (x y other : Option A) → cond b (option_or x y) other ≡ None → b ≡ true → (x ≡ None) × (y ≡ None)
of_both true x y other e is = neither x y e
of_both false x y other e is = absurd cc

pub of_other : {A : Type 0} (b : Bool) (x other : Option A) → cond b x other ≡ None → b ≡ false → other ≡ None
of_other true x other e is = absurd cc
of_other false x other e is = e
