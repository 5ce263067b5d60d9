-- Values of two programs that belong together where the first has one.
use Rattle.std.proofs.Common.{◌≡◌, Bool, true, false, cond, Option, Some, None, refl, sym, subst}
use Rattle.std.specs.Prelude.{option_map, option_and_then}
use Rattle.std.specs.Option.{option_map_or}
use Rattle.guest_model.proofs.Options.{and_then_of, map_of, some_is}

-- Where the one is there the other is, and they belong together.
unfoldable pub Alike : {A B : Type 0} → (A → B → Type 0) → Option A → Option B → Type 0
Alike {A = A} {B = B} R o p = (x : A) → o ≡ Some x → (y : B) × (p ≡ Some y) × R x y

pub alike_none : {A B : Type 0} (R : A → B → Type 0) (p : Option B) → Alike R None p
unfolding Alike
alike_none R p x e = absurd cc

pub alike_some : {A B : Type 0} (R : A → B → Type 0) (x : A) (y : B) → R x y → Alike R (Some x) (Some y)
unfolding Alike
alike_some {B = B} R x y r z e = (y, refl, subst (λ (a : _). R a y) (some_is x z e) r)

pub alike_at : {A B : Type 0} (R : A → B → Type 0) (o : Option A) (p : Option B) (x : A) → Alike R o p → o ≡ Some x
    → (y : B) × (p ≡ Some y) × R x y
unfolding Alike
alike_at R o p x a e = a x e

pub alike_told : {A B : Type 0} (R : A → B → Type 0) (o : Option A) (p : Option B) → ((x : A) → o ≡ Some x → (y : B) × (p ≡ Some y) × R x y)
    → Alike R o p
unfolding Alike
alike_told R o p f = f

pub alike_then : {A B C D : Type 0} (R : A → B → Type 0) (Q : C → D → Type 0) (f : A → Option C) (g : B → Option D) (o : Option A)
    (p : Option B)
    → Alike R o p → ((x : A) (y : B) → o ≡ Some x → p ≡ Some y → R x y → Alike Q (f x) (g y))
    → Alike Q (option_and_then f o) (option_and_then g p)
unfolding Alike
alike_then R Q f g o p a each z e =
    let m = and_then_of f o z e in
    let b = a m.0 m.1 in
    let c = each m.0 b.0 m.1 b.1 b.2 z m.2 in
    (c.0, rw b.1 c.1, c.2)

pub alike_map : {A B C D : Type 0} (R : A → B → Type 0) (Q : C → D → Type 0) (f : A → C) (g : B → D) (o : Option A) (p : Option B)
    → Alike R o p → ((x : A) (y : B) → o ≡ Some x → p ≡ Some y → R x y → Q (f x) (g y)) → Alike Q (option_map f o) (option_map g p)
unfolding Alike
alike_map {C = C} R Q f g o p a each z e =
    let m = map_of f o z e in
    let b = a m.0 m.1 in
    (g b.0, rw b.1 refl, subst (λ (w : C). Q w (g b.0)) m.2 (each m.0 b.0 m.1 b.1 b.2))

-- ---- what depends on one and the same value

pub same_then : {A C D : Type 0} (Q : C → D → Type 0) (f : A → Option C) (g : A → Option D) (o : Option A)
    → ((x : A) → o ≡ Some x → Alike Q (f x) (g x)) → Alike Q (option_and_then f o) (option_and_then g o)
same_then Q f g None each = alike_none Q None
same_then Q f g (Some x) each = each x refl

pub same_map : {A C D : Type 0} (Q : C → D → Type 0) (f : A → C) (g : A → D) (o : Option A) → ((x : A) → o ≡ Some x → Q (f x) (g x))
    → Alike Q (option_map f o) (option_map g o)
same_map Q f g None each = alike_none Q None
same_map Q f g (Some x) each = alike_some Q (f x) (g x) (each x refl)

pub same_or : {A C D : Type 0} (Q : C → D → Type 0) (f : A → Option C) (g : A → Option D) (o : Option A) (d : Option C) (b : Option D)
    → (o ≡ None → Alike Q d b) → ((x : A) → o ≡ Some x → Alike Q (f x) (g x)) → Alike Q (option_map_or f o d) (option_map_or g o b)
same_or Q f g None d b none each = none refl
same_or Q f g (Some x) d b none each = each x refl

pub same_if : {C D : Type 0} (Q : C → D → Type 0) (b : Bool) (o p : Option C) (q r : Option D) → (b ≡ true → Alike Q o q)
    → (b ≡ false → Alike Q p r)
    → Alike Q (cond b o p) (cond b q r)
same_if Q true o p q r h k = h refl
same_if Q false o p q r h k = k refl

-- ---- what depends on values of which one is the other

pub like_if : {C D : Type 0} (Q : C → D → Type 0) (b c : Bool) (o p : Option C) (q r : Option D) → c ≡ b → (b ≡ true → Alike Q o q)
    → (b ≡ false → Alike Q p r)
    → Alike Q (cond b o p) (cond c q r)
like_if Q b c o p q r e h k = subst (λ (d : Bool). Alike Q (cond b o p) (cond d q r)) (sym e) (same_if Q b o p q r h k)

pub like_then : {A C D : Type 0} (Q : C → D → Type 0) (f : A → Option C) (g : A → Option D) (o p : Option A) → p ≡ o
    → ((x : A) → o ≡ Some x → Alike Q (f x) (g x)) → Alike Q (option_and_then f o) (option_and_then g p)
like_then {A = A} Q f g o p e each =
    subst (λ (w : Option A). Alike Q (option_and_then f o) (option_and_then g w)) (sym e) (same_then Q f g o each)

pub like_map : {A C D : Type 0} (Q : C → D → Type 0) (f : A → C) (g : A → D) (o p : Option A) → p ≡ o
    → ((x : A) → o ≡ Some x → Q (f x) (g x))
    → Alike Q (option_map f o) (option_map g p)
like_map {A = A} Q f g o p e each = subst (λ (w : Option A). Alike Q (option_map f o) (option_map g w)) (sym e) (same_map Q f g o each)

pub like_or : {A C D : Type 0} (Q : C → D → Type 0) (f : A → Option C) (g : A → Option D) (o p : Option A) (d : Option C) (b : Option D)
    → p ≡ o
    → (o ≡ None → Alike Q d b) → ((x : A) → o ≡ Some x → Alike Q (f x) (g x)) → Alike Q (option_map_or f o d) (option_map_or g p b)
like_or {A = A} Q f g o p d b e none each =
    subst (λ (w : Option A). Alike Q (option_map_or f o d) (option_map_or g w b)) (sym e) (same_or Q f g o d b none each)
