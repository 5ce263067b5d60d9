-- The nearest declaration is a declaration, and where there is none there is none.
use Rattle.std.proofs.Common.{◌≡◌, ℕ, zero, suc, ◌+◌, ◌-◌, ◌≤◌, Bool, true, false, cond, ◌||◌, List, [], ◌∷◌, Option, Some, None, refl, sym, ap, subst, ◌∙◌, arith}
use Rattle.std.specs.Prelude.{bytes_eq, slice_get, IfSome, IfNone}
use Rattle.std.specs.List.{list_any, position_from}
use Rattle.std.specs.Option.{option_or}
use Rattle.std.proofs.lemmas.Bool.{false≢true}
use Rattle.std.proofs.lemmas.Slice.Eq.{bytes_eq-Decides}
use Rattle.api_listing.specs.declared.types.ListedMethod.{ListedMethod}
use Rattle.api_listing.specs.declared.types.Listing.{Listing}
use Rattle.api_listing.specs.BuiltIn.{is_method}
use Rattle.api_listing.specs.Nearest.{declared_in, first_declared, looked_in, nearest, IsMethodAt, HasNoMethod}
use Rattle.api_listing.proofs.Names.{method_is, is_method_of}

pub record Stands {X : Type 0} (t : X → Bool) (i : ℕ) (xs : List X) (k : ℕ) : Type 0 where
  pub item : X
  pub following : i ≤ k
  pub there : slice_get xs (k - i) ≡ Some item
  pub passes : t item ≡ true

stands_next : {X : Type 0} (t : X → Bool) (i : ℕ) (x : X) (xs : List X) (k : ℕ) → (position_from t (i + 1) xs ≡ Some k → Stands t (i + 1) xs k) → position_from t i (x ∷ xs) ≡ Some k → Stands t i (x ∷ xs) k
stands_next t i x xs k later h = by (t x) refl h where
  by : (b : Bool) → t x ≡ b → cond b (Some i) (position_from t (i + 1) xs) ≡ Some k → Stands t i (x ∷ xs) k
  by true is h =
      let same : i ≡ k = cc in
      let n : k - i ≡ 0 = omega arith in
      record { item = x; following = omega arith; there = rw n refl; passes = is }
  by false is h =
      let s = later h in
      let n : k - i ≡ suc (k - (i + 1)) = omega (arith, s.following) in
      record { item = s.item; following = omega (arith, s.following); there = rw n s.there; passes = s.passes }

stands : {X : Type 0} (t : X → Bool) (i : ℕ) (xs : List X) (k : ℕ) → position_from t i xs ≡ Some k → Stands t i xs k
stands t i [] k h = absurd cc
stands t i (x ∷ xs) k h = stands_next t i x xs k (stands t (i + 1) xs k) h

none_next : {X : Type 0} (t : X → Bool) (i : ℕ) (x : X) (xs : List X) → position_from t i (x ∷ xs) ≡ None → (t x ≡ false) × (position_from t (i + 1) xs ≡ None)
none_next t i x xs h = by (t x) refl h where
  by : (b : Bool) → t x ≡ b → cond b (Some i) (position_from t (i + 1) xs) ≡ None → (t x ≡ false) × (position_from t (i + 1) xs ≡ None)
  by true is h = absurd cc
  by false is h = (is, h)

none_stands : {X : Type 0} (t : X → Bool) (i : ℕ) (xs : List X) → position_from t i xs ≡ None → (k : ℕ) (x : X) → slice_get xs k ≡ Some x → t x ≡ true → ⊥
none_stands t i [] h k x there passes = absurd cc
none_stands t i (y ∷ ys) h zero x there passes =
    let same : y ≡ x = cc in
    false≢true (sym (none_next t i y ys h).0 ∙ ap t same ∙ passes)
none_stands t i (y ∷ ys) h (suc k) x there passes = none_stands t (i + 1) ys (none_next t i y ys h).1 k x there passes

module _ (methods : List ListedMethod) (name desc : List ℕ) where
  abbrev IsOf : List (List ℕ) → ℕ → Type 0
  IsOf classes k = (m : ListedMethod) × ((slice_get methods k ≡ Some m) × (m.id.name ≡ name) × (m.id.desc ≡ desc) × (list_any (λ c. bytes_eq c m.id.class) classes ≡ true))

  one_found : (class : List ℕ) (classes : List (List ℕ)) (k : ℕ) → declared_in methods name desc class ≡ Some k → IsOf (class ∷ classes) k
  one_found class classes k h =
      let s = stands (λ m. is_method class name desc m.id) 0 methods k h in
      let e = method_is class name desc s.item.id s.passes in
      let n : k - 0 ≡ k = omega arith in
      let same : bytes_eq class s.item.id.class ≡ true = (bytes_eq-Decides class s.item.id.class).1 (sym e.0) in
      (s.item, (subst (λ (j : ℕ). slice_get methods j ≡ Some s.item) n s.there, e.1, e.2, rw same refl))

  or_true : (a b : Bool) → b ≡ true → (a || b) ≡ true
  or_true true b e = refl
  or_true false b e = e

  found_next : (class : List ℕ) (classes : List (List ℕ)) (k : ℕ) → (first_declared methods name desc classes ≡ Some k → IsOf classes k) → first_declared methods name desc (class ∷ classes) ≡ Some k → IsOf (class ∷ classes) k
  found_next class classes k later h = by (declared_in methods name desc class) refl h where
    by : (o : Option ℕ) → declared_in methods name desc class ≡ o → option_or o (first_declared methods name desc classes) ≡ Some k → IsOf (class ∷ classes) k
    by (Some j) is h = one_found class classes k (is ∙ h)
    by None is h =
        let s = later h in
        (s.0, (s.1.0, s.1.1, s.1.2, or_true (bytes_eq class s.0.id.class) (list_any (λ c. bytes_eq c s.0.id.class) classes) s.1.3))

  found_in : (classes : List (List ℕ)) (k : ℕ) → first_declared methods name desc classes ≡ Some k → IsOf classes k
  found_in [] k h = absurd cc
  found_in (class ∷ classes) k h = found_next class classes k (found_in classes k) h

  lacks_next : (class : List ℕ) (classes : List (List ℕ)) → first_declared methods name desc (class ∷ classes) ≡ None → (declared_in methods name desc class ≡ None) × (first_declared methods name desc classes ≡ None)
  lacks_next class classes h = by (declared_in methods name desc class) refl h where
    by : (o : Option ℕ) → declared_in methods name desc class ≡ o → option_or o (first_declared methods name desc classes) ≡ None → (declared_in methods name desc class ≡ None) × (first_declared methods name desc classes ≡ None)
    by (Some j) is h = absurd cc
    by None is h = (is, h)

  none_here : (class : List ℕ) (classes : List (List ℕ)) (k : ℕ) (m : ListedMethod) → declared_in methods name desc class ≡ None → (list_any (λ c. bytes_eq c m.id.class) classes ≡ true → ⊥)
      → slice_get methods k ≡ Some m → m.id.name ≡ name → m.id.desc ≡ desc → list_any (λ c. bytes_eq c m.id.class) (class ∷ classes) ≡ true → ⊥
  none_here class classes k m none others there named described some = by (bytes_eq class m.id.class) refl some where
    by : (b : Bool) → bytes_eq class m.id.class ≡ b → (b || list_any (λ c. bytes_eq c m.id.class) classes) ≡ true → ⊥
    by false is some = others some
    by true is some =
        none_stands (λ x. is_method class name desc x.id) 0 methods none k m there
        (is_method_of class name desc m.id (sym ((bytes_eq-Decides class m.id.class).0 is)) named described)

  none_in : (classes : List (List ℕ)) → first_declared methods name desc classes ≡ None → (k : ℕ) (m : ListedMethod)
      → slice_get methods k ≡ Some m → m.id.name ≡ name → m.id.desc ≡ desc → list_any (λ c. bytes_eq c m.id.class) classes ≡ true → ⊥
  none_in [] h k m there named described some = false≢true some
  none_in (class ∷ classes) h k m there named described some =
      let p = lacks_next class classes h in
      none_here class classes k m p.0 (none_in classes p.1 k m there named described) there named described some

pub is_found : (listing : Listing) (class name desc : List ℕ) (result : Option ℕ) → result ≡ nearest listing class name desc → IfSome result (λ index. IsMethodAt listing class name desc index)
is_found listing class name desc None h = tt
is_found listing class name desc (Some k) h =
    let s = found_in listing.methods name desc (looked_in listing class) k (sym h) in
    record { method = s.0; there = s.1.0; named = s.1.1; described = s.1.2; of_these = s.1.3 }

pub is_none : (listing : Listing) (class name desc : List ℕ) (result : Option ℕ) → result ≡ nearest listing class name desc → IfNone result (HasNoMethod listing class name desc)
is_none listing class name desc (Some k) h = tt
is_none listing class name desc None h =
    λ k at. none_in listing.methods name desc (looked_in listing class) (sym h) k at.method at.there at.named at.described at.of_these

pub same_nearest : (listing : Listing) (a class b name c desc : List ℕ) → a ≡ class → b ≡ name → c ≡ desc → nearest listing a b c ≡ nearest listing class name desc
same_nearest listing a class b name c desc p q r =
    ap (λ (x : List ℕ). nearest listing x b c) p ∙ ap (λ (x : List ℕ). nearest listing class x c) q ∙ ap (λ (x : List ℕ). nearest listing class name x) r
