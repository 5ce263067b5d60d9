-- The index of a method is that of the first of its name.
use Rattle.std.proofs.Common.{◌≡◌, ◌≢◌, ℕ, zero, suc, ◌+◌, ◌<◌, Bool, true, false, List, [], ◌∷◌, Some, refl, sym, ap, subst, ◌∙◌, arith}
use Rattle.std.specs.Prelude.{slice_get}
use Rattle.std.specs.List.{position_from}
use Rattle.std.proofs.lemmas.Bool.{false≢true}
use Rattle.std.proofs.lemmas.Slice.Eq.{bytes_eq-Decides}
use Rattle.mon_base.specs.declared.method.MethodId.{MethodId}
use Rattle.api_listing.specs.BuiltIn.{is_method}
use Rattle.api_listing.specs.declared.types.ListedMethod.{ListedMethod}
use Rattle.event_record.specs.Library.{index_in}
use Rattle.event_record.specs.Encoding.{IsFirst}
use Rattle.event_record.proofs.Found.{either}
use Rattle.event_record.proofs.Naming.{same_id}

some_is : {X : Type 0} {a b : X} → Some a ≡ Some b → a ≡ b
some_is h = cc

module _ (test : ListedMethod → Bool) where
  -- at the place stands the first that passes the test
  record IsFirstAt (methods : List ListedMethod) (place : ℕ) : Type 0 where
    method : ListedMethod
    there : slice_get methods place ≡ Some method
    passes : test method ≡ true
    first : (j : ℕ) (m : ListedMethod) → j < place → slice_get methods j ≡ Some m → test m ≡ false

  later : (x : ListedMethod) (xs : List ListedMethod) (place : ℕ) → test x ≡ false → IsFirstAt xs place → IsFirstAt (x ∷ xs) (suc place)
  later x xs place fails is = record { method = is.method; there = is.there; passes = is.passes; first = before } where
    before : (j : ℕ) (m : ListedMethod) → j < suc place → slice_get (x ∷ xs) j ≡ Some m → test m ≡ false
    before zero m low at = ap test (sym (some_is at)) ∙ fails
    before (suc j) m low at = is.first j m (omega (arith, low)) at

  first_found : (methods : List ListedMethod) (from index : ℕ) → position_from test from methods ≡ Some index → (place : ℕ) × (index ≡ place + from) × IsFirstAt methods place
  first_found [] from index h = absurd cc
  first_found (x ∷ xs) from index h =
      either ((place : ℕ) × (index ≡ place + from) × IsFirstAt (x ∷ xs) place) (test x) (Some from) (position_from test (from + 1) xs) (Some index) h
      (λ t e. (0, omega (arith, some_is e), record { method = x; there = refl; passes = t; first = λ j m low at. absurd (omega (arith, low)) }))
      (λ t e. let rest = first_found xs (from + 1) index e in (suc rest.0, omega (arith, rest.1), later x xs rest.0 t rest.2))

  first_again : (methods : List ListedMethod) (place from : ℕ) (method : ListedMethod) → slice_get methods place ≡ Some method → test method ≡ true
      → ((j : ℕ) (m : ListedMethod) → j < place → slice_get methods j ≡ Some m → test m ≡ false) → position_from test from methods ≡ Some (place + from)
  first_again [] place from method there passes first = absurd cc
  first_again (x ∷ xs) zero from method there passes first =
      let t : test x ≡ true = ap test (some_is there) ∙ passes in
      rw t (ap Some (omega arith))
  first_again (x ∷ xs) (suc place) from method there passes first =
      let t : test x ≡ false = first 0 x (omega arith) refl in
      rw t (first_again xs place (from + 1) method there passes (λ j m low at. first (suc j) m (omega (arith, low)) at) ∙ ap Some (omega arith))

pub is_itself : (id : MethodId) → is_method id.class id.name id.desc id ≡ true
is_itself id =
    rw ((bytes_eq-Decides id.class id.class).1 refl, (bytes_eq-Decides id.name id.name).1 refl, (bytes_eq-Decides id.desc id.desc).1 refl) refl

is_none_of : (id q : MethodId) → id ≢ q → is_method q.class q.name q.desc id ≡ false
is_none_of id q other = by (is_method q.class q.name q.desc id) refl where
  by : (b : Bool) → is_method q.class q.name q.desc id ≡ b → b ≡ false
  by false is = refl
  by true is = absurd (other (same_id id q is))

pub index_is_first : (methods : List ListedMethod) (id : MethodId) (index : ℕ) → index_in methods id ≡ Some index → IsFirst methods id index
index_is_first methods id index h =
    let found = first_found (λ (m : ListedMethod). is_method id.class id.name id.desc m.id) methods 0 index h in
    let same : found.0 ≡ index = omega (arith, found.1) in
    let first : IsFirst methods id found.0 = record {
      method = found.2.method;
      there = found.2.there;
      named = same_id found.2.method.id id found.2.passes;
      first = λ j m low at is. false≢true (sym (found.2.first j m low at) ∙ ap (λ (i : MethodId). is_method id.class id.name id.desc i) is ∙ is_itself id);
    } in
    subst (IsFirst methods id) same first

pub first_is_index : (methods : List ListedMethod) (id : MethodId) (index : ℕ) → IsFirst methods id index → index_in methods id ≡ Some index
first_is_index methods id index is =
    let passes : is_method id.class id.name id.desc is.method.id ≡ true = ap (λ (i : MethodId). is_method id.class id.name id.desc i) is.named ∙ is_itself id in
    first_again (λ (m : ListedMethod). is_method id.class id.name id.desc m.id) methods index 0 is.method is.there passes (λ j m low at. is_none_of m.id id (is.first j m low at)) ∙ ap Some (omega arith)
