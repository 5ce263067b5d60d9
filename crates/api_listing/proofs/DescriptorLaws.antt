-- What is read of a descriptor is encoded so, and what is encoded so is read.
use Rattle.std.proofs.Common.{◌≡◌, ℕ, suc, zero, ◌+◌, ◌<◌, Bool, true, false, cond, ◌&&◌, List, [], ◌∷◌, ◌++◌, length, drop, Option, Some, None, Ok, Err, refl, sym, ap, subst, ◌∙◌, append_assoc, arith, inl, inr, eqb, ◌⊎◌, ◌≢◌}
use Rattle.std.specs.Prelude.{option_map, ok_or, IfOk, IfSome, IfNone, MatchResult, bytes_eq, codes, replicate}
use Rattle.std.specs.List.{list_all, list_any, flat_map}
use Rattle.std.proofs.lemmas.List.{append-nil}
use Rattle.std.proofs.lemmas.Bool.{ne_eqb, false≢true}
use Rattle.std.proofs.lemmas.Bool.Decides.{eqb_tells}
use Rattle.std.proofs.lemmas.Slice.Eq.{bytes_eq-Decides}
use Rattle.mon_base.specs.Reading.{◌>>=◌, need}
use Rattle.api_listing.specs.declared.descriptor.Element.{Element}
use Rattle.api_listing.specs.declared.descriptor.Element.TheVariants.{Boolean, Byte, Char, Short, Int, Class}
use Rattle.api_listing.specs.declared.descriptor.FieldType.{FieldType}
use Rattle.api_listing.specs.declared.descriptor.MethodType.{MethodType}
use Rattle.api_listing.specs.declared.fault.FormFault.TheVariants.{NoForm, Memory}
use Rattle.api_listing.specs.Words.{is_class_name}
use Rattle.mon_base.specs.Answer.{Answers}
use Rattle.api_listing.specs.Fault.{Read}
use Rattle.api_listing.specs.Descriptor.{class_encoded, element_encoded, type_encoded, result_encoded, is_element, is_type, is_result, EncodesDescriptor, EncodesType, EncodesClass, until, named_only, name_at, class_at, element_at, deeper, flat, type_at, whole_type, result_of, is_closed, arguments_at, after_first, method_type, ended, class_described}
use Rattle.api_listing.proofs.ClassBytes.{class_has_none}

pub both : (a b : Bool) → (a && b) ≡ true → (a ≡ true) × (b ≡ true)
both true true e = (refl, refl)
both true false e = absurd (false≢true e)
both false b e = absurd (false≢true e)

-- what is read, and what stands after it
abbrev read_of : {X : Type 0} → X → List ℕ → Read (X × List ℕ)
read_of x rest = Ok (x, rest)

same_pair : {X : Type 0} (p q : X × List ℕ) → p ≡ q → (p.0 ≡ q.0) × (p.1 ≡ q.1)
same_pair {X = X} p q e = (ap (λ (r : X × List ℕ). r.0) e, ap (λ (r : X × List ℕ). r.1) e)

same_read : {X : Type 0} (a c : X) (b d : List ℕ) → read_of a b ≡ read_of c d → (a ≡ c) × (b ≡ d)
same_read {X = X} a c b d h =
    let p : ◌≡◌ {A = X × List ℕ} (a, b) (c, d) = cc in
    same_pair (a, b) (c, d) p

-- ---- names have no `;`

abbrev has_semicolon : List ℕ → Bool
has_semicolon name = list_any (λ b. eqb b 59) name

-- ---- the next `;`

abbrev onto : ℕ → Option (List ℕ × List ℕ) → Option (List ℕ × List ℕ)
onto b read = option_map (λ r. (b ∷ r.0, r.1)) read

until_next : (b : ℕ) (bytes name rest : List ℕ) → ((n r : List ℕ) → until 59 bytes ≡ Some (n, r) → bytes ≡ n ++ 59 ∷ r) → until 59 (b ∷ bytes) ≡ Some (name, rest) → b ∷ bytes ≡ name ++ 59 ∷ rest
until_next b bytes name rest others e = by (eqb_tells b 59) where
  later : (read : Option (List ℕ × List ℕ)) → until 59 bytes ≡ read → onto b read ≡ Some (name, rest) → b ∷ bytes ≡ name ++ 59 ∷ rest
  later None is h = absurd cc
  later (Some r) is h =
      let inner = others r.0 r.1 is in
      let same : ◌≡◌ {A = List ℕ × List ℕ} (b ∷ r.0, r.1) (name, rest) = cc in
      let front : b ∷ r.0 ≡ name = ap (λ (x : List ℕ × List ℕ). x.0) same in
      let back : r.1 ≡ rest = ap (λ (x : List ℕ × List ℕ). x.1) same in
      ap (λ (t : List ℕ). b ∷ t) inner ∙ ap (λ (t : List ℕ). t ++ 59 ∷ r.1) front ∙ ap (λ (t : List ℕ). name ++ 59 ∷ t) back

  by : ((eqb b 59 ≡ true) × (b ≡ 59)) ⊎ ((eqb b 59 ≡ false) × (b ≢ 59)) → b ∷ bytes ≡ name ++ 59 ∷ rest
  by (inl p) =
      let h = rw p.0 at e in
      let same : ◌≡◌ {A = List ℕ × List ℕ} ([], bytes) (name, rest) = cc in
      let front : [] ≡ name = ap (λ (x : List ℕ × List ℕ). x.0) same in
      let back : bytes ≡ rest = ap (λ (x : List ℕ × List ℕ). x.1) same in
      ap (λ (x : ℕ). x ∷ bytes) p.1 ∙ ap (λ (t : List ℕ). 59 ∷ t) back ∙ ap (λ (t : List ℕ). t ++ 59 ∷ rest) front
  by (inr p) = later (until 59 bytes) refl (rw p.0 at e)

until_found : (bytes name rest : List ℕ) → until 59 bytes ≡ Some (name, rest) → bytes ≡ name ++ 59 ∷ rest
until_found [] name rest e = absurd cc
until_found (b ∷ bytes) name rest e = until_next b bytes name rest (until_found bytes) e

until_more : (b : ℕ) (bytes rest : List ℕ) → (has_semicolon bytes ≡ false → until 59 (bytes ++ 59 ∷ rest) ≡ Some (bytes, rest)) → has_semicolon (b ∷ bytes) ≡ false → until 59 (b ∷ (bytes ++ 59 ∷ rest)) ≡ Some (b ∷ bytes, rest)
until_more b bytes rest others none = by (eqb_tells b 59) where
  by : ((eqb b 59 ≡ true) × (b ≡ 59)) ⊎ ((eqb b 59 ≡ false) × (b ≢ 59)) → until 59 (b ∷ (bytes ++ 59 ∷ rest)) ≡ Some (b ∷ bytes, rest)
  by (inl p) = absurd (false≢true (sym none ∙ rw p.0 refl))
  by (inr p) =
      let inner : has_semicolon bytes ≡ false = rw p.0 at none in
      rw (p.0, others inner) refl

until_again : (name rest : List ℕ) → has_semicolon name ≡ false → until 59 (name ++ 59 ∷ rest) ≡ Some (name, rest)
until_again [] rest none = refl
until_again (b ∷ bytes) rest none = until_more b bytes rest (until_again bytes rest) none

-- ---- names

pub name_found : (bytes name rest : List ℕ) → name_at bytes ≡ Some (name, rest) → (bytes ≡ name ++ 59 ∷ rest) × (is_class_name name ≡ true)
name_found bytes name rest e = by (until 59 bytes) refl e where
  when : (r : List ℕ × List ℕ) (named : Bool) → is_class_name r.0 ≡ named → until 59 bytes ≡ Some r → cond named (Some r) None ≡ Some (name, rest) → (bytes ≡ name ++ 59 ∷ rest) × (is_class_name name ≡ true)
  when r false is was h = absurd cc
  when r true is was h =
      let same : ◌≡◌ {A = List ℕ × List ℕ} r (name, rest) = cc in
      let front : r.0 ≡ name = ap (λ (x : List ℕ × List ℕ). x.0) same in
      (until_found bytes name rest (was ∙ h), ap is_class_name (sym front) ∙ is)

  by : (read : Option (List ℕ × List ℕ)) → until 59 bytes ≡ read → named_only read ≡ Some (name, rest) → (bytes ≡ name ++ 59 ∷ rest) × (is_class_name name ≡ true)
  by None is h = absurd cc
  by (Some r) is h = when r (is_class_name r.0) refl is h

pub name_again : (name rest : List ℕ) → is_class_name name ≡ true → name_at (name ++ 59 ∷ rest) ≡ Some (name, rest)
name_again name rest named =
    rw (until_again name rest (class_has_none 59 refl refl name named), named) refl

abbrev as_class : Option (List ℕ × List ℕ) → Read (Element × List ℕ)
as_class read = ok_or (option_map (λ r. (Class r.0, r.1)) read) NoForm

class_found : (rest following : List ℕ) (e : Element) → class_at rest ≡ Ok (e, following) → (76 ∷ rest ≡ element_encoded e ++ following) × (is_element e ≡ true)
unfolding class_at
class_found rest following e h = by (name_at rest) refl h where
  by : (read : Option (List ℕ × List ℕ)) → name_at rest ≡ read → as_class read ≡ read_of e following → (76 ∷ rest ≡ element_encoded e ++ following) × (is_element e ≡ true)
  by None is h = absurd cc
  by (Some r) is h =
      let found = name_found rest r.0 r.1 is in
      let same = same_read (Class r.0) e r.1 following h in
      let element = same.0 in
      let back = same.1 in
      let encoded : 76 ∷ rest ≡ element_encoded (Class r.0) ++ r.1 = ap (λ (t : List ℕ). 76 ∷ t) found.0 ∙ ap (λ (t : List ℕ). 76 ∷ t) (sym (append_assoc r.0 (59 ∷ []) r.1)) in
      (encoded ∙ ap (λ (x : Element). element_encoded x ++ r.1) element ∙ ap (λ (t : List ℕ). element_encoded e ++ t) back, sym (ap is_element element) ∙ found.1)

-- one letter, and what is read where it is another
letter : (first code : ℕ) (rest following : List ℕ) (e x : Element) (others : Read (Element × List ℕ)) → element_encoded x ≡ code ∷ [] → is_element x ≡ true
    → (others ≡ Ok (e, following) → (first ∷ rest ≡ element_encoded e ++ following) × (is_element e ≡ true))
    → cond (eqb first code) (Ok (x, rest)) others ≡ Ok (e, following) → (first ∷ rest ≡ element_encoded e ++ following) × (is_element e ≡ true)
letter first code rest following e x others encoded good later h = by (eqb_tells first code) where
  by : ((eqb first code ≡ true) × (first ≡ code)) ⊎ ((eqb first code ≡ false) × (first ≢ code)) → (first ∷ rest ≡ element_encoded e ++ following) × (is_element e ≡ true)
  by (inl p) =
      let was : read_of x rest ≡ read_of e following = rw p.0 at h in
      let same = same_read x e rest following was in
      let element = same.0 in
      let back = same.1 in
      (ap (λ (n : ℕ). n ∷ rest) p.1 ∙ ap (λ (t : List ℕ). t ++ rest) (sym encoded) ∙ ap (λ (y : Element). element_encoded y ++ rest) element ∙ ap (λ (t : List ℕ). element_encoded e ++ t) back, sym (ap is_element element) ∙ good)
  by (inr p) = later (rw p.0 at h)

none_read : {X : Type 0} (x : X) (rest : List ℕ) → Err NoForm ≡ read_of x rest → ⊥
none_read x rest h = cc

last_letter : (first : ℕ) (rest following : List ℕ) (e : Element) → cond (eqb first 76) (class_at rest) (Err NoForm) ≡ Ok (e, following) → (first ∷ rest ≡ element_encoded e ++ following) × (is_element e ≡ true)
last_letter first rest following e h = by (eqb_tells first 76) where
  by : ((eqb first 76 ≡ true) × (first ≡ 76)) ⊎ ((eqb first 76 ≡ false) × (first ≢ 76)) → (first ∷ rest ≡ element_encoded e ++ following) × (is_element e ≡ true)
  by (inl p) =
      let found = class_found rest following e (rw p.0 at h) in
      (ap (λ (n : ℕ). n ∷ rest) p.1 ∙ found.0, found.1)
  by (inr p) =
      absurd (none_read e following (rw p.0 at h))

element_found : (first : ℕ) (rest following : List ℕ) (e : Element) → element_at first rest ≡ Ok (e, following) → (first ∷ rest ≡ element_encoded e ++ following) × (is_element e ≡ true)
unfolding element_at
element_found first rest following e h =
    letter first 90 rest following e Boolean _ refl refl
    (letter first 66 rest following e Byte _ refl refl
    (letter first 67 rest following e Char _ refl refl
    (letter first 83 rest following e Short _ refl refl
    (letter first 73 rest following e Int _ refl refl (last_letter first rest following e))))) h

-- ---- types

deeper_encoded : (t : FieldType) (following : List ℕ) → 91 ∷ (type_encoded t ++ following) ≡ type_encoded (deeper 1 (t, following)).0 ++ following
deeper_encoded t following =
    let n : 1 + t.dimensions ≡ suc t.dimensions = omega arith in
    rw n refl

type_next : (b : ℕ) (bytes following : List ℕ) (t : FieldType) → ((u : FieldType) (r : List ℕ) → type_at bytes ≡ Ok (u, r) → (bytes ≡ type_encoded u ++ r) × (is_type u ≡ true))
    → type_at (b ∷ bytes) ≡ Ok (t, following) → (b ∷ bytes ≡ type_encoded t ++ following) × (is_type t ≡ true)
unfolding type_at
type_next b bytes following t others h = by (eqb_tells b 91) where
  later : (read : Read (FieldType × List ℕ)) → type_at bytes ≡ read → (read >>= λ r. Ok (deeper 1 r)) ≡ Ok (t, following) → (91 ∷ bytes ≡ type_encoded t ++ following) × (is_type t ≡ true)
  later (Err e) is h = absurd cc
  later (Ok r) is h =
      let inner = others r.0 r.1 is in
      let is_read = same_read (deeper 1 r).0 t r.1 following h in
      let same = is_read.0 in
      let back = is_read.1 in
      (ap (λ (x : List ℕ). 91 ∷ x) inner.0 ∙ deeper_encoded r.0 r.1 ∙ ap (λ (u : FieldType). type_encoded u ++ r.1) same ∙ ap (λ (x : List ℕ). type_encoded t ++ x) back, sym (ap is_type same) ∙ inner.1)

  here : (read : Read (Element × List ℕ)) → element_at b bytes ≡ read → (read >>= λ r. Ok (flat r)) ≡ Ok (t, following) → (b ∷ bytes ≡ type_encoded t ++ following) × (is_type t ≡ true)
  here (Err e) is h = absurd cc
  here (Ok r) is h =
      let inner = element_found b bytes r.1 r.0 is in
      let is_read = same_read (flat r).0 t r.1 following h in
      let same = is_read.0 in
      let back = is_read.1 in
      (inner.0 ∙ ap (λ (u : FieldType). type_encoded u ++ r.1) same ∙ ap (λ (x : List ℕ). type_encoded t ++ x) back, sym (ap is_type same) ∙ inner.1)

  by : ((eqb b 91 ≡ true) × (b ≡ 91)) ⊎ ((eqb b 91 ≡ false) × (b ≢ 91)) → (b ∷ bytes ≡ type_encoded t ++ following) × (is_type t ≡ true)
  by (inl p) =
      let found = later (type_at bytes) refl (rw p.0 at h) in
      (ap (λ (n : ℕ). n ∷ bytes) p.1 ∙ found.0, found.1)
  by (inr p) = here (element_at b bytes) refl (rw p.0 at h)

pub type_found : (bytes following : List ℕ) (t : FieldType) → type_at bytes ≡ Ok (t, following) → (bytes ≡ type_encoded t ++ following) × (is_type t ≡ true)
unfolding type_at
type_found [] following t h = absurd cc
type_found (b ∷ bytes) following t h = type_next b bytes following t (λ u r. type_found bytes r u) h

element_again : (e : Element) (following : List ℕ) → is_element e ≡ true → type_at (element_encoded e ++ following) ≡ Ok (flat (e, following))
unfolding type_at element_at class_at
element_again Boolean following good = refl
element_again Byte following good = refl
element_again Char following good = refl
element_again Short following good = refl
element_again Int following good = refl
element_again (Class name) following good =
    let around : (name ++ 59 ∷ []) ++ following ≡ name ++ 59 ∷ following = append_assoc name (59 ∷ []) following in
    rw (around, name_again name following good) refl

dimensions_again : (n : ℕ) (e : Element) (following : List ℕ) → is_element e ≡ true → type_at (replicate n 91 ++ (element_encoded e ++ following)) ≡ Ok (record { dimensions = n; element = e }, following)
unfolding type_at
dimensions_again zero e following good = element_again e following good
dimensions_again (suc n) e following good =
    let k : 1 + n ≡ suc n = omega arith in
    rw (dimensions_again n e following good) (ap (λ (d : ℕ). Ok (record { dimensions = d; element = e }, following)) k)

pub type_again : (t : FieldType) (following : List ℕ) → is_type t ≡ true → type_at (type_encoded t ++ following) ≡ Ok (t, following)
type_again t following good =
    rw (append_assoc (replicate t.dimensions 91) (element_encoded t.element) following) (dimensions_again t.dimensions t.element following good)

-- ---- arguments

eqb_is : (a b : ℕ) → eqb a b ≡ true → a ≡ b
eqb_is a b e = by (eqb_tells a b) where
  by : ((eqb a b ≡ true) × (a ≡ b)) ⊎ ((eqb a b ≡ false) × (a ≢ b)) → a ≡ b
  by (inl p) = p.1
  by (inr p) = absurd (false≢true (sym p.0 ∙ e))

arguments_next : (n : ℕ) (bytes following : List ℕ) (ts : List FieldType)
    → ((bs r : List ℕ) (us : List FieldType) → arguments_at n bs ≡ read_of us r → (bs ≡ flat_map type_encoded us ++ 41 ∷ r) × (length us < n) × (list_all is_type us ≡ true))
    → arguments_at (suc n) bytes ≡ read_of ts following → (bytes ≡ flat_map type_encoded ts ++ 41 ∷ following) × (length ts < suc n) × (list_all is_type ts ≡ true)
unfolding arguments_at
arguments_next n bytes following ts others h = by (is_closed bytes) refl h where
  closed_is : (bs : List ℕ) → is_closed bs ≡ true → bs ≡ 41 ∷ drop 1 bs
  closed_is [] e = absurd (false≢true e)
  closed_is (b ∷ bs) e = ap (λ (x : ℕ). x ∷ bs) (eqb_is b 41 e)

  more : (t : FieldType × List ℕ) (read : Read (List FieldType × List ℕ)) → type_at bytes ≡ Ok t → arguments_at n t.1 ≡ read → (read >>= λ others. Ok (t.0 ∷ others.0, others.1)) ≡ read_of ts following
      → (bytes ≡ flat_map type_encoded ts ++ 41 ∷ following) × (length ts < suc n) × (list_all is_type ts ≡ true)
  more t (Err e) first is h = absurd cc
  more t (Ok r) first is h =
      let found = type_found bytes t.1 t.0 first in
      let rest = others t.1 r.1 r.0 is in
      let same = same_read (t.0 ∷ r.0) ts r.1 following h in
      let encoded : bytes ≡ flat_map type_encoded (t.0 ∷ r.0) ++ 41 ∷ r.1 =
      found.0 ∙ ap (λ (x : List ℕ). type_encoded t.0 ++ x) rest.0 ∙ sym (append_assoc (type_encoded t.0) (flat_map type_encoded r.0) (41 ∷ r.1)) in
      let long : length (t.0 ∷ r.0) < suc n = omega (arith, rest.1) in
      let good : list_all is_type (t.0 ∷ r.0) ≡ true = rw (found.1, rest.2) refl in (
        encoded ∙ ap (λ (us : List FieldType). flat_map type_encoded us ++ 41 ∷ r.1) same.0 ∙ ap (λ (x : List ℕ). flat_map type_encoded ts ++ 41 ∷ x) same.1,
        subst (λ (us : List FieldType). length us < suc n) same.0 long,
        sym (ap (list_all is_type) same.0) ∙ good,
      )

  first_is : (read : Read (FieldType × List ℕ)) → type_at bytes ≡ read → (read >>= λ first. arguments_at n first.1 >>= λ others. Ok (first.0 ∷ others.0, others.1)) ≡ read_of ts following
      → (bytes ≡ flat_map type_encoded ts ++ 41 ∷ following) × (length ts < suc n) × (list_all is_type ts ≡ true)
  first_is (Err e) is h = absurd cc
  first_is (Ok t) is h = more t (arguments_at n t.1) is refl h

  by : (b : Bool) → is_closed bytes ≡ b → cond b (Ok ([], drop 1 bytes)) (type_at bytes >>= λ first. arguments_at n first.1 >>= λ others. Ok (first.0 ∷ others.0, others.1)) ≡ read_of ts following
      → (bytes ≡ flat_map type_encoded ts ++ 41 ∷ following) × (length ts < suc n) × (list_all is_type ts ≡ true)
  by false is h = first_is (type_at bytes) refl h
  by true is h =
      let same = same_read [] ts (drop 1 bytes) following h in
      let short : 0 < suc n = omega arith in (
        closed_is bytes is ∙ ap (λ (us : List FieldType). flat_map type_encoded us ++ 41 ∷ drop 1 bytes) same.0 ∙ ap (λ (x : List ℕ). flat_map type_encoded ts ++ 41 ∷ x) same.1,
        subst (λ (us : List FieldType). length us < suc n) same.0 short,
        sym (ap (list_all is_type) same.0),
      )

pub arguments_found : (n : ℕ) (bytes following : List ℕ) (ts : List FieldType) → arguments_at n bytes ≡ read_of ts following
    → (bytes ≡ flat_map type_encoded ts ++ 41 ∷ following) × (length ts < n) × (list_all is_type ts ≡ true)
unfolding arguments_at
arguments_found zero bytes following ts h = absurd (none_read ts following h)
arguments_found (suc n) bytes following ts h = arguments_next n bytes following ts (arguments_found n) h

-- what begins a type closes no list of types
unclosed : (t : FieldType) (following : List ℕ) → is_closed (type_encoded t ++ following) ≡ false
unclosed t following = by t.dimensions t.element where
  by : (n : ℕ) (e : Element) → is_closed ((replicate n 91 ++ element_encoded e) ++ following) ≡ false
  by (suc n) e = refl
  by zero Boolean = refl
  by zero Byte = refl
  by zero Char = refl
  by zero Short = refl
  by zero Int = refl
  by zero (Class name) = refl

pub arguments_again : (n : ℕ) (ts : List FieldType) (following : List ℕ) → length ts < n → list_all is_type ts ≡ true
    → arguments_at n (flat_map type_encoded ts ++ 41 ∷ following) ≡ read_of ts following
unfolding arguments_at
arguments_again zero ts following lt good = absurd (omega arith)
arguments_again (suc n) [] following lt good = refl
arguments_again (suc n) (t ∷ ts) following lt good =
    let p = both (is_type t) (list_all is_type ts) good in
    let later = arguments_again n ts following (omega arith) p.1 in
    rw (append_assoc (type_encoded t) (flat_map type_encoded ts) (41 ∷ following), unclosed t (flat_map type_encoded ts ++ 41 ∷ following), type_again t (flat_map type_encoded ts ++ 41 ∷ following) p.0, later) refl

-- ---- results

none_whole : (t : FieldType) → ◌≡◌ {A = Read FieldType} (Err NoForm) (Ok t) → ⊥
none_whole t h = cc

whole_found : (bytes : List ℕ) (t : FieldType) → whole_type bytes ≡ Ok t → (bytes ≡ type_encoded t) × (is_type t ≡ true)
unfolding whole_type
whole_found bytes t h = by (type_at bytes) refl h where
  ended_at : (r : FieldType × List ℕ) (rest : List ℕ) → r.1 ≡ rest → type_at bytes ≡ Ok r → (need (eqb (length rest) 0) NoForm >>= λ end. Ok r.0) ≡ Ok t → (bytes ≡ type_encoded t) × (is_type t ≡ true)
  ended_at r (x ∷ xs) left is h =
      let apart : eqb (length (x ∷ xs)) 0 ≡ false = ne_eqb (length (x ∷ xs)) 0 (λ e. omega arith) in
      absurd (none_whole t (rw apart at h))
  ended_at r [] left is h =
      let found = type_found bytes r.1 r.0 is in
      let same : r.0 ≡ t = cc in
      (found.0 ∙ ap (λ (x : List ℕ). type_encoded r.0 ++ x) left ∙ append-nil (type_encoded r.0) ∙ ap type_encoded same, sym (ap is_type same) ∙ found.1)

  by : (read : Read (FieldType × List ℕ)) → type_at bytes ≡ read → (read >>= λ r. need (eqb (length r.1) 0) NoForm >>= λ end. Ok r.0) ≡ Ok t → (bytes ≡ type_encoded t) × (is_type t ≡ true)
  by (Err e) is h = absurd cc
  by (Ok r) is h = ended_at r r.1 refl is h

whole_again : (t : FieldType) → is_type t ≡ true → whole_type (type_encoded t) ≡ Ok t
unfolding whole_type
whole_again t good =
    let read : type_at (type_encoded t) ≡ Ok (t, []) = ap type_at (sym (append-nil (type_encoded t))) ∙ type_again t [] good in
    rw read refl

some_found : (bytes : List ℕ) (r : Option FieldType) (read : Read FieldType) → whole_type bytes ≡ read → (read >>= λ t. Ok (Some t)) ≡ Ok r → (bytes ≡ result_encoded r) × (is_result r ≡ true)
some_found bytes r (Err e) is h = absurd cc
some_found bytes None (Ok t) is h = absurd cc
some_found bytes (Some u) (Ok t) is h =
    let same : t ≡ u = cc in
    let found = whole_found bytes t is in
    (found.0 ∙ ap type_encoded same, sym (ap is_type same) ∙ found.1)

result_found : (bytes : List ℕ) (r : Option FieldType) → result_of bytes ≡ Ok r → (bytes ≡ result_encoded r) × (is_result r ≡ true)
unfolding result_of
result_found bytes r h = by (bytes_eq bytes (codes "V")) refl h where
  by : (b : Bool) → bytes_eq bytes (codes "V") ≡ b → cond b (Ok None) (whole_type bytes >>= λ t. Ok (Some t)) ≡ Ok r → (bytes ≡ result_encoded r) × (is_result r ≡ true)
  by true is h =
      let same : None ≡ r = cc in
      ((bytes_eq-Decides bytes (codes "V")).0 is ∙ ap result_encoded same, sym (ap is_result same))
  by false is h = some_found bytes r (whole_type bytes) refl h

not_void : (t : FieldType) → bytes_eq (type_encoded t) (codes "V") ≡ false
not_void t = by t.dimensions t.element where
  by : (n : ℕ) (e : Element) → bytes_eq (replicate n 91 ++ element_encoded e) (codes "V") ≡ false
  by (suc n) e = refl
  by zero Boolean = refl
  by zero Byte = refl
  by zero Char = refl
  by zero Short = refl
  by zero Int = refl
  by zero (Class name) = refl

result_again : (r : Option FieldType) → is_result r ≡ true → result_of (result_encoded r) ≡ Ok r
unfolding result_of
result_again None good = refl
result_again (Some t) good = rw (not_void t, whole_again t good) refl

-- ---- methods

abbrev made : List FieldType → Option FieldType → MethodType
made arguments result = record { arguments = arguments; result = result }

none_method : (m : MethodType) → ◌≡◌ {A = Read MethodType} (Err NoForm) (Ok m) → ⊥
none_method m h = cc

opened : (first : ℕ) (rest : List ℕ) (m : MethodType) → after_first first rest ≡ Ok m → EncodesDescriptor (first ∷ rest) m
unfolding after_first
opened first rest m h = by (eqb_tells first 40) where
  with_result : (ts : List FieldType × List ℕ) (read : Read (Option FieldType)) → first ≡ 40 → arguments_at 256 rest ≡ Ok ts → result_of ts.1 ≡ read → (read >>= λ r. Ok (made ts.0 r)) ≡ Ok m → EncodesDescriptor (first ∷ rest) m
  with_result ts (Err e) bracket is given h = absurd cc
  with_result ts (Ok r) bracket is given h =
      let found = arguments_found 256 rest ts.1 ts.0 is in
      let after = result_found ts.1 r given in
      let same : made ts.0 r ≡ m = cc in
      subst (EncodesDescriptor (first ∷ rest)) same (record {
        encoded = ap (λ (x : ℕ). x ∷ rest) bracket ∙ ap (λ (t : List ℕ). 40 ∷ t) found.0 ∙ ap (λ (t : List ℕ). 40 ∷ (flat_map type_encoded ts.0 ++ 41 ∷ t)) after.0;
        places = omega (arith, found.1);
        arguments = found.2;
        result = after.1;
      })

  with_arguments : (read : Read (List FieldType × List ℕ)) → first ≡ 40 → arguments_at 256 rest ≡ read → (read >>= λ ts. result_of ts.1 >>= λ r. Ok (made ts.0 r)) ≡ Ok m → EncodesDescriptor (first ∷ rest) m
  with_arguments (Err e) bracket is h = absurd cc
  with_arguments (Ok ts) bracket is h = with_result ts (result_of ts.1) bracket is refl h

  by : ((eqb first 40 ≡ true) × (first ≡ 40)) ⊎ ((eqb first 40 ≡ false) × (first ≢ 40)) → EncodesDescriptor (first ∷ rest) m
  by (inl p) = with_arguments (arguments_at 256 rest) p.1 refl (rw p.0 at h)
  by (inr p) = absurd (none_method m (rw p.0 at h))

pub method_found : (text : List ℕ) (m : MethodType) → method_type text ≡ Ok m → EncodesDescriptor text m
unfolding method_type
method_found [] m h = absurd cc
method_found (b ∷ bytes) m h = opened b bytes m h

pub method_again : (text : List ℕ) (m : MethodType) → EncodesDescriptor text m → method_type text ≡ Ok m
unfolding method_type after_first
method_again text m s =
    let few : length m.arguments < 256 = omega (arith, s.places) in
    rw (s.encoded, arguments_again 256 m.arguments (result_encoded m.result) few s.arguments, result_again m.result s.result) refl

-- ---- fields

none_named : (name : List ℕ) → ◌≡◌ {A = Option (List ℕ)} None (Some name) → ⊥
none_named name h = cc

pub class_descriptor_found : (text name : List ℕ) → class_described text ≡ Some name → EncodesClass text name
class_descriptor_found [] name h = absurd cc
class_descriptor_found (first ∷ rest) name h = by (eqb_tells first 76) where
  last : (r : List ℕ × List ℕ) (following : List ℕ) → r.1 ≡ following → name_at rest ≡ Some r → first ≡ 76 → cond (eqb (length following) 0) (Some r.0) None ≡ Some name → EncodesClass (first ∷ rest) name
  last r (x ∷ xs) left is letter h =
      let apart : eqb (length (x ∷ xs)) 0 ≡ false = ne_eqb (length (x ∷ xs)) 0 (λ e. omega arith) in
      absurd (none_named name (rw apart at h))
  last r [] left is letter h =
      let found = name_found rest r.0 r.1 is in
      let same : r.0 ≡ name = cc in
      record {
        encoded = ap (λ (x : ℕ). x ∷ rest) letter ∙ ap (λ (t : List ℕ). 76 ∷ t) found.0 ∙ ap (λ (t : List ℕ). 76 ∷ (r.0 ++ 59 ∷ t)) left ∙ ap class_encoded same;
        named = sym (ap is_class_name same) ∙ found.1;
      }

  ends : (read : Option (List ℕ × List ℕ)) → name_at rest ≡ read → first ≡ 76 → ended read ≡ Some name → EncodesClass (first ∷ rest) name
  ends None is letter h = absurd cc
  ends (Some r) is letter h = last r r.1 refl is letter h

  by : ((eqb first 76 ≡ true) × (first ≡ 76)) ⊎ ((eqb first 76 ≡ false) × (first ≢ 76)) → EncodesClass (first ∷ rest) name
  by (inl p) = ends (name_at rest) refl p.1 (rw p.0 at h)
  by (inr p) = absurd (none_named name (rw p.0 at h))

pub class_descriptor_again : (text name : List ℕ) → EncodesClass text name → class_described text ≡ Some name
class_descriptor_again text name s = rw (s.encoded, name_again name [] s.named) refl

-- ---- calls that answer what is read

abbrev typed : MethodType → Read MethodType
typed m = Ok m

whole_is : (a b : MethodType) → typed a ≡ typed b → a ≡ b
whole_is a b h = cc

pub answer_found : (text : List ℕ) (result : Read MethodType) → Answers Memory result (method_type text) → IfOk result (λ m. EncodesDescriptor text m)
answer_found text (Ok m) h = method_found text m h
answer_found text (Err e) h = tt

pub answer_only : (text : List ℕ) (result : Read MethodType) → Answers Memory result (method_type text) → (m : MethodType) → EncodesDescriptor text m → MatchResult result (λ r. r ≡ m) (λ e. e ≡ Memory)
answer_only text (Ok r) h m s = whole_is r m (sym h ∙ method_again text m s)
answer_only text (Err Memory) h m s = refl
answer_only text (Err NoForm) h m s = absurd (none_method m (sym (h (λ same. cc)) ∙ method_again text m s))

pub type_answer_found : (text : List ℕ) (result : Read FieldType) → Answers Memory result (whole_type text) → IfOk result (λ t. EncodesType text t)
type_answer_found text (Ok t) h =
    let found = whole_found text t h in
    record { encoded = found.0; named = found.1 }
type_answer_found text (Err e) h = tt

encoded_again : (text : List ℕ) (t : FieldType) → EncodesType text t → whole_type text ≡ Ok t
encoded_again text t s = ap whole_type s.encoded ∙ whole_again t s.named

type_is : (a b : FieldType) → ◌≡◌ {A = Read FieldType} (Ok a) (Ok b) → a ≡ b
type_is a b h = cc

pub type_answer_only : (text : List ℕ) (result : Read FieldType) → Answers Memory result (whole_type text) → (t : FieldType) → EncodesType text t → MatchResult result (λ r. r ≡ t) (λ e. e ≡ Memory)
type_answer_only text (Ok r) h t s = type_is r t (sym h ∙ encoded_again text t s)
type_answer_only text (Err Memory) h t s = refl
type_answer_only text (Err NoForm) h t s = absurd (none_whole t (sym (h (λ same. cc)) ∙ encoded_again text t s))

pub class_answer_found : (text : List ℕ) (result : Option (List ℕ)) → result ≡ class_described text → IfSome result (λ name. EncodesClass text name)
class_answer_found text (Some name) h = class_descriptor_found text name (sym h)
class_answer_found text None h = tt

pub class_answer_none : (text : List ℕ) (result : Option (List ℕ)) → result ≡ class_described text → IfNone result ((name : List ℕ) → EncodesClass text name → ⊥)
class_answer_none text (Some name) h = tt
class_answer_none text None h = λ name s. none_named name (h ∙ class_descriptor_again text name s)
