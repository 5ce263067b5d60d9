-- Numbers of names and descriptors, and of what each class declares.
use Rattle.std.proofs.Common.{◌≡◌, ℕ, ◌+◌, ◌==◌, Bool, true, false, cond, ◌&&◌, ◌||◌, List, [], ◌∷◌, ◌++◌, Option, Some, None, ◌⊎◌, inl, inr, refl, sym, ap, subst, ◌∙◌, arith}
use Rattle.std.specs.Prelude.{bytes_eq, is_some}
use Rattle.std.specs.BTreeMap.{get, is_at, btree_map_len}
use Rattle.std.specs.Cmp.Lexicographic.{slice_cmp}
use Rattle.std.specs.Map.{lookup}
use Rattle.std.specs.Option.{unwrap_or}
use Rattle.std.specs.Ordering.{is_eq, nat_cmp}
use Rattle.std.proofs.lemmas.Bool.Decides.{nat_tests}
use Rattle.std.proofs.lemmas.Map.Text.{is_eq-slice_cmp}
use Rattle.std.proofs.lemmas.Slice.Eq.{bytes_eq-Decides}
use Rattle.mon_base.specs.declared.method.MethodId.{MethodId}
use Rattle.api_listing.specs.BuiltIn.{is_method}
use Rattle.api_listing.specs.Seen.{id_cmp}
use Rattle.bytecode_model.specs.declared.members.Found.{Found}
use Rattle.bytecode_model.specs.Members.{in_class}
use Rattle.bytecode_model.proofs.Lists.{some_is}
use Rattle.bytecode_model.proofs.Names.{id_cmp-is, same_id}
use Rattle.bytecode_model.proofs.Placing.{same_name, test_cases}
use Rattle.mon_base.specs.Persistent.{has_number}
use Rattle.class_index.specs.Nearest.{Numbers, ByClass, member_number, own_of, AreNumbers}

-- ---- numbers

pub no_numbers : (numbers : Numbers) → numbers.entries ≡ [] → AreNumbers numbers
no_numbers numbers empty = record {
  below = λ q n e.
      let none : ◌≡◌ {A = Option ℕ} None (Some n) = sym (nothing q) ∙ e in
      absurd cc;
  apart = λ p q n e f.
      let none : ◌≡◌ {A = Option ℕ} None (Some n) = sym (nothing p) ∙ e in
      absurd cc;
} where
  nothing : (q : MethodId) → get id_cmp numbers q ≡ None
  nothing q = ap (lookup (is_at (id_cmp q))) empty

-- one number more
pub with_number : (old new : Numbers) (key : MethodId) (number : ℕ) → AreNumbers old → number ≡ btree_map_len old
    → ((q : MethodId) → get id_cmp new q ≡ cond (is_eq (id_cmp key q)) (Some number) (get id_cmp old q)) → btree_map_len new ≡ btree_map_len old + 1 → AreNumbers new
with_number old new key number were is puts more = record {
  below = λ q n e. elim (found q n e) [
    | inl w ↦ omega (arith, w.1, is, more)
    | inr was ↦ omega (arith, were.below q n was, more)
  ];
  apart = λ p q n e f. elim (found p n e) [
    | inl a ↦ elim (found q n f) [
      | inl b ↦ sym a.0 ∙ b.0
      | inr b ↦ absurd (omega (arith, a.1, is, were.below q n b))
    ]
    | inr a ↦ elim (found q n f) [
      | inl b ↦ absurd (omega (arith, b.1, is, were.below p n a))
      | inr b ↦ were.apart p q n a b
    ]
  ];
} where
  found : (q : MethodId) (n : ℕ) → get id_cmp new q ≡ Some n → ((key ≡ q) × (number ≡ n)) ⊎ (get id_cmp old q ≡ Some n)
  found q n e = by (is_method q.class q.name q.desc key) refl (ap (λ (b : Bool). cond b (Some number) (get id_cmp old q)) (sym (id_cmp-is key q)) ∙ sym (puts q) ∙ e) where
    by : (b : Bool) → is_method q.class q.name q.desc key ≡ b → cond b (Some number) (get id_cmp old q) ≡ Some n → ((key ≡ q) × (number ≡ n)) ⊎ (get id_cmp old q ≡ Some n)
    by true same t = inl (same_id key q same, some_is number n t)
    by false same t = inr t

-- ---- truth values

two_ways : (a b : Bool) → (a ≡ true → b ≡ true) → (b ≡ true → a ≡ true) → a ≡ b
two_ways true b there back = sym (there refl)
two_ways false true there back = back refl
two_ways false false there back = refl

both : (a b : Bool) → (a && b) ≡ true → (a ≡ true) × (b ≡ true)
both true b e = (refl, e)
both false b e = absurd cc

or_false : (a : Bool) → a ≡ (a || false)
or_false true = refl
or_false false = refl

same_number : (m n : ℕ) → (m == n) ≡ true → m ≡ n
same_number m n e = grind (arith, nat_tests)

number_itself : (n : ℕ) → (n == n) ≡ true
number_itself n = grind (arith, nat_tests)

same_as_itself : (name : List ℕ) → bytes_eq name name ≡ true
same_as_itself name = (bytes_eq-Decides name name).1 refl

id_itself : (id : MethodId) → is_eq (id_cmp id id) ≡ true
id_itself id =
    let class = same_as_itself id.class in
    let name = same_as_itself id.name in
    let desc = same_as_itself id.desc in
    id_cmp-is id id ∙ rw (class, name, desc) refl

-- ---- what each class declares

module _ (numbers : Numbers) (numbered : AreNumbers numbers) where
  -- of members with numbers, class and number tell which is meant
  same_member : (q id : MethodId) (n number : ℕ) → member_number numbers q ≡ Some n → member_number numbers id ≡ Some number → (bytes_eq id.class q.class && n == number) ≡ is_eq (id_cmp q id)
  same_member q id n number e f = two_ways (bytes_eq id.class q.class && n == number) (is_eq (id_cmp q id)) there back where
    there : (bytes_eq id.class q.class && n == number) ≡ true → is_eq (id_cmp q id) ≡ true
    there t =
        let parts = both (bytes_eq id.class q.class) (n == number) t in
        let class : id.class ≡ q.class = same_name id.class q.class parts.0 in
        let is : n ≡ number = same_number n number parts.1 in
        let alike : in_class id [] ≡ in_class q [] = numbered.apart (in_class id []) (in_class q []) number f (e ∙ ap Some is) in
        let same : id ≡ q = ap (λ (x : MethodId). in_class x id.class) alike ∙ ap (in_class q) class in
        subst (λ (x : MethodId). is_eq (id_cmp q x) ≡ true) (sym same) (id_itself q)

    back : is_eq (id_cmp q id) ≡ true → (bytes_eq id.class q.class && n == number) ≡ true
    back t =
        let same : q ≡ id = same_id q id (sym (id_cmp-is q id) ∙ t) in
        let is : number ≡ n = some_is number n (sym f ∙ ap (member_number numbers) (sym same) ∙ e) in
        ap (λ (x : MethodId). bytes_eq id.class x.class && n == number) same
        ∙ ap (λ (b : Bool). b && n == number) (same_as_itself id.class) ∙ ap (λ (m : ℕ). n == m) is ∙ number_itself n

  -- one declaration more
  pub own_more : (old new : ByClass) (id : MethodId) (number : ℕ) → member_number numbers id ≡ Some number
      → ((q : List ℕ) (n : ℕ) → has_number (own_of new q) n ≡ (has_number (own_of old q) n || (bytes_eq id.class q && n == number)))
      → (q : MethodId) (n : ℕ) → member_number numbers q ≡ Some n → has_number (own_of new q.class) n ≡ (has_number (own_of old q.class) n || is_eq (id_cmp q id))
  own_more old new id number f puts q n e = puts q.class n ∙ ap (λ (b : Bool). has_number (own_of old q.class) n || b) (same_member q id n number e f)

  -- and one without a number
  pub own_same : (old : ByClass) (id : MethodId) → member_number numbers id ≡ None
      → (q : MethodId) (n : ℕ) → member_number numbers q ≡ Some n → has_number (own_of old q.class) n ≡ (has_number (own_of old q.class) n || is_eq (id_cmp q id))
  own_same old id none q n e = or_false (has_number (own_of old q.class) n) ∙ ap (λ (b : Bool). has_number (own_of old q.class) n || b) (sym other) where
    other : is_eq (id_cmp q id) ≡ false
    other = test_cases (is_eq (id_cmp q id)) (λ b. b ≡ false)
        (λ t.
        let same : q ≡ id = same_id q id (sym (id_cmp-is q id) ∙ t) in
        let gone : ◌≡◌ {A = Option ℕ} None (Some n) = sym none ∙ ap (member_number numbers) (sym same) ∙ e in
        absurd cc)
        (λ f. refl)

number_pushed : (xs : List ℕ) (n number : ℕ) → has_number (xs ++ number ∷ []) n ≡ (has_number xs n || n == number)
number_pushed [] n number = sym (or_false (n == number))
number_pushed (x ∷ xs) n number = by (n == x) (number_pushed xs n number) where
  by : (b : Bool) → has_number (xs ++ number ∷ []) n ≡ (has_number xs n || n == number) → (b || has_number (xs ++ number ∷ []) n) ≡ ((b || has_number xs n) || n == number)
  by true e = refl
  by false e = e

-- the numbers of a class, with one more, are put back
pub own_put : (old mid new : ByClass) (class : List ℕ) (numbers : List ℕ) (number : ℕ) → numbers ≡ own_of old class ++ number ∷ []
    → ((q : List ℕ) → own_of mid q ≡ cond (bytes_eq class q) [] (own_of old q))
    → ((q : List ℕ) → get (slice_cmp nat_cmp) new q ≡ cond (is_eq (slice_cmp nat_cmp class q)) (Some numbers) (get (slice_cmp nat_cmp) mid q))
    → (q : List ℕ) (n : ℕ) → has_number (own_of new q) n ≡ (has_number (own_of old q) n || (bytes_eq class q && n == number))
own_put old mid new class numbers number is left puts q n =
    ap (λ (o : Option (List ℕ)). has_number (unwrap_or o []) n) (puts q ∙ ap (λ (b : Bool). cond b (Some numbers) (get (slice_cmp nat_cmp) mid q)) (is_eq-slice_cmp class q))
    ∙ by (bytes_eq class q) refl (left q) where
      by : (b : Bool) → bytes_eq class q ≡ b → own_of mid q ≡ cond b [] (own_of old q)
          → has_number (unwrap_or (cond b (Some numbers) (get (slice_cmp nat_cmp) mid q)) []) n ≡ (has_number (own_of old q) n || (b && n == number))
      by true same e =
          ap (λ (xs : List ℕ). has_number xs n) is ∙ number_pushed (own_of old class) n number
          ∙ ap (λ (c : List ℕ). has_number (own_of old c) n || n == number) (same_name class q same)
      by false same e = ap (λ (xs : List ℕ). has_number xs n) e ∙ or_false (has_number (own_of old q) n)

-- a class's numbers are taken out
pub own_left : (old new : ByClass) (class : List ℕ) → ((q : List ℕ) → get (slice_cmp nat_cmp) new q ≡ cond (is_eq (slice_cmp nat_cmp class q)) None (get (slice_cmp nat_cmp) old q))
    → (q : List ℕ) → own_of new q ≡ cond (bytes_eq class q) [] (own_of old q)
own_left old new class puts q =
    ap (λ (o : Option (List ℕ)). unwrap_or o []) (puts q ∙ ap (λ (b : Bool). cond b None (get (slice_cmp nat_cmp) old q)) (is_eq-slice_cmp class q)) ∙ by (bytes_eq class q) where
      by : (b : Bool) → unwrap_or (cond b None (get (slice_cmp nat_cmp) old q)) [] ≡ cond b [] (own_of old q)
      by true = refl
      by false = refl

-- the next of the declarations is noted
pub own_goes_on : (before after test : Bool) (x : Found) (rest total : Option Found) → after ≡ (before || test) → (before || is_some (cond test (Some x) rest)) ≡ is_some total → (after || is_some rest) ≡ is_some total
own_goes_on before after test x rest total is so_far = ap (λ (b : Bool). b || is_some rest) is ∙ by before test ∙ so_far where
  by : (a b : Bool) → ((a || b) || is_some rest) ≡ (a || is_some (cond b (Some x) rest))
  by true b = refl
  by false true = refl
  by false false = refl
