-- Classes below others, one way up after the other.
use Rattle.std.specs.List.{list_any, list_all}
use Rattle.std.proofs.Common.{◌≡◌, ℕ, zero, suc, ◌+◌, Bool, true, false, List, [], ◌∷◌, ◌++◌, ◌⊎◌, Option, Some, None, refl, sym, ap, subst, ◌∙◌, inl, inr, arith}
use Rattle.std.specs.Prelude.{bytes_eq, find, ◌||◌, ◌&&◌}
use Rattle.std.specs.Option.{option_map_or}
use Rattle.std.proofs.lemmas.Bool.{cases_Bool, false≢true}
use Rattle.std.proofs.lemmas.Slice.Eq.{bytes_eq-Decides}
use Rattle.api_listing.specs.declared.types.ListedClass.{ListedClass}
use Rattle.api_listing.specs.Nearest.{class_named, upwards}

-- ---- tests of tests

pub either_of : (a b : Bool) → (a || b) ≡ true → (a ≡ true) ⊎ (b ≡ true)
either_of true b e = inl refl
either_of false b e = inr e

pub both_of : (a b : Bool) → (a && b) ≡ true → (a ≡ true) × (b ≡ true)
both_of true b e = (refl, e)
both_of false b e = absurd cc

pub both_are : (a b : Bool) → a ≡ true → b ≡ true → (a && b) ≡ true
both_are a b e f = rw (e, f) refl

pub or_first : (a b : Bool) → a ≡ true → (a || b) ≡ true
or_first a b e = rw e refl

pub or_second : (a b : Bool) → b ≡ true → (a || b) ≡ true
or_second true b e = refl
or_second false b e = e

-- ---- names

pub same_of : (a b : List ℕ) → bytes_eq a b ≡ true → a ≡ b
same_of a b e = (bytes_eq-Decides a b).0 e

pub of_same : (a b : List ℕ) → a ≡ b → bytes_eq a b ≡ true
of_same a b e = (bytes_eq-Decides a b).1 e

pub named_so : (classes : List ListedClass) (name : List ℕ) (c : ListedClass) → class_named classes name ≡ Some c → c.name ≡ name
named_so [] name c e = absurd cc
named_so (x ∷ classes) name c e =
    elim (cases_Bool (bytes_eq x.name name)) [
      | inl is ↦
          let h : ◌≡◌ {A = Option ListedClass} (Some x) (Some c) = rw is at e in
          let same : x ≡ c = cc in
          subst (λ (k : ListedClass). k.name ≡ name) same ((bytes_eq-Decides x.name name).0 is)
      | inr fails ↦ let h : class_named classes name ≡ Some c = rw fails at e in named_so classes name c h
    ]

-- what holds of each holds of the one of the name
pub named_passes : (test : ListedClass → Bool) (classes : List ListedClass) (name : List ℕ) (c : ListedClass) → list_all test classes ≡ true → class_named classes name ≡ Some c → test c ≡ true
named_passes test [] name c all e = absurd cc
named_passes test (x ∷ classes) name c all e =
    let both = both_of (test x) (list_all test classes) all in
    elim (cases_Bool (bytes_eq x.name name)) [
      | inl is ↦
          let h : ◌≡◌ {A = Option ListedClass} (Some x) (Some c) = rw is at e in
          let same : x ≡ c = cc in
          subst (λ (k : ListedClass). test k ≡ true) same both.0
      | inr fails ↦ let h : class_named classes name ≡ Some c = rw fails at e in named_passes test classes name c both.1 h
    ]

module _ (ys : List ListedClass) (name : List ℕ) where
  -- what the front of a list has not
  pub named_after : (xs : List ListedClass) → class_named xs name ≡ None → class_named (xs ++ ys) name ≡ class_named ys name
  named_after [] e = refl
  named_after (x ∷ xs) e =
      elim (cases_Bool (bytes_eq x.name name)) [
        | inl is ↦ let h : ◌≡◌ {A = Option ListedClass} (Some x) None = rw is at e in absurd cc
        | inr fails ↦ let h : class_named xs name ≡ None = rw fails at e in rw fails (named_after xs h)
      ]

-- ---- the way up

abbrev pub one_named : List ℕ → List ListedClass → Bool
one_named above classes = list_any (λ (c : ListedClass). bytes_eq c.name above) classes

module _ (classes : List ListedClass) where
  abbrev pub is_up : ℕ → List ℕ → List ℕ → Bool
  is_up n class above = one_named above (upwards n classes class)

  abbrev pub up_from : Option ListedClass → ℕ → List ListedClass
  up_from found n = option_map_or (λ (c : ListedClass). c ∷ upwards n classes c.parent) found []

  -- one step more finds no less
  further_from : (n : ℕ) (found : Option ListedClass) (above : List ℕ) → ((c : ListedClass) → is_up n c.parent above ≡ true → is_up (suc n) c.parent above ≡ true)
      → one_named above (up_from found n) ≡ true → one_named above (up_from found (suc n)) ≡ true
  further_from n None above more e = absurd cc
  further_from n (Some c) above more e =
      elim (either_of (bytes_eq c.name above) (is_up n c.parent above) e) [
        | inl is ↦ or_first _ _ is
        | inr later ↦ or_second _ _ (more c later)
      ]

  further : (n : ℕ) (class above : List ℕ) → is_up n class above ≡ true → is_up (suc n) class above ≡ true
  further zero class above e = absurd cc
  further (suc n) class above e = further_from n (class_named classes class) above (λ c later. further n c.parent above later) e

  further_by : (k n : ℕ) (class above : List ℕ) → is_up n class above ≡ true → is_up (k + n) class above ≡ true
  further_by zero n class above e = let same : 0 + n ≡ n = omega arith in rw same e
  further_by (suc k) n class above e = let same : suc k + n ≡ suc (k + n) = omega arith in rw same (further (k + n) class above (further_by k n class above e))

  -- up to a class, and up from it
  climb_from : (m n : ℕ) (class middle above : List ℕ) (found : Option ListedClass) → class_named classes class ≡ found
      → ((c : ListedClass) → is_up m c.parent middle ≡ true → is_up (m + n) c.parent above ≡ true)
      → one_named middle (up_from found m) ≡ true → is_up n middle above ≡ true → one_named above (up_from found (m + n)) ≡ true
  climb_from m n class middle above None same more e f = absurd cc
  climb_from m n class middle above (Some c) same more e f =
      let longer : suc m + n ≡ suc (m + n) = omega arith in
      elim (either_of (bytes_eq c.name middle) (is_up m c.parent middle) e) [
        | inl is ↦
            let here : class ≡ middle = sym (named_so classes class c same) ∙ (bytes_eq-Decides c.name middle).0 is in
            let all : is_up (suc m + n) class above ≡ true = further_by (suc m) n class above (subst (λ (name : List ℕ). is_up n name above ≡ true) (sym here) f) in
            let there : is_up (suc (m + n)) class above ≡ true = subst (λ (k : ℕ). is_up k class above ≡ true) longer all in
            subst (λ (o : Option ListedClass). one_named above (up_from o (m + n)) ≡ true) same there
        | inr later ↦ or_second _ _ (more c later)
      ]

  climb : (m n : ℕ) (class middle above : List ℕ) → is_up m class middle ≡ true → is_up n middle above ≡ true → is_up (m + n) class above ≡ true
  climb zero n class middle above e f = absurd cc
  climb (suc m) n class middle above e f =
      let longer : suc m + n ≡ suc (m + n) = omega arith in
      rw longer (climb_from m n class middle above (class_named classes class) refl (λ c later. climb m n c.parent middle above later f) e f)

  -- where each way up ends within n, so does each longer one
  settles_from : (n k : ℕ) (found : Option ListedClass) → ((c : ListedClass) → upwards (k + n) classes c.parent ≡ upwards n classes c.parent) → up_from found (k + n) ≡ up_from found n
  settles_from n k None more = refl
  settles_from n k (Some c) more = ap (λ (l : List ListedClass). c ∷ l) (more c)

  settles : (n : ℕ) → ((name : List ℕ) → upwards (suc n) classes name ≡ upwards n classes name) → (k : ℕ) (name : List ℕ) → upwards (k + n) classes name ≡ upwards n classes name
  settles n ends zero name = let same : 0 + n ≡ n = omega arith in rw same refl
  settles n ends (suc k) name =
      let same : suc k + n ≡ suc (k + n) = omega arith in
      rw same (settles_from n k (class_named classes name) (λ c. settles n ends k c.parent) ∙ ends name)

  pub up_and_up : (n : ℕ) → ((name : List ℕ) → upwards (suc n) classes name ≡ upwards n classes name) → (class middle above : List ℕ) → is_up n class middle ≡ true → is_up n middle above ≡ true
      → is_up n class above ≡ true
  up_and_up n ends class middle above e f = subst (λ (l : List ListedClass). one_named above l ≡ true) (settles n ends n class) (climb n n class middle above e f)

  -- a class that there is not is above none
  none_from : (n : ℕ) (class above : List ℕ) (found : Option ListedClass) → class_named classes class ≡ found → class_named classes above ≡ None
      → ((c : ListedClass) → is_up n c.parent above ≡ true → ⊥) → one_named above (up_from found n) ≡ true → ⊥
  none_from n class above None same none more e = absurd cc
  none_from n class above (Some c) same none more e =
      elim (either_of (bytes_eq c.name above) (is_up n c.parent above) e) [
        | inl is ↦
            let here : class ≡ above = sym (named_so classes class c same) ∙ (bytes_eq-Decides c.name above).0 is in
            let both : ◌≡◌ {A = Option ListedClass} (Some c) None = sym same ∙ ap (class_named classes) here ∙ none in
            absurd cc
        | inr later ↦ more c later
      ]

  pub none_up : (n : ℕ) (class above : List ℕ) → class_named classes above ≡ None → is_up n class above ≡ true → ⊥
  none_up zero class above none e = absurd cc
  none_up (suc n) class above none e = none_from n class above (class_named classes class) refl none (λ c later. none_up n c.parent above none later) e

  -- the first on the way up that passes a test, below another that passes it
  first_passes : (n : ℕ) (test : List ℕ → Bool) (class above : List ℕ) (c : ListedClass) (found : Option ListedClass) → class_named classes class ≡ found
      → ((k : ListedClass) → find (λ (x : ListedClass). test x.name) (upwards n classes k.parent) ≡ Some c → is_up n k.parent above ≡ true → is_up n c.name above ≡ true)
      → find (λ (x : ListedClass). test x.name) (up_from found n) ≡ Some c → test above ≡ true → one_named above (up_from found n) ≡ true → is_up (suc n) c.name above ≡ true
  first_passes n test class above c None same more e f g = absurd cc
  first_passes n test class above c (Some k) same more e f g =
      elim (cases_Bool (test k.name)) [
        | inl is ↦
            let h : ◌≡◌ {A = Option ListedClass} (Some k) (Some c) = rw is at e in
            let one : k ≡ c = cc in
            let here : class ≡ c.name = sym (named_so classes class k same) ∙ ap (λ (x : ListedClass). x.name) one in
            let up : is_up (suc n) class above ≡ true = subst (λ (o : Option ListedClass). one_named above (up_from o n) ≡ true) (sym same) g in
            subst (λ (x : List ℕ). is_up (suc n) x above ≡ true) here up
        | inr fails ↦
            let h : find (λ (x : ListedClass). test x.name) (upwards n classes k.parent) ≡ Some c = rw fails at e in
            elim (either_of (bytes_eq k.name above) (is_up n k.parent above) g) [
              | inl is ↦
                  let here : k.name ≡ above = (bytes_eq-Decides k.name above).0 is in
                  absurd (false≢true (sym fails ∙ ap test here ∙ f))
              | inr later ↦ further n c.name above (more k h later)
            ]
      ]

  pub first_under : (n : ℕ) (test : List ℕ → Bool) (class above : List ℕ) (c : ListedClass) → find (λ (x : ListedClass). test x.name) (upwards n classes class) ≡ Some c
      → test above ≡ true → is_up n class above ≡ true → is_up n c.name above ≡ true
  first_under zero test class above c e f g = absurd cc
  first_under (suc n) test class above c e f g =
      first_passes n test class above c (class_named classes class) refl (λ k h later. first_under n test k.parent above c h f later) e f g

  -- where one passes the test, there is a first
  pub one_first : (test : List ℕ → Bool) (xs : List ListedClass) (above : List ℕ) → find (λ (x : ListedClass). test x.name) xs ≡ None → test above ≡ true → one_named above xs ≡ true → ⊥
  one_first test [] above e f g = absurd cc
  one_first test (x ∷ xs) above e f g =
      elim (cases_Bool (test x.name)) [
        | inl is ↦ let h : ◌≡◌ {A = Option ListedClass} (Some x) None = rw is at e in absurd cc
        | inr fails ↦
            let h : find (λ (k : ListedClass). test k.name) xs ≡ None = rw fails at e in
            elim (either_of (bytes_eq x.name above) (one_named above xs) g) [
              | inl is ↦
                  let here : x.name ≡ above = (bytes_eq-Decides x.name above).0 is in
                  false≢true (sym fails ∙ ap test here ∙ f)
              | inr later ↦ one_first test xs above h f later
            ]
      ]
