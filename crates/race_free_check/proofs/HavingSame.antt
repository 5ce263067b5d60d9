-- What is made in one way of lists with the same numbers has the same numbers again.
use Rattle.std.proofs.Common.{◌≡◌, ◌⊎◌, inl, inr, ℤ, pos, ◌+ℤ◌, Bool, true, false, List, [], ◌∷◌, ◌++◌, map, refl, sym, ap, ◌∙◌}
use Rattle.std.specs.Prelude.{◌-ℤ◌, ◌&&◌, ◌||◌, cond, filter, flat_map}
use Rattle.std.specs.Ordering.{int_eq}
use Rattle.std.specs.List.{list_any}
use Rattle.std.proofs.lemmas.Bool.{false≢true, or_cases, or_left, or_right}
use Rattle.std.proofs.lemmas.List.Folds.{list_any-append}
use Rattle.conspec_automaton.specs.Points.{around, differences, near, sums}
use Rattle.conspec_automaton.specs.Range.{is_between}
use Rattle.race_free_check.specs.Small.{HasSame, has}
use Rattle.race_free_check.proofs.Rising.{equal_self, equals}

-- ---- tests of all numbers

same_truth : (a b : Bool) → (a ≡ true → b ≡ true) → (b ≡ true → a ≡ true) → a ≡ b
same_truth true true there back = refl
same_truth true false there back = sym (there refl)
same_truth false true there back = back refl
same_truth false false there back = refl

-- a number of the list that passes the test
record Passing (test : ℤ → Bool) (ns : List ℤ) : Type 0 where
  pub number : ℤ
  pub there : has ns number ≡ true
  pub passes : test number ≡ true

passing : (test : ℤ → Bool) (ns : List ℤ) → list_any test ns ≡ true → Passing test ns
passing test [] e = absurd (false≢true e)
passing test (n ∷ ns) e = by (or_cases (test n) (list_any test ns) e) (passing test ns) where
  by : (test n ≡ true) ⊎ (list_any test ns ≡ true) → (list_any test ns ≡ true → Passing test ns) → Passing test (n ∷ ns)
  by (inl here) rest = record { number = n; there = or_left (int_eq n n) (has ns n) (equal_self n); passes = here }
  by (inr later) rest =
      let found = rest later in
      record { number = found.number; there = or_right (int_eq found.number n) (has ns found.number) found.there; passes = found.passes }

any_with : (test : ℤ → Bool) (ns : List ℤ) (n : ℤ) → has ns n ≡ true → test n ≡ true → list_any test ns ≡ true
any_with test [] n there passes = absurd (false≢true there)
any_with test (m ∷ ms) n there passes = by (or_cases (int_eq n m) (has ms n) there) (λ later. any_with test ms n later passes) where
  by : (int_eq n m ≡ true) ⊎ (has ms n ≡ true) → (has ms n ≡ true → list_any test ms ≡ true) → (test m || list_any test ms) ≡ true
  by (inl same) rest = or_left (test m) (list_any test ms) (ap test (sym (equals n m same)) ∙ passes)
  by (inr later) rest = or_right (test m) (list_any test ms) (rest later)

any_kept : (test : ℤ → Bool) (ns ms : List ℤ) → HasSame ns ms → list_any test ns ≡ true → list_any test ms ≡ true
any_kept test ns ms same e =
    let found = passing test ns e in
    any_with test ms found.number (sym (same found.number) ∙ found.there) found.passes

any_same : (test : ℤ → Bool) (ns ms : List ℤ) → HasSame ns ms → list_any test ns ≡ list_any test ms
any_same test ns ms same =
    same_truth (list_any test ns) (list_any test ms) (any_kept test ns ms same) (any_kept test ms ns (λ k. sym (same k)))

any_agreed : (test other : ℤ → Bool) → ((n : ℤ) → test n ≡ other n) → (ns : List ℤ) → list_any test ns ≡ list_any other ns
any_agreed test other agree [] = refl
any_agreed test other agree (n ∷ ns) = ap (λ (b : Bool). b || list_any test ns) (agree n) ∙ ap (λ (b : Bool). other n || b) (any_agreed test other agree ns)

-- ---- the numbers of lists that are made

pub joined_has : (ns ms : List ℤ) (k : ℤ) → has (ns ++ ms) k ≡ (has ns k || has ms k)
joined_has ns ms k = list_any-append (int_eq k) ns ms

mapped_has : (f : ℤ → ℤ) (ns : List ℤ) (k : ℤ) → has (map f ns) k ≡ list_any (λ n. int_eq k (f n)) ns
mapped_has f [] k = refl
mapped_has f (n ∷ ns) k = ap (λ (b : Bool). int_eq k (f n) || b) (mapped_has f ns k)

flat_has : (f : ℤ → List ℤ) (ns : List ℤ) (k : ℤ) → has (flat_map f ns) k ≡ list_any (λ n. has (f n) k) ns
flat_has f [] k = refl
flat_has f (n ∷ ns) k = joined_has (f n) (flat_map f ns) k ∙ ap (λ (b : Bool). has (f n) k || b) (flat_has f ns k)

filtered_has : (test : ℤ → Bool) (ns : List ℤ) (k : ℤ) → has (filter test ns) k ≡ (test k && has ns k)
filtered_has test [] k = by (test k) where
  by : (b : Bool) → false ≡ (b && false)
  by true = refl
  by false = refl
filtered_has test (n ∷ ns) k = by (test n) refl (int_eq k n) refl (test k) refl (filtered_has test ns k) where
  clash : int_eq k n ≡ true → test n ≡ true → test k ≡ false → ⊥
  clash same pass fail = false≢true (sym fail ∙ ap test (equals k n same) ∙ pass)

  clash_back : int_eq k n ≡ true → test n ≡ false → test k ≡ true → ⊥
  clash_back same fail pass = false≢true (sym fail ∙ ap test (sym (equals k n same)) ∙ pass)

  by : (b : Bool) → test n ≡ b → (c : Bool) → int_eq k n ≡ c → (d : Bool) → test k ≡ d → has (filter test ns) k ≡ (test k && has ns k) → has (cond b (n ∷ filter test ns) (filter test ns)) k ≡ (test k && (int_eq k n || has ns k))
  by true e true f true g rest = rw (f, g) refl
  by true e true f false g rest = absurd (clash f e g)
  by true e false f d g rest = rw (f, rest) refl
  by false e true f true g rest = absurd (clash_back f e g)
  by false e true f false g rest = rw (rest, g) refl
  by false e false f d g rest = rw (f, rest) refl

-- ---- the same numbers again

flat_same : (f : ℤ → List ℤ) (ns ms : List ℤ) → HasSame ns ms → HasSame (flat_map f ns) (flat_map f ms)
flat_same f ns ms same k = flat_has f ns k ∙ any_same (λ n. has (f n) k) ns ms same ∙ sym (flat_has f ms k)

mapped_same : (f : ℤ → ℤ) (ns ms : List ℤ) → HasSame ns ms → HasSame (map f ns) (map f ms)
mapped_same f ns ms same k = mapped_has f ns k ∙ any_same (λ n. int_eq k (f n)) ns ms same ∙ sym (mapped_has f ms k)

filtered_same : (test : ℤ → Bool) (ns ms : List ℤ) → HasSame ns ms → HasSame (filter test ns) (filter test ms)
filtered_same test ns ms same k = filtered_has test ns k ∙ ap (λ (b : Bool). test k && b) (same k) ∙ sym (filtered_has test ms k)

joined_same : (ns ms ks ls : List ℤ) → HasSame ns ms → HasSame ks ls → HasSame (ns ++ ks) (ms ++ ls)
joined_same ns ms ks ls first second k =
    joined_has ns ks k ∙ ap (λ (b : Bool). b || has ks k) (first k) ∙ ap (λ (b : Bool). has ms k || b) (second k) ∙ sym (joined_has ms ls k)

-- the same of what each of two lists makes together
paired_same : (f : ℤ → ℤ → ℤ) (ns ms ks ls : List ℤ) → HasSame ns ms → HasSame ks ls → HasSame (flat_map (λ n. map (f n) ks) ns) (flat_map (λ n. map (f n) ls) ms)
paired_same f ns ms ks ls first second k =
    flat_has (λ n. map (f n) ks) ns k
    ∙ any_agreed (λ n. has (map (f n) ks) k) (λ n. has (map (f n) ls) k) (λ n. mapped_same (f n) ks ls second k) ns
    ∙ any_same (λ n. has (map (f n) ls) k) ns ms first
    ∙ sym (flat_has (λ n. map (f n) ls) ms k)

pub near_same : (low high : ℤ) (ns ms : List ℤ) → HasSame ns ms → HasSame (near low high ns) (near low high ms)
near_same low high ns ms same = filtered_same (is_between low high) (flat_map around ns) (flat_map around ms) (flat_same around ns ms same)

pub sums_same : (ns ms : List ℤ) → HasSame ns ms → HasSame (sums ns) (sums ms)
sums_same ns ms same =
    joined_same (pos 0 ∷ ns) (pos 0 ∷ ms) (flat_map (λ a. map (λ b. a +ℤ b) ns) ns) (flat_map (λ a. map (λ b. a +ℤ b) ms) ms)
    (λ k. ap (λ (b : Bool). int_eq k (pos 0) || b) (same k)) (paired_same (λ a b. a +ℤ b) ns ms ns ms same same)

pub differences_same : (ns ms ks ls : List ℤ) → HasSame ns ms → HasSame ks ls → HasSame (differences ns ks) (differences ms ls)
differences_same ns ms ks ls first second = paired_same (λ c k. c -ℤ k) ns ms ks ls first second
