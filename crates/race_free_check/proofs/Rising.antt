-- Lists of numbers that rise: what is told of them is which numbers they have.
use Rattle.std.proofs.Common.{◌≡◌, ◌⊎◌, inl, inr, ℤ, Bool, true, false, cond, List, [], ◌∷◌, refl, sym, ap, subst, ◌∙◌, arith}
use Rattle.std.specs.Prelude.{◌≤ℤ◌, ◌<ℤ◌, ◌||◌, int_lt, if◌then◌else◌}
use Rattle.std.specs.Ordering.{eq_by_cmp, int_cmp, int_eq}
use Rattle.std.specs.declared.cmp.Ordering.TheVariants.{Less}
use Rattle.std.specs.List.{AllByRecursion, dedup, dedup_from}
use Rattle.std.specs.List.Sorted.{IsPermutation, IsSorted, IsStrictlySortedBy}
use Rattle.std.proofs.lemmas.Bool.{false≢true, true≢false, or_cases, or_left}
use Rattle.std.proofs.lemmas.Bool.Decides.{Decides-int_eq}
use Rattle.std.proofs.lemmas.Int.{ints, by_lt_z}
use Rattle.std.proofs.lemmas.List.Kept.{IsStrictlySortedBy-dedup}
use Rattle.std.proofs.lemmas.List.Sorted.{list_any-IsPermutation}
use Rattle.std.specs.Cmp.{int_cmp_total}
use Rattle.conspec_automaton.specs.Points.{ascending, placed}
use Rattle.race_free_check.specs.Small.{HasSame, has}

-- Each number is less than all after it.
abbrev Rises : List ℤ → Type 0
Rises [] = Unit {0}
Rises (n ∷ ns) = AllByRecursion (λ m. n <ℤ m) ns × Rises ns

-- ---- tests of numbers

pub equal_self : (n : ℤ) → int_eq n n ≡ true
equal_self n = (Decides-int_eq n n).1 refl

pub equals : (n m : ℤ) → int_eq n m ≡ true → n ≡ m
equals n m e = (Decides-int_eq n m).0 e

is_less : (n m : ℤ) → int_lt n m ≡ true → n <ℤ m
is_less n m e = grind (arith, ints)

is_greater : (n m : ℤ) → int_lt n m ≡ false → int_eq n m ≡ false → m <ℤ n
is_greater n m e differ = by_lt_z m n (λ lt. lt) (λ le. by_lt_z n m (λ lt. absurd (by lt)) (λ ge. absurd (at (omega (arith, ints))))) where
  by : n <ℤ m → ⊥
  by lt = let t : int_lt n m ≡ true = grind (arith, ints) in false≢true (sym e ∙ t)

  at : n ≡ m → ⊥
  at same = false≢true (sym differ ∙ (Decides-int_eq n m).1 same)

-- ---- an ascending list rises, and has the same numbers

placed_all : (P : ℤ → Type 0) (n : ℤ) (ms : List ℤ) → P n → AllByRecursion P ms → AllByRecursion P (placed n ms)
placed_all P n [] p all = (p, tt)
placed_all P n (m ∷ ms) p all = by (int_lt n m) (int_eq n m) (placed_all P n ms p all.1) where
  by : (b c : Bool) → AllByRecursion P (placed n ms) → AllByRecursion P (if b then n ∷ m ∷ ms else if c then m ∷ ms else m ∷ placed n ms)
  by true c later = (p, all)
  by false true later = all
  by false false later = (all.0, later)

-- What holds of all the numbers holds of those in order.
pub ascending_all : (P : ℤ → Type 0) (ns : List ℤ) → AllByRecursion P ns → AllByRecursion P (ascending ns)
ascending_all P [] all = tt
ascending_all P (n ∷ ns) all = placed_all P n (ascending ns) all.0 (ascending_all P ns all.1)

all_above : (n m : ℤ) (ms : List ℤ) → n <ℤ m → AllByRecursion (λ k. m <ℤ k) ms → AllByRecursion (λ k. n <ℤ k) ms
all_above n m [] lt all = tt
all_above n m (k ∷ ms) lt all = let h = all.0 in (omega (arith, ints), all_above n m ms lt all.1)

placed_rises : (n : ℤ) (ms : List ℤ) → Rises ms → Rises (placed n ms)
placed_rises n [] rises = (tt, tt)
placed_rises n (m ∷ ms) rises = by (int_lt n m) refl (int_eq n m) refl (placed_rises n ms rises.1) where
  by : (b : Bool) → int_lt n m ≡ b → (c : Bool) → int_eq n m ≡ c → Rises (placed n ms) → Rises (if b then n ∷ m ∷ ms else if c then m ∷ ms else m ∷ placed n ms)
  by true lt c e later = let less = is_less n m lt in ((less, all_above n m ms less rises.0), rises)
  by false lt true e later = rises
  by false lt false e later = (placed_all (λ k. m <ℤ k) n ms (is_greater n m lt e) rises.0, later)

ascending_rises : (ns : List ℤ) → Rises (ascending ns)
ascending_rises [] = tt
ascending_rises (n ∷ ns) = placed_rises n (ascending ns) (ascending_rises ns)

or_twice : (a b : Bool) → (a || (a || b)) ≡ (a || b)
or_twice true b = refl
or_twice false b = refl

or_turned : (a b c : Bool) → (a || (b || c)) ≡ (b || (a || c))
or_turned true true c = refl
or_turned true false c = refl
or_turned false b c = refl

placed_has : (n k : ℤ) (ms : List ℤ) → has (placed n ms) k ≡ (int_eq k n || has ms k)
placed_has n k [] = refl
placed_has n k (m ∷ ms) = by (int_lt n m) (int_eq n m) refl (placed_has n k ms) where
  by : (b c : Bool) → int_eq n m ≡ c → has (placed n ms) k ≡ (int_eq k n || has ms k) → has (if b then n ∷ m ∷ ms else if c then m ∷ ms else m ∷ placed n ms) k ≡ (int_eq k n || (int_eq k m || has ms k))
  by true c e later = refl
  by false true e later = sym (ap (λ (i : ℤ). int_eq k i || (int_eq k m || has ms k)) (equals n m e) ∙ or_twice (int_eq k m) (has ms k))
  by false false e later = ap (λ (b : Bool). int_eq k m || b) later ∙ or_turned (int_eq k m) (int_eq k n) (has ms k)

pub ascending_has : (ns : List ℤ) → HasSame (ascending ns) ns
ascending_has [] k = refl
ascending_has (n ∷ ns) k = placed_has n k (ascending ns) ∙ ap (λ (b : Bool). int_eq k n || b) (ascending_has ns k)

-- ---- rising lists with the same numbers are one

has_above : (n k : ℤ) (ms : List ℤ) → AllByRecursion (λ m. n <ℤ m) ms → has ms k ≡ true → n <ℤ k
has_above n k [] all e = absurd (false≢true e)
has_above n k (m ∷ ms) all e = by (or_cases (int_eq k m) (has ms k) e) (has_above n k ms all.1) where
  by : (int_eq k m ≡ true) ⊎ (has ms k ≡ true) → (has ms k ≡ true → n <ℤ k) → n <ℤ k
  by (inl same) rest = let i = equals k m same in let h = all.0 in omega (arith, ints)
  by (inr later) rest = rest later

lacks : (n : ℤ) (ms : List ℤ) → AllByRecursion (λ m. n <ℤ m) ms → has ms n ≡ false
lacks n ms all = by (has ms n) refl where
  by : (b : Bool) → has ms n ≡ b → b ≡ false
  by true e = let h = has_above n n ms all e in absurd (omega (arith, ints))
  by false e = refl

has_first : (n : ℤ) (ns : List ℤ) → has (n ∷ ns) n ≡ true
has_first n ns = or_left (int_eq n n) (has ns n) (equal_self n)

-- A rising list that has n begins with it or with less.
least_first : (n m : ℤ) (ms : List ℤ) → Rises (m ∷ ms) → has (m ∷ ms) n ≡ true → m ≤ℤ n
least_first n m ms rises e = by (or_cases (int_eq n m) (has ms n) e) where
  by : (int_eq n m ≡ true) ⊎ (has ms n ≡ true) → m ≤ℤ n
  by (inl same) = let i = equals n m same in omega (arith, ints)
  by (inr later) = let h = has_above m n ms rises.0 later in omega (arith, ints)

rest_same : (n : ℤ) (ns ms : List ℤ) → Rises (n ∷ ns) → Rises (n ∷ ms) → HasSame (n ∷ ns) (n ∷ ms) → HasSame ns ms
rest_same n ns ms first second same k = by (int_eq k n) refl (same k) where
  by : (b : Bool) → int_eq k n ≡ b → (b || has ns k) ≡ (b || has ms k) → has ns k ≡ has ms k
  by true e both =
      let i = equals k n e in
      subst (λ (j : ℤ). has ns j ≡ has ms j) (sym i) (lacks n ns first.0 ∙ sym (lacks n ms second.0))
  by false e both = both

risen_same : (ns ms : List ℤ) → Rises ns → Rises ms → HasSame ns ms → ns ≡ ms
risen_same [] [] first second same = refl
risen_same [] (m ∷ ms) first second same = absurd (false≢true (same m ∙ has_first m ms))
risen_same (n ∷ ns) [] first second same = absurd (true≢false (sym (has_first n ns) ∙ same n))
risen_same (n ∷ ns) (m ∷ ms) first second same =
    let low = least_first n m ms second (sym (same n) ∙ has_first n ns) in
    let high = least_first m n ns first (same m ∙ has_first m ms) in
    let heads : n ≡ m = omega (arith, ints) in
    let other = subst (λ (k : ℤ). Rises (k ∷ ms)) (sym heads) second in
    let both = subst (λ (k : ℤ). HasSame (n ∷ ns) (k ∷ ms)) (sym heads) same in
    ap (λ (k : ℤ). k ∷ ns) heads ∙ ap (λ (ks : List ℤ). m ∷ ks) (risen_same ns ms first.1 second.1 (rest_same n ns ms first other both))

-- Lists with the same numbers are one in order.
pub ascending_same : (ns ms : List ℤ) → HasSame ns ms → ascending ns ≡ ascending ms
ascending_same ns ms same = risen_same (ascending ns) (ascending ms) (ascending_rises ns) (ascending_rises ms) (λ k. ascending_has ns k ∙ same k ∙ sym (ascending_has ms k))

-- ---- what sorting and leaving out doubles gives

less_at : (n m : ℤ) → int_cmp n m ≡ Less → n <ℤ m
less_at n m e = grind (arith, ints)

all_less : (n : ℤ) (ms : List ℤ) → AllByRecursion (λ m. int_cmp n m ≡ Less) ms → AllByRecursion (λ m. n <ℤ m) ms
all_less n [] all = tt
all_less n (m ∷ ms) all = (less_at n m all.0, all_less n ms all.1)

sorted_rises : (ns : List ℤ) → IsStrictlySortedBy int_cmp ns → Rises ns
unfolding IsStrictlySortedBy
sorted_rises [] sorted = tt
sorted_rises (n ∷ ns) sorted = (all_less n ns sorted.0, sorted_rises ns sorted.1)

once_has : (n k : ℤ) (ms : List ℤ) → has (dedup_from int_eq n ms) k ≡ (int_eq k n || has ms k)
once_has n k [] = refl
once_has n k (m ∷ ms) = by (int_eq m n) refl (once_has n k ms) (once_has m k ms) where
  by : (b : Bool) → int_eq m n ≡ b → has (dedup_from int_eq n ms) k ≡ (int_eq k n || has ms k) → has (dedup_from int_eq m ms) k ≡ (int_eq k m || has ms k)
      → has (cond b (dedup_from int_eq n ms) (n ∷ dedup_from int_eq m ms)) k ≡ (int_eq k n || (int_eq k m || has ms k))
  by true e first second = first ∙ sym (ap (λ (i : ℤ). int_eq k n || (int_eq k i || has ms k)) (equals m n e) ∙ or_twice (int_eq k n) (has ms k))
  by false e first second = ap (λ (b : Bool). int_eq k n || b) second

each_once : (ns : List ℤ) → HasSame (dedup int_eq ns) ns
each_once [] k = refl
each_once (n ∷ ns) k = once_has n k ns

tie : (n m : ℤ) → int_eq n m ≡ eq_by_cmp int_cmp n m
tie n m = refl

-- Sorted numbers without doubles are those that ascend.
pub ascending_is : (ns sorted : List ℤ) → IsPermutation ns sorted → IsSorted int_cmp sorted → dedup int_eq sorted ≡ ascending ns
ascending_is ns sorted moved rises =
    risen_same (dedup int_eq sorted) (ascending ns) (sorted_rises (dedup int_eq sorted) (IsStrictlySortedBy-dedup int_cmp_total tie sorted rises)) (ascending_rises ns)
    (λ k. each_once sorted k ∙ sym (list_any-IsPermutation (int_eq k) ns sorted moved) ∙ sym (ascending_has ns k))
