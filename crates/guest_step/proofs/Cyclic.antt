-- The first of the threads that live, in their turns, is the first of all.
use Rattle.std.proofs.Common.{◌≡◌, ◌<◌, ◌≤◌, ◌+◌, ◌-◌, ◌∙◌, ◌++◌, ◌&&◌, ℕ, zero, suc, Bool, true, false, cond, List, [], ◌∷◌, length, get_or, Option, Some, None, refl, sym, ap, subst, arith, ltb, leb, take, drop, length-drop, length-take-le}
use Rattle.std.specs.Prelude.{All, find, if◌then◌else◌, nat_lt, slice_get}
use Rattle.std.specs.Option.{option_map_or, option_or}
use Rattle.std.specs.List.{range_with_len}
use Rattle.std.specs.List.Sorted.{IsPartitionPoint}
use Rattle.std.proofs.lemmas.Bool.{and_right, lt-ltb, lt-leb, le-ltb, le-leb, ltb-true, ltb-false}
use Rattle.std.proofs.lemmas.List.{append-nil, get_or-drop, get_or-take}
use Rattle.std.proofs.lemmas.List.Elements.{All-head, All-tail}
use Rattle.std.proofs.lemmas.List.Folds.{find-append}
use Rattle.std.proofs.lemmas.List.FromFn.{get_or-range_with_len, length-range_with_len}
use Rattle.bytecode_model.specs.declared.program.Program.{Program}
use Rattle.guest_heap.specs.declared.frame.Frame.{Frame}
use Rattle.guest_heap.specs.declared.thread.Doing.{Doing}
use Rattle.guest_heap.specs.declared.thread.Doing.TheVariants as doings
use Rattle.guest_heap.specs.declared.thread.Thread.{Thread}
use Rattle.guest_model.specs.declared.machine.Machine.{Machine}
use Rattle.guest_model.specs.Asking.{is_enabled}
use Rattle.guest_model.specs.Calling.{is_ended}
use Rattle.guest_model.specs.Ending.{can_step}
use Rattle.guest_model.specs.Turns.{next_enabled, turns_from}
use Rattle.guest_step.specs.Living.{living_from, living_of}

-- ---- what is found in a list

find_none : (p : ℕ → Bool) (xs : List ℕ) → All (λ (x : ℕ). p x ≡ false) xs → find p xs ≡ None
find_none p [] all = refl
find_none p (x ∷ xs) all =
    ap (λ (b : Bool). cond b (Some x) (find p xs)) (All-head (λ (y : ℕ). p y ≡ false) x xs all)
    ∙ find_none p xs (All-tail (λ (y : ℕ). p y ≡ false) x xs all)

find_agree : (p q : ℕ → Bool) (xs : List ℕ) → All (λ (x : ℕ). p x ≡ q x) xs → find p xs ≡ find q xs
find_agree p q [] all = refl
find_agree p q (x ∷ xs) all =
    ap (λ (b : Bool). cond b (Some x) (find p xs)) (All-head (λ (y : ℕ). p y ≡ q y) x xs all)
    ∙ ap (λ (o : Option ℕ). cond (q x) (Some x) o) (find_agree p q xs (All-tail (λ (y : ℕ). p y ≡ q y) x xs all))

or_none : (o : Option ℕ) → option_or o None ≡ o
or_none None = refl
or_none (Some x) = refl

-- ---- numbers in two parts: those below the first, and those from it on

module _ (test : ℕ → Bool) (first : ℕ) where
  abbrev from_it : ℕ → Bool
  from_it n = leb first n && test n

  abbrev below_it : ℕ → Bool
  below_it n = ltb n first && test n

  -- the first that passes, cyclically
  abbrev cyclic : List ℕ → Option ℕ
  cyclic numbers = option_or (find from_it numbers) (find below_it numbers)

  module _ (below above : List ℕ) (low : All (λ (n : ℕ). n < first) below) (high : All (λ (n : ℕ). first ≤ n) above) where
    parts_from : find from_it (below ++ above) ≡ find test above
    parts_from =
        find-append from_it below above
        ∙ ap (λ (o : Option ℕ). option_or o (find from_it above)) (find_none from_it below (λ k d within. ap (λ (b : Bool). b && test (get_or below k d)) (lt-leb first (get_or below k d) (low k d within))))
        ∙ find_agree from_it test above (λ k d within. ap (λ (b : Bool). b && test (get_or above k d)) (le-leb first (get_or above k d) (high k d within)))

    parts_below : find below_it (below ++ above) ≡ find test below
    parts_below =
        find-append below_it below above
        ∙ ap (λ (o : Option ℕ). option_or (find below_it below) o) (find_none below_it above (λ k d within. ap (λ (b : Bool). b && test (get_or above k d)) (le-ltb (get_or above k d) first (high k d within))))
        ∙ or_none (find below_it below)
        ∙ find_agree below_it test below (λ k d within. ap (λ (b : Bool). b && test (get_or below k d)) (lt-ltb (get_or below k d) first (low k d within)))

    pub parts : (numbers : List ℕ) → numbers ≡ below ++ above → cyclic numbers ≡ option_or (find test above) (find test below)
    parts numbers is =
        ap cyclic is ∙ ap (λ (o : Option ℕ). option_or o (find below_it (below ++ above))) parts_from ∙ ap (λ (o : Option ℕ). option_or (find test above) o) parts_below

-- the place at which numbers that ascend are parted
pub point : (first i : ℕ) (numbers : List ℕ) → i ≤ length numbers → IsPartitionPoint (λ (n : ℕ). ltb n first ≡ true) (λ (n : ℕ). ltb n first ≡ false) numbers i
    → All (λ (n : ℕ). n < first) (take i numbers) × All (λ (n : ℕ). first ≤ n) (drop i numbers)
point first i numbers le parted = (
  λ k d within.
      let near : k < i = omega (arith, length-take-le i numbers le) in
      let e : get_or (take i numbers) k d ≡ get_or numbers k d = get_or-take i numbers k d near in
      rw e (ltb-true (get_or numbers k d) first (parted.0 k d (omega arith) near)),
  λ k d within.
      let near : i + k < length numbers = omega (arith, length-drop i numbers) in
      let e : get_or (drop i numbers) k d ≡ get_or numbers (i + k) d = get_or-drop i numbers k d in
      rw e (ltb-false (get_or numbers (i + k) d) first (parted.1 (i + k) d (omega arith) near)),
)

-- ---- the turns of all threads

range_append : (a m n : ℕ) → range_with_len a (m + n) ≡ range_with_len a m ++ range_with_len (a + m) n
range_append a zero n = let e : zero + n ≡ n = omega arith in let f : a ≡ a + zero = omega arith in rw e (ap (λ (b : ℕ). range_with_len b n) f)
range_append a (suc m) n =
    let e : suc m + n ≡ suc (m + n) = omega arith in
    let f : a + 1 + m ≡ a + suc m = omega arith in
    rw e (ap (λ (xs : List ℕ). a ∷ xs) (range_append (a + 1) m n ∙ ap (λ (b : ℕ). range_with_len (a + 1) m ++ range_with_len b n) f))

range_low : (count first : ℕ) → count ≤ first → All (λ (n : ℕ). n < first) (range_with_len 0 count)
range_low count first le k d within = omega (arith, get_or-range_with_len 0 count k d (omega (arith, length-range_with_len 0 count)), length-range_with_len 0 count)

range_high : (first count : ℕ) → All (λ (n : ℕ). first ≤ n) (range_with_len first count)
range_high first count k d within = omega (arith, get_or-range_with_len first count k d (omega (arith, length-range_with_len first count)))

-- the first in its turn is the first of all, cyclically
turned : (test : ℕ → Bool) (first count : ℕ) → cyclic test first (range_with_len 0 count) ≡ find test (turns_from first count)
turned test first count = by (nat_lt first count) refl where
  by : (b : Bool) → nat_lt first count ≡ b
      → cyclic test first (range_with_len 0 count) ≡ find test (if b then range_with_len first (count - first) ++ range_with_len 0 first else range_with_len 0 count)
  by true within =
      let w : first < count = ltb-true first count within in
      let all : count ≡ first + (count - first) = omega arith in
      let start : 0 + first ≡ first = omega arith in
      let whole : range_with_len 0 count ≡ range_with_len 0 first ++ range_with_len first (count - first) =
      ap (range_with_len 0) all ∙ range_append 0 first (count - first) ∙ ap (λ (b : ℕ). range_with_len 0 first ++ range_with_len b (count - first)) start
      in
      parts test first (range_with_len 0 first) (range_with_len first (count - first)) (range_low first first (omega arith)) (range_high first (count - first)) (range_with_len 0 count) whole
      ∙ sym (find-append test (range_with_len first (count - first)) (range_with_len 0 first))
  by false not_within =
      parts test first (range_with_len 0 count) [] (range_low count first (ltb-false first count not_within)) (λ k d within. absurd (omega arith)) (range_with_len 0 count)
      (sym (append-nil (range_with_len 0 count)))

-- ---- those that live

-- Where no thread that has ended passes the test, the first of those that live is the first of all.
found : (test : ℕ → Bool) (n : ℕ) (threads : List Thread) → ((k : ℕ) (t : Thread) → slice_get threads k ≡ Some t → is_ended t.doing ≡ true → test (n + k) ≡ false)
    → find test (living_from n threads) ≡ find test (range_with_len n (length threads))
found test n [] fails = refl
found test n (t ∷ threads) fails =
    by (is_ended t.doing) refl
    (found test (n + 1) threads (λ k u there ended. let same : n + suc k ≡ n + 1 + k = omega arith in subst (λ (m : ℕ). test m ≡ false) same (fails (suc k) u there ended))) where
      by : (b : Bool) → is_ended t.doing ≡ b → find test (living_from (n + 1) threads) ≡ find test (range_with_len (n + 1) (length threads))
          → find test (cond b (living_from (n + 1) threads) (n ∷ living_from (n + 1) threads)) ≡ cond (test n) (Some n) (find test (range_with_len (n + 1) (length threads)))
      by true ended rest =
          let same : n + 0 ≡ n = omega arith in
          let fails_here : test n ≡ false = subst (λ (m : ℕ). test m ≡ false) same (fails 0 t refl ended) in
          rest ∙ sym (ap (λ (c : Bool). cond c (Some n) (find test (range_with_len (n + 1) (length threads)))) fails_here)
      by false lives rest = ap (λ (o : Option ℕ). cond (test n) (Some n) o) rest

module _ (program : Program) (machine : Machine) where
  ended_cannot : (number : ℕ) (frames : List Frame) (doing : Doing) → is_ended doing ≡ true → can_step program machine number frames doing ≡ false
  ended_cannot number frames doings.Running ended = absurd cc
  ended_cannot number frames (doings.InCall method receiver arguments) ended = absurd cc
  ended_cannot number frames doings.Ended ended = refl

  ended_waits : (k : ℕ) (t : Thread) → slice_get machine.threads k ≡ Some t → is_ended t.doing ≡ true → is_enabled program machine k ≡ false
  ended_waits k t there ended =
      and_right _ _ (ap (λ (o : Option Thread). option_map_or (λ (u : Thread). can_step program machine k u.frames u.doing) o false) there ∙ ended_cannot k t.frames t.doing ended)

  guarded : (guard : ℕ → Bool) → find (λ (n : ℕ). guard n && is_enabled program machine n) (living_of machine.threads)
      ≡ find (λ (n : ℕ). guard n && is_enabled program machine n) (range_with_len 0 (length machine.threads))
  guarded guard =
      found (λ (n : ℕ). guard n && is_enabled program machine n) 0 machine.threads
      (λ k t there ended. let same : k ≡ 0 + k = omega arith in subst (λ (m : ℕ). (guard m && is_enabled program machine m) ≡ false) same (and_right (guard k) _ (ended_waits k t there ended)))

  -- the first of two parts of those that live
  pub next_of_parts : (first : ℕ) (below above : List ℕ) → All (λ (n : ℕ). n < first) below → All (λ (n : ℕ). first ≤ n) above → living_of machine.threads ≡ below ++ above
      → option_or (find (is_enabled program machine) above) (find (is_enabled program machine) below) ≡ next_enabled program machine first
  next_of_parts first below above low high is =
      let test : ℕ → Bool = is_enabled program machine in
      sym (parts test first below above low high (living_of machine.threads) is)
      ∙ ap (λ (o : Option ℕ). option_or o (find (below_it test first) (living_of machine.threads))) (guarded (λ n. leb first n))
      ∙ ap (λ (o : Option ℕ). option_or (find (from_it test first) (range_with_len 0 (length machine.threads))) o) (guarded (λ n. ltb n first))
      ∙ turned test first (length machine.threads)
