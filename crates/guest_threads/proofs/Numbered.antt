-- Places of keys by numbers that rise.
use Rattle.std.proofs.Common.{◌≡◌, ℕ, zero, suc, ◌+◌, ◌<◌, ◌≤◌, Bool, true, false, cond, ◌||◌, eqb, List, [], ◌∷◌, ◌++◌, length, get_or, take, drop, Option, Some, None, Result, Ok, Err, refl, sym, ap, subst, ◌∙◌, arith, add-one, length-append}
use Rattle.std.specs.Prelude.{MatchResult, IfSome, slice_get}
use Rattle.std.specs.List.{list_any, position_from}
use Rattle.std.specs.List.Sorted.{IsBinarySearchResult}
use Rattle.std.specs.Ordering.{nat_cmp}
use Rattle.std.proofs.lemmas.Bool.Decides.{nat_tests}
use Rattle.std.proofs.lemmas.List.Sorted.{searched}
use Rattle.std.specs.BTreeMap.{BTreeMap, get}
use Rattle.guest_threads.specs.KeyPlaces.{AreApart, AreNumbered, RiseBetween, is_key, number_of}

-- ---- without one

-- the list without what stands in this place
abbrev pub without : {X : Type 0} → ℕ → List X → List X
without place [] = []
without zero (x ∷ xs) = xs
without (suc place) (x ∷ xs) = x ∷ without place xs

pub without_is : {X : Type 0} (place : ℕ) (xs : List X) → take place xs ++ drop (place + 1) xs ≡ without place xs
without_is place xs = ap (λ n. take place xs ++ drop n xs) (add-one place) ∙ by place xs where
  by : {X : Type 0} (place : ℕ) (xs : List X) → take place xs ++ drop (suc place) xs ≡ without place xs
  by zero [] = refl
  by (suc place) [] = refl
  by zero (x ∷ xs) = refl
  by (suc place) (x ∷ xs) = ap (λ ys. x ∷ ys) (by place xs)

-- ---- numbers that rise

-- Each is as far above the first as it stands after it.
above : (low : ℕ) (ns : List ℕ) (next i : ℕ) → RiseBetween low ns next → i < length ns → low + i ≤ get_or ns i 0
above low [] next i up within = absurd (omega arith)
above low (n ∷ ns) next zero up within = omega (arith, up.0)
above low (n ∷ ns) next (suc i) up within = omega (arith, up.0, above (n + 1) ns next i up.1 (omega arith))

never_falls : (low : ℕ) (ns : List ℕ) (next i j : ℕ) → RiseBetween low ns next → i ≤ j → j < length ns → get_or ns i 0 ≤ get_or ns j 0
never_falls low [] next i j up before within = absurd (omega arith)
never_falls low (n ∷ ns) next zero zero up before within = omega arith
never_falls low (n ∷ ns) next zero (suc j) up before within = omega (arith, above (n + 1) ns next j up.1 (omega arith))
never_falls low (n ∷ ns) next (suc i) zero up before within = absurd (omega arith)
never_falls low (n ∷ ns) next (suc i) (suc j) up before within = never_falls (n + 1) ns next i j up.1 (omega arith) (omega arith)

lower : (low least : ℕ) (ns : List ℕ) (next : ℕ) → least ≤ low → RiseBetween low ns next → RiseBetween least ns next
lower low least [] next l up = omega (arith, up)
lower low least (n ∷ ns) next l up = (omega (arith, up.0), up.1)

-- one more
pub rise_more : (low : ℕ) (ns : List ℕ) (next : ℕ) → RiseBetween low ns next → RiseBetween low (ns ++ next ∷ []) (next + 1)
rise_more low [] next up = (up, omega arith)
rise_more low (n ∷ ns) next up = (up.0, rise_more (n + 1) ns next up.1)

-- without the one in this place
pub rise_without : (low : ℕ) (ns : List ℕ) (next place : ℕ) → RiseBetween low ns next → RiseBetween low (without place ns) next
rise_without low [] next place up = up
rise_without low (n ∷ ns) next zero up = lower (n + 1) low ns next (omega (arith, up.0)) up.1
rise_without low (n ∷ ns) next (suc place) up = (up.0, rise_without (n + 1) ns next place up.1)

-- ---- numbers of keys

-- where the number of a key stands
stands_at : (key : ℕ) (keys : List (Option ℕ)) (ns : List ℕ) (n : ℕ) → number_of key keys ns ≡ Some n → (k : ℕ) × (k < length ns) × (get_or ns k 0 ≡ n)
stands_at key [] ns n e = absurd cc
stands_at key (k ∷ keys) [] n e = absurd cc
stands_at key (k ∷ keys) (m ∷ ns) n e = by (is_key key k) (stands_at key keys ns n) e where
  by : (b : Bool) → (number_of key keys ns ≡ Some n → (i : ℕ) × (i < length ns) × (get_or ns i 0 ≡ n)) → cond b (Some m) (number_of key keys ns) ≡ Some n
      → (i : ℕ) × (i < length (m ∷ ns)) × (get_or (m ∷ ns) i 0 ≡ n)
  by true further h = let same : m ≡ n = cc in (0, omega arith, same)
  by false further h = let at = further h in (suc at.0, omega (arith, at.1), at.2)

-- The place of its number is that of the key.
place_is : (low at key : ℕ) (keys : List (Option ℕ)) (ns : List ℕ) (next n i : ℕ) → RiseBetween low ns next → number_of key keys ns ≡ Some n
    → i < length ns → get_or ns i 0 ≡ n → position_from (is_key key) at keys ≡ Some (at + i)
place_is low at key [] ns next n i up e within is = absurd cc
place_is low at key (k ∷ keys) [] next n i up e within is = absurd cc
place_is low at key (k ∷ keys) (m ∷ ns) next n zero up e within is = by (is_key key k) e where
  by : (b : Bool) → cond b (Some m) (number_of key keys ns) ≡ Some n → cond b (Some at) (position_from (is_key key) (at + 1) keys) ≡ Some (at + 0)
  by true h = let there : at ≡ at + 0 = omega arith in ap Some there
  by false h =
      let found = stands_at key keys ns n h in
      absurd (omega (arith, is, found.2, above (m + 1) ns next found.0 up.1 found.1))
place_is low at key (k ∷ keys) (m ∷ ns) next n (suc i) up e within is =
    by (is_key key k) (λ h. place_is (m + 1) (at + 1) key keys ns next n i up.1 h (omega arith) is) e where
      by : (b : Bool) → (number_of key keys ns ≡ Some n → position_from (is_key key) (at + 1) keys ≡ Some (at + 1 + i)) → cond b (Some m) (number_of key keys ns) ≡ Some n
          → cond b (Some at) (position_from (is_key key) (at + 1) keys) ≡ Some (at + suc i)
      by true further h =
          let same : m ≡ n = cc in
          absurd (omega (arith, is, same, above (m + 1) ns next i up.1 (omega arith)))
      by false further h = let there : at + 1 + i ≡ at + suc i = omega arith in further h ∙ ap Some there

-- A key without a number has no place.
pub no_place : (at key : ℕ) (keys : List (Option ℕ)) (ns : List ℕ) → length ns ≡ length keys → number_of key keys ns ≡ None → position_from (is_key key) at keys ≡ None
no_place at key [] ns pair e = refl
no_place at key (k ∷ keys) [] pair e = absurd (omega (arith, pair))
no_place at key (k ∷ keys) (m ∷ ns) pair e = by (is_key key k) (no_place (at + 1) key keys ns (omega (arith, pair))) e where
  by : (b : Bool) → (number_of key keys ns ≡ None → position_from (is_key key) (at + 1) keys ≡ None) → cond b (Some m) (number_of key keys ns) ≡ None
      → cond b (Some at) (position_from (is_key key) (at + 1) keys) ≡ None
  by true further h = absurd cc
  by false further h = further h

-- What a search by halving finds is the place of the key.
pub halved : (key : ℕ) (keys : List (Option ℕ)) (ns : List ℕ) (next n : ℕ) (r : Result ℕ ℕ) → RiseBetween 0 ns next → number_of key keys ns ≡ Some n
    → IsBinarySearchResult (λ y. nat_cmp y n) ns r → MatchResult r (λ i. Some i ≡ position_from (is_key key) 0 keys) (λ i. ⊥)
halved key keys ns next n (Ok i) up e found =
    let is = searched ns n (Ok i) found (λ a b l m. never_falls 0 ns next a b up l m) in
    let there : 0 + i ≡ i = omega arith in
    sym (place_is 0 0 key keys ns next n i up e is.0 is.1 ∙ ap Some there)
halved key keys ns next n (Err i) up e found =
    let is = searched ns n (Err i) found (λ a b l m. never_falls 0 ns next a b up l m) in
    let at = stands_at key keys ns n e in
    neither n at.0 i (get_or ns at.0 0) at.2 (is.1 at.0) (λ l. is.2 at.0 l at.1) where
      neither : (n at i found : ℕ) → found ≡ n → (at < i → found < n) → (i ≤ at → n < found) → ⊥
      neither n at i found is before following = grind arith

-- A key that is not among them has no number.
no_number : (key : ℕ) (keys : List (Option ℕ)) (ns : List ℕ) → list_any (is_key key) keys ≡ false → number_of key keys ns ≡ None
no_number key [] ns e = refl
no_number key (k ∷ keys) [] e = refl
no_number key (k ∷ keys) (n ∷ ns) e = by (is_key key k) (no_number key keys ns) e where
  by : (b : Bool) → (list_any (is_key key) keys ≡ false → number_of key keys ns ≡ None) → b || list_any (is_key key) keys ≡ false
      → cond b (Some n) (number_of key keys ns) ≡ None
  by true further h = absurd cc
  by false further h = further h

-- ---- one key more

neither_is : (b c : Bool) → b || c ≡ false → (b ≡ false) × (c ≡ false)
neither_is true c e = absurd cc
neither_is false c e = (refl, e)

pub known_more : (q : ℕ) (k : Option ℕ) (n : ℕ) (keys : List (Option ℕ)) (ns : List ℕ) → length ns ≡ length keys
    → (is_key q k ≡ true → list_any (is_key q) keys ≡ false)
    → cond (is_key q k) (Some n) (number_of q keys ns) ≡ number_of q (keys ++ k ∷ []) (ns ++ n ∷ [])
known_more q k n [] [] pair apart = refl
known_more q k n [] (m ∷ ns) pair apart = absurd (omega (arith, pair))
known_more q k n (j ∷ keys) [] pair apart = absurd (omega (arith, pair))
known_more q k n (j ∷ keys) (m ∷ ns) pair apart =
    by (is_key q j) (is_key q k) (λ h. (neither_is (is_key q j) (list_any (is_key q) keys) (apart h)).0)
    (known_more q k n keys ns (omega (arith, pair)) (λ h. (neither_is (is_key q j) (list_any (is_key q) keys) (apart h)).1)) where
      by : (b c : Bool) → (c ≡ true → b ≡ false) → cond c (Some n) (number_of q keys ns) ≡ number_of q (keys ++ k ∷ []) (ns ++ n ∷ [])
          → cond c (Some n) (cond b (Some m) (number_of q keys ns)) ≡ cond b (Some m) (number_of q (keys ++ k ∷ []) (ns ++ n ∷ []))
      by true true other e = absurd (let h = other refl in cc)
      by true false other e = refl
      by false c other e = e

any_more : (a : ℕ) (k : Option ℕ) (keys : List (Option ℕ)) → list_any (is_key a) keys ≡ false → is_key a k ≡ false → list_any (is_key a) (keys ++ k ∷ []) ≡ false
any_more a k [] e other = ap (λ b. b || false) other
any_more a k (j ∷ keys) e other =
    let own = neither_is (is_key a j) (list_any (is_key a) keys) e in
    ap (λ b. b || list_any (is_key a) (keys ++ k ∷ [])) own.0 ∙ any_more a k keys own.1 other

turned : (a b : ℕ) → eqb a b ≡ false → eqb b a ≡ false
turned a b e = grind (arith, nat_tests)

pub apart_more : (k : Option ℕ) (keys : List (Option ℕ)) → AreApart keys → IfSome k (λ key. list_any (is_key key) keys ≡ false) → AreApart (keys ++ k ∷ [])
apart_more None [] apart new = (tt, tt)
apart_more (Some b) [] apart new = (refl, tt)
apart_more k (None ∷ keys) apart new = (tt, apart_more k keys apart.1 (further k new)) where
  further : (k : Option ℕ) → IfSome k (λ key. list_any (is_key key) (None ∷ keys) ≡ false) → IfSome k (λ key. list_any (is_key key) keys ≡ false)
  further None h = tt
  further (Some b) h = h
apart_more None (Some a ∷ keys) apart new = (any_more a None keys apart.0 refl, apart_more None keys apart.1 tt)
apart_more (Some b) (Some a ∷ keys) apart new =
    let own = neither_is (eqb a b) (list_any (is_key b) keys) new in
    (any_more a (Some b) keys apart.0 (turned a b own.0), apart_more (Some b) keys apart.1 own.1)

-- where something is put that has the key, the key is not among the others
pub absent_from : (q : ℕ) (k : Option ℕ) (keys : List (Option ℕ)) → IfSome k (λ key. list_any (is_key key) keys ≡ false) → is_key q k ≡ true → list_any (is_key q) keys ≡ false
absent_from q None keys new h = absurd cc
absent_from q (Some b) keys new h = let same : b ≡ q = grind (arith, nat_tests) in ap (λ a. list_any (is_key a) keys) (sym same) ∙ new

-- ---- one key less

none_at : {X : Type 0} (test : X → Bool) (xs : List X) (i : ℕ) (x : X) → list_any test xs ≡ false → slice_get xs i ≡ Some x → test x ≡ false
none_at test [] i x e there = absurd cc
none_at test (y ∷ ys) zero x e there =
    let same : y ≡ x = cc in
    ap test (sym same) ∙ (neither_is (test y) (list_any test ys) e).0
none_at test (y ∷ ys) (suc i) x e there = none_at test ys i x (neither_is (test y) (list_any test ys) e).1 there

pub known_less : (q : ℕ) (o : Option ℕ) (keys : List (Option ℕ)) (ns : List ℕ) (place : ℕ) → length ns ≡ length keys → AreApart keys → slice_get keys place ≡ Some o
    → cond (is_key q o) None (number_of q keys ns) ≡ number_of q (without place keys) (without place ns)
known_less q o [] ns place pair apart there = absurd cc
known_less q o (k ∷ keys) [] place pair apart there = absurd (omega (arith, pair))
known_less q o (k ∷ keys) (m ∷ ns) zero pair apart there =
    let same : k ≡ o = cc in
    ap (λ j. cond (is_key q j) None (cond (is_key q k) (Some m) (number_of q keys ns))) (sym same)
    ∙ by (is_key q k) (λ h. no_number q keys ns (absent_from q k keys apart.0 h)) where
      by : (b : Bool) → (b ≡ true → number_of q keys ns ≡ None) → cond b None (cond b (Some m) (number_of q keys ns)) ≡ number_of q keys ns
      by true none = sym (none refl)
      by false none = refl
known_less q o (k ∷ keys) (m ∷ ns) (suc place) pair apart there =
    by (is_key q k) (is_key q o) (λ h. none_at (is_key q) keys place o (absent_from q k keys apart.0 h) there)
    (known_less q o keys ns place (omega (arith, pair)) apart.1 there) where
      by : (b c : Bool) → (b ≡ true → c ≡ false) → cond c None (number_of q keys ns) ≡ number_of q (without place keys) (without place ns)
          → cond c None (cond b (Some m) (number_of q keys ns)) ≡ cond b (Some m) (number_of q (without place keys) (without place ns))
      by true true other e = absurd (let h = other refl in cc)
      by true false other e = refl
      by false c other e = e

any_less : {X : Type 0} (test : X → Bool) (xs : List X) (place : ℕ) → list_any test xs ≡ false → list_any test (without place xs) ≡ false
any_less test [] place e = refl
any_less test (x ∷ xs) zero e = (neither_is (test x) (list_any test xs) e).1
any_less test (x ∷ xs) (suc place) e =
    let own = neither_is (test x) (list_any test xs) e in
    ap (λ b. b || list_any test (without place xs)) own.0 ∙ any_less test xs place own.1

pub apart_less : (keys : List (Option ℕ)) (place : ℕ) → AreApart keys → AreApart (without place keys)
apart_less [] place apart = tt
apart_less (k ∷ keys) zero apart = apart.1
apart_less (None ∷ keys) (suc place) apart = (tt, apart_less keys place apart.1)
apart_less (Some a ∷ keys) (suc place) apart = (any_less (is_key a) keys place apart.0, apart_less keys place apart.1)

pub length_less : {X Y : Type 0} (xs : List X) (ys : List Y) (place : ℕ) → length xs ≡ length ys → length (without place xs) ≡ length (without place ys)
length_less [] [] place pair = refl
length_less [] (y ∷ ys) place pair = absurd (omega (arith, pair))
length_less (x ∷ xs) [] place pair = absurd (omega (arith, pair))
length_less (x ∷ xs) (y ∷ ys) zero pair = omega (arith, pair)
length_less (x ∷ xs) (y ∷ ys) (suc place) pair = let e = length_less xs ys place (omega (arith, pair)) in omega (arith, e)

-- ---- all of it

pub numbered_more : (keys : List (Option ℕ)) (ns : List ℕ) (next : ℕ) (noted : BTreeMap ℕ ℕ) (k : Option ℕ) (new_keys : List (Option ℕ)) (new_ns : List ℕ) (after : ℕ)
    (new_noted : BTreeMap ℕ ℕ) → AreNumbered keys ns next noted → IfSome k (λ key. list_any (is_key key) keys ≡ false) → after ≡ next + 1
    → new_keys ≡ keys ++ k ∷ [] → new_ns ≡ ns ++ next ∷ [] → ((q : ℕ) → get nat_cmp new_noted q ≡ cond (is_key q k) (Some next) (get nat_cmp noted q))
    → AreNumbered new_keys new_ns after new_noted
numbered_more keys ns next noted k new_keys new_ns after new_noted are new then_is keys_are ns_are noted_is = record {
  paired = ap length ns_are ∙ length-append ns (next ∷ []) ∙ ap (λ n. n + 1) are.paired ∙ sym (ap length keys_are ∙ length-append keys (k ∷ []));
  apart = subst AreApart (sym keys_are) (apart_more k keys are.apart new);
  rise = subst (λ (n : ℕ). RiseBetween 0 new_ns n) (sym then_is) (subst (λ (l : List ℕ). RiseBetween 0 l (next + 1)) (sym ns_are) (rise_more 0 ns next are.rise));
  known = λ q.
      noted_is q ∙ ap (cond (is_key q k) (Some next)) (are.known q) ∙ known_more q k next keys ns are.paired (absent_from q k keys new)
      ∙ ap (λ l. number_of q l (ns ++ next ∷ [])) (sym keys_are) ∙ ap (number_of q new_keys) (sym ns_are);
}

pub numbered_less : (keys : List (Option ℕ)) (ns : List ℕ) (next : ℕ) (noted : BTreeMap ℕ ℕ) (k : Option ℕ) (place : ℕ) (new_keys : List (Option ℕ)) (new_ns : List ℕ)
    (new_noted : BTreeMap ℕ ℕ) → AreNumbered keys ns next noted → slice_get keys place ≡ Some k → new_keys ≡ take place keys ++ drop (place + 1) keys
    → new_ns ≡ take place ns ++ drop (place + 1) ns → ((q : ℕ) → get nat_cmp new_noted q ≡ cond (is_key q k) None (get nat_cmp noted q))
    → AreNumbered new_keys new_ns next new_noted
numbered_less keys ns next noted k place new_keys new_ns new_noted are there keys_left ns_left noted_is =
    let keys_are : new_keys ≡ without place keys = keys_left ∙ without_is place keys in
    let ns_are : new_ns ≡ without place ns = ns_left ∙ without_is place ns in
    record {
      paired = ap length ns_are ∙ length_less ns keys place are.paired ∙ sym (ap length keys_are);
      apart = subst AreApart (sym keys_are) (apart_less keys place are.apart);
      rise = subst (λ (l : List ℕ). RiseBetween 0 l next) (sym ns_are) (rise_without 0 ns next place are.rise);
      known = λ q.
          noted_is q ∙ ap (cond (is_key q k) None) (are.known q) ∙ known_less q k keys ns place are.paired are.apart there
          ∙ ap (λ l. number_of q l (without place ns)) (sym keys_are) ∙ ap (number_of q new_keys) (sym ns_are);
    }
