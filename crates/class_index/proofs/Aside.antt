-- Interfaces with no method of the library above them are not missed among the classes above.
use Rattle.std.proofs.Common.{◌≡◌, ℕ, zero, suc, ◌+◌, ◌≤◌, Bool, true, false, cond, not, ◌&&◌, ◌||◌, List, [], ◌∷◌, ◌++◌, length, Some, refl, sym, ap, subst, ◌∙◌, inl, inr, arith}
use Rattle.std.specs.Prelude.{bytes_eq}
use Rattle.std.specs.List.{filter, list_all}
use Rattle.std.specs.Option.{option_map_or}
use Rattle.std.specs.BTreeSet.{BTreeSet}
use Rattle.std.proofs.lemmas.Bool.{cases_Bool, false≢true}
use Rattle.std.proofs.lemmas.List.{append-nil, length-append}
use Rattle.std.proofs.lemmas.List.Elements.{filter-append}
use Rattle.std.proofs.lemmas.Slice.Eq.{bytes_eq-Decides}
use Rattle.api_listing.specs.declared.types.ListedClass.{ListedClass}
use Rattle.api_listing.specs.Nearest.{class_named, interfaces_of}
use Rattle.api_listing.specs.Seen.{has_name}
use Rattle.bytecode_model.specs.SearchOrder.{Name, interfaces_above, interfaces_from, is_one_of, most, reached, with_above, with_name}
use Rattle.bytecode_model.proofs.Placing.{same_name}
use Rattle.class_index.specs.Library.{may_own, AreMemberless}

same_as_itself : (name : Name) → bytes_eq name name ≡ true
same_as_itself name = (bytes_eq-Decides name name).1 refl

one_of_more : (names : List Name) (name q : Name) → is_one_of (names ++ name ∷ []) q ≡ (is_one_of names q || (bytes_eq name q || false))
one_of_more [] name q = refl
one_of_more (x ∷ names) name q = by (bytes_eq x q) (one_of_more names name q) where
  by : (b : Bool) → is_one_of (names ++ name ∷ []) q ≡ (is_one_of names q || (bytes_eq name q || false)) → (b || is_one_of (names ++ name ∷ []) q) ≡ ((b || is_one_of names q) || (bytes_eq name q || false))
  by true e = refl
  by false e = e

parts : (a b : Bool) → (a && b) ≡ true → (a ≡ true) × (b ≡ true)
parts true b e = (refl, e)
parts false b e = absurd (false≢true e)

-- what all pass, each of them passes
pub each_passes : (test : Name → Bool) (names : List Name) (name : Name) → list_all test names ≡ true → is_one_of names name ≡ true → test name ≡ true
each_passes test [] name all one = absurd (false≢true one)
each_passes test (x ∷ names) name all one = by (bytes_eq x name) refl one (parts (test x) (list_all test names) all) (each_passes test names name) where
  by : (b : Bool) → bytes_eq x name ≡ b → (b || is_one_of names name) ≡ true → (test x ≡ true) × (list_all test names ≡ true)
      → (list_all test names ≡ true → is_one_of names name ≡ true → test name ≡ true) → test name ≡ true
  by true same e all later =
      let here : x ≡ name = same_name x name same in
      ap test (sym here) ∙ all.0
  by false same e all later = later all.1 e

-- ---- how many names can still come to wait

-- the interfaces of classes that are not yet found
abbrev still : List Name → List ListedClass → ℕ
still found [] = 0
still found (c ∷ classes) = cond (is_one_of found c.name) 0 (length c.interfaces) + still found classes

less_of : (a b : Bool) (n : ℕ) → cond (a || b) 0 n ≤ cond a 0 n
less_of true b n = omega arith
less_of false true n = omega arith
less_of false false n = omega arith

one_less : (found : List Name) (name : Name) (c : ListedClass) → cond (is_one_of (found ++ name ∷ []) c.name) 0 (length c.interfaces) ≤ cond (is_one_of found c.name) 0 (length c.interfaces)
one_less found name c =
    subst (λ (b : Bool). cond b 0 (length c.interfaces) ≤ cond (is_one_of found c.name) 0 (length c.interfaces)) (sym (one_of_more found name c.name))
    (less_of (is_one_of found c.name) (bytes_eq name c.name || false) (length c.interfaces))

still_less : (found : List Name) (name : Name) (classes : List ListedClass) → still (found ++ name ∷ []) classes ≤ still found classes
still_less found name [] = omega arith
still_less found name (c ∷ classes) =
    let one = one_less found name c in
    let more = still_less found name classes in
    omega (arith, one, more)

gone : (found : List Name) (name : Name) → is_one_of (found ++ name ∷ []) name ≡ true
gone found name = one_of_more found name name ∙ ap (λ (b : Bool). is_one_of found name || (b || false)) (same_as_itself name) ∙ by (is_one_of found name) where
  by : (b : Bool) → (b || true) ≡ true
  by true = refl
  by false = refl

-- what a new name brings, the others lose
paid : (found : List Name) (name : Name) → is_one_of found name ≡ false → (classes : List ListedClass) → still (found ++ name ∷ []) classes + length (interfaces_above classes name) ≤ still found classes
paid found name new [] = omega arith
paid found name new (c ∷ classes) = by (bytes_eq c.name name) refl (paid found name new classes) where
  by : (b : Bool) → bytes_eq c.name name ≡ b → still (found ++ name ∷ []) classes + length (interfaces_above classes name) ≤ still found classes
      → (cond (is_one_of (found ++ name ∷ []) c.name) 0 (length c.interfaces) + still (found ++ name ∷ []) classes)
      + length (option_map_or (λ (k : ListedClass). k.interfaces) (cond b (Some c) (class_named classes name)) [])
      ≤ cond (is_one_of found c.name) 0 (length c.interfaces) + still found classes
  by true is rest =
      let here : c.name ≡ name = same_name c.name name is in
      let before : is_one_of found c.name ≡ false = ap (is_one_of found) here ∙ new in
      let after : is_one_of (found ++ name ∷ []) c.name ≡ true = ap (is_one_of (found ++ name ∷ [])) here ∙ gone found name in
      let more = still_less found name classes in
      rw (before, after) (omega (arith, more))
  by false is rest =
      let one = one_less found name c in
      omega (arith, one, rest)

-- how many names can come to wait, and wait
abbrev need : List ListedClass → List Name → List Name → ℕ
need classes found waiting = length waiting + still found classes

less_need : (classes : List ListedClass) (found : List Name) (name : Name) (waiting : List Name)
    → need classes (with_name found name) (with_above classes found name waiting) + 1 ≤ need classes found (name ∷ waiting)
less_need classes found name waiting = by (is_one_of found name) refl where
  by : (b : Bool) → is_one_of found name ≡ b
      → need classes (cond b found (found ++ name ∷ [])) (cond b waiting (waiting ++ interfaces_above classes name)) + 1 ≤ need classes found (name ∷ waiting)
  by true is = omega arith
  by false is =
      let count = length-append waiting (interfaces_above classes name) in
      let less = paid found name is classes in
      omega (arith, count, less)

still_at_first : (classes : List ListedClass) → still [] classes ≡ length (interfaces_of classes)
still_at_first [] = refl
still_at_first (c ∷ classes) =
    let count = length-append c.interfaces (interfaces_of classes) in
    let more = still_at_first classes in
    omega (arith, count, more)

all_needed : (classes : List ListedClass) (names : List Name) → need classes [] names ≤ most classes names
all_needed classes names = let count = still_at_first classes in omega (arith, count)

-- ---- what is reached, but for quiet names

module _ (owners : BTreeSet Name) (classes : List ListedClass) (memberless : BTreeSet Name) (are : AreMemberless owners classes memberless) where
  abbrev is_loud : Name → Bool
  is_loud name = not (has_name memberless name)

  abbrev loud : List Name → List Name
  loud names = filter is_loud names

  abbrev owned : List Name → List Name
  owned names = filter (may_own owners) names

  no_owner : (name : Name) → has_name memberless name ≡ true → may_own owners name ≡ false
  no_owner name is = by (may_own owners name) (parts (not (may_own owners name)) (list_all (has_name memberless) (interfaces_above classes name)) (are name is)).0 where
    by : (b : Bool) → not b ≡ true → b ≡ false
    by true e = sym e
    by false e = refl

  memberless_above : (name : Name) → has_name memberless name ≡ true → list_all (has_name memberless) (interfaces_above classes name) ≡ true
  memberless_above name is = (parts (not (may_own owners name)) (list_all (has_name memberless) (interfaces_above classes name)) (are name is)).1

  none_loud : (names : List Name) → list_all (has_name memberless) names ≡ true → loud names ≡ []
  none_loud [] e = refl
  none_loud (x ∷ names) e =
      let both = parts (has_name memberless x) (list_all (has_name memberless) names) e in
      let here : has_name memberless x ≡ true = both.0 in
      rw here (none_loud names both.1)

  owned_loud : (names : List Name) → owned (loud names) ≡ owned names
  owned_loud [] = refl
  owned_loud (x ∷ names) = by (has_name memberless x) refl (owned_loud names) where
    by : (b : Bool) → has_name memberless x ≡ b → owned (loud names) ≡ owned names → owned (cond (not b) (x ∷ loud names) (loud names)) ≡ owned (x ∷ names)
    by true is e =
        let foreign : may_own owners x ≡ false = no_owner x is in
        rw foreign e
    by false is e = ap (λ (rest : List Name). cond (may_own owners x) (x ∷ rest) rest) e

  -- a quiet name changes nothing
  memberless_found : (found : List Name) (x : Name) → has_name memberless x ≡ true → loud (with_name found x) ≡ loud found
  memberless_found found x is = by (is_one_of found x) where
    one : loud (x ∷ []) ≡ []
    one = rw is refl

    by : (b : Bool) → loud (cond b found (found ++ x ∷ [])) ≡ loud found
    by true = refl
    by false = filter-append is_loud found (x ∷ []) ∙ ap (λ (rest : List Name). loud found ++ rest) one ∙ append-nil (loud found)

  memberless_waiting : (found : List Name) (x : Name) (waiting : List Name) → has_name memberless x ≡ true → loud (with_above classes found x waiting) ≡ loud waiting
  memberless_waiting found x waiting is = by (is_one_of found x) where
    by : (b : Bool) → loud (cond b waiting (waiting ++ interfaces_above classes x)) ≡ loud waiting
    by true = refl
    by false =
        filter-append is_loud waiting (interfaces_above classes x)
        ∙ ap (λ (rest : List Name). loud waiting ++ rest) (none_loud (interfaces_above classes x) (memberless_above x is)) ∙ append-nil (loud waiting)

  -- a loud one is found where it is found among the loud ones
  loud_one : (names : List Name) (x : Name) → has_name memberless x ≡ false → is_one_of (loud names) x ≡ is_one_of names x
  loud_one [] x is = refl
  loud_one (y ∷ names) x is = by (has_name memberless y) refl (loud_one names x is) where
    other : (b : Bool) → bytes_eq y x ≡ b → has_name memberless y ≡ true → b ≡ false
    other true same noted =
        let here : y ≡ x = same_name y x same in
        absurd (false≢true (sym is ∙ ap (has_name memberless) (sym here) ∙ noted))
    other false same noted = refl

    by : (b : Bool) → has_name memberless y ≡ b → is_one_of (loud names) x ≡ is_one_of names x → is_one_of (cond (not b) (y ∷ loud names) (loud names)) x ≡ (bytes_eq y x || is_one_of names x)
    by true noted e = e ∙ sym (ap (λ (b : Bool). b || is_one_of names x) (other (bytes_eq y x) refl noted))
    by false noted e = ap (λ (b : Bool). bytes_eq y x || b) e

  alike_one : (found other : List Name) (x : Name) → has_name memberless x ≡ false → loud found ≡ loud other → is_one_of found x ≡ is_one_of other x
  alike_one found other x is same = sym (loud_one found x is) ∙ ap (λ (names : List Name). is_one_of names x) same ∙ loud_one other x is

  loud_found : (found other : List Name) (x : Name) → has_name memberless x ≡ false → loud found ≡ loud other → loud (with_name found x) ≡ loud (with_name other x)
  loud_found found other x is same =
      by (is_one_of found x) ∙ ap (λ (b : Bool). loud (cond b other (other ++ x ∷ []))) (alike_one found other x is same) where
        by : (b : Bool) → loud (cond b found (found ++ x ∷ [])) ≡ loud (cond b other (other ++ x ∷ []))
        by true = same
        by false = filter-append is_loud found (x ∷ []) ∙ ap (λ (front : List Name). front ++ loud (x ∷ [])) same ∙ sym (filter-append is_loud other (x ∷ []))

  loud_waiting : (found other : List Name) (x : Name) (v w : List Name) → has_name memberless x ≡ false → loud found ≡ loud other → loud v ≡ loud w
      → loud (with_above classes found x v) ≡ loud (with_above classes other x w)
  loud_waiting found other x v w is same alike =
      by (is_one_of found x) ∙ ap (λ (b : Bool). loud (cond b w (w ++ interfaces_above classes x))) (alike_one found other x is same) where
        by : (b : Bool) → loud (cond b v (v ++ interfaces_above classes x)) ≡ loud (cond b w (w ++ interfaces_above classes x))
        by true = alike
        by false = filter-append is_loud v (interfaces_above classes x) ∙ ap (λ (front : List Name). front ++ loud (interfaces_above classes x)) alike ∙ sym (filter-append is_loud w (interfaces_above classes x))

  -- ---- two ways that differ in quiet names

  abbrev Alike : ℕ → ℕ → List Name → List Name → List Name → List Name → Type 0
  Alike n m found other v w = owned (reached n classes found v) ≡ owned (reached m classes other w)

  abbrev Goes : ℕ → Type 0
  Goes k = (n m : ℕ) (found other v w : List Name) → n + m ≤ k → need classes found v ≤ n → need classes other w ≤ m → loud found ≡ loud other → loud v ≡ loud w → Alike n m found other v w

  at_end : (n : ℕ) (found : List Name) → reached n classes found [] ≡ found
  at_end zero found = refl
  at_end (suc n) found = refl

  both_end : (n m : ℕ) (found other : List Name) → loud found ≡ loud other → Alike n m found other [] []
  both_end n m found other same =
      ap owned (at_end n found) ∙ sym (owned_loud found) ∙ ap owned same ∙ owned_loud other ∙ sym (ap owned (at_end m other))

  left_memberless : (k : ℕ) → Goes k → (n m : ℕ) (found other : List Name) (x : Name) (v w : List Name) → has_name memberless x ≡ true → n + m ≤ suc k
      → need classes found (x ∷ v) ≤ n → need classes other w ≤ m → loud found ≡ loud other → loud v ≡ loud w → Alike n m found other (x ∷ v) w
  left_memberless k goes zero m found other x v w is le few less same alike = absurd (omega (arith, few))
  left_memberless k goes (suc n) m found other x v w is le few less same alike =
      let one = less_need classes found x v in
      goes n m (with_name found x) other (with_above classes found x v) w (omega (arith, le)) (omega (arith, few, one)) less
      (memberless_found found x is ∙ same) (memberless_waiting found x v is ∙ alike)

  right_memberless : (k : ℕ) → Goes k → (n m : ℕ) (found other : List Name) (v : List Name) (y : Name) (w : List Name) → has_name memberless y ≡ true → n + m ≤ suc k
      → need classes found v ≤ n → need classes other (y ∷ w) ≤ m → loud found ≡ loud other → loud v ≡ loud w → Alike n m found other v (y ∷ w)
  right_memberless k goes n zero found other v y w is le few less same alike = absurd (omega (arith, less))
  right_memberless k goes n (suc m) found other v y w is le few less same alike =
      let one = less_need classes other y w in
      goes n m found (with_name other y) v (with_above classes other y w) (omega (arith, le)) few (omega (arith, less, one))
      (same ∙ sym (memberless_found other y is)) (alike ∙ sym (memberless_waiting other y w is))

  both_loud : (k : ℕ) → Goes k → (n m : ℕ) (found other : List Name) (x : Name) (v w : List Name) → has_name memberless x ≡ false → n + m ≤ suc k
      → need classes found (x ∷ v) ≤ n → need classes other (x ∷ w) ≤ m → loud found ≡ loud other → loud v ≡ loud w → Alike n m found other (x ∷ v) (x ∷ w)
  both_loud k goes zero m found other x v w is le few less same alike = absurd (omega (arith, few))
  both_loud k goes (suc n) zero found other x v w is le few less same alike = absurd (omega (arith, less))
  both_loud k goes (suc n) (suc m) found other x v w is le few less same alike =
      let one = less_need classes found x v in
      let two = less_need classes other x w in
      goes n m (with_name found x) (with_name other x) (with_above classes found x v) (with_above classes other x w) (omega (arith, le)) (omega (arith, few, one)) (omega (arith, less, two))
      (loud_found found other x is same) (loud_waiting found other x v w is same alike)

  heads_same : (x y : Name) (v w : List Name) → ◌≡◌ {A = List Name} (x ∷ v) (y ∷ w) → (x ≡ y) × (v ≡ w)
  heads_same x y v w e = (cc, cc)

  loud_front : (x : Name) (v : List Name) → has_name memberless x ≡ false → loud (x ∷ v) ≡ x ∷ loud v
  loud_front x v is = rw is refl

  memberless_front : (x : Name) (v : List Name) → has_name memberless x ≡ true → loud (x ∷ v) ≡ loud v
  memberless_front x v is = rw is refl

  right_goes : (k : ℕ) → Goes k → (n m : ℕ) (found other : List Name) (x : Name) (v : List Name) (y : Name) (w : List Name) → has_name memberless x ≡ false → n + m ≤ suc k
      → need classes found (x ∷ v) ≤ n → need classes other (y ∷ w) ≤ m → loud found ≡ loud other → loud (x ∷ v) ≡ loud (y ∷ w) → Alike n m found other (x ∷ v) (y ∷ w)
  right_goes k goes n m found other x v y w is le few less same alike =
      elim (cases_Bool (has_name memberless y)) [
        | inl noted ↦ right_memberless k goes n m found other (x ∷ v) y w noted le few less same (alike ∙ memberless_front y w noted)
        | inr other_is ↦
            let both = heads_same x y (loud v) (loud w) (sym (loud_front x v is) ∙ alike ∙ loud_front y w other_is) in
            let less_here : need classes other (x ∷ w) ≤ m = less in
            subst (λ (z : Name). Alike n m found other (x ∷ v) (z ∷ w)) both.0 (both_loud k goes n m found other x v w is le few less_here same both.1)
      ]

  left_goes : (k : ℕ) → Goes k → (n m : ℕ) (found other : List Name) (x : Name) (v w : List Name) → has_name memberless x ≡ false → n + m ≤ suc k
      → need classes found (x ∷ v) ≤ n → need classes other w ≤ m → loud found ≡ loud other → loud (x ∷ v) ≡ loud w → Alike n m found other (x ∷ v) w
  left_goes k goes n m found other x v [] is le few less same alike =
      let none : ◌≡◌ {A = List Name} (x ∷ loud v) [] = sym (loud_front x v is) ∙ alike in
      absurd cc
  left_goes k goes n m found other x v (y ∷ w) is le few less same alike = right_goes k goes n m found other x v y w is le few less same alike

  goes : (k : ℕ) → Goes k
  goes k n m found other [] [] le few less same alike = both_end n m found other same
  goes zero n m found other [] (y ∷ w) le few less same alike = absurd (omega (arith, le, less))
  goes (suc k) n m found other [] (y ∷ w) le few less same alike =
      elim (cases_Bool (has_name memberless y)) [
        | inl noted ↦ right_memberless k (goes k) n m found other [] y w noted le few less same (alike ∙ memberless_front y w noted)
        | inr is ↦
            let none : ◌≡◌ {A = List Name} [] (y ∷ loud w) = alike ∙ loud_front y w is in
            absurd cc
      ]
  goes zero n m found other (x ∷ v) w le few less same alike = absurd (omega (arith, le, few))
  goes (suc k) n m found other (x ∷ v) w le few less same alike =
      elim (cases_Bool (has_name memberless x)) [
        | inl noted ↦ left_memberless k (goes k) n m found other x v w noted le few less same (sym (memberless_front x v noted) ∙ alike)
        | inr is ↦ left_goes k (goes k) n m found other x v w is le few less same alike
      ]

  -- the classes above that may have methods of the library, without the quiet interfaces at the front
  pub memberless_aside : (names rest : List Name) → list_all (has_name memberless) names ≡ true → owned (interfaces_from classes (names ++ rest)) ≡ owned (interfaces_from classes rest)
  memberless_aside names rest all =
      let n = most classes (names ++ rest) in
      let m = most classes rest in
      let alike : loud (names ++ rest) ≡ loud rest = filter-append is_loud names rest ∙ ap (λ (front : List Name). front ++ loud rest) (none_loud names all) in
      goes (n + m) n m [] [] (names ++ rest) rest (omega arith) (all_needed classes (names ++ rest)) (all_needed classes rest) refl alike
