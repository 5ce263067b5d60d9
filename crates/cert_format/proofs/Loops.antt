-- Loops that read items, one after another.
use Rattle.std.proofs.Common.{◌≡◌, ℕ, suc, ◌-◌, ◌+◌, ◌≤◌, ◌<◌, List, [], ◌∷◌, ◌++◌, length, map, get_or, take, min, Result, Ok, Err, refl, sym, ap, ◌∙◌, append_assoc, arith}
use Rattle.std.specs.List.{flat_map, zip}
use Rattle.std.proofs.lemmas.List.{append-nil, take_all, take_more}
use Rattle.std.proofs.lemmas.Grind.{flat_map-append}
use Rattle.std.proofs.lemmas.Slice.Zip.{length-zip, get_or-zip}
use Rattle.mon_base.specs.Reading.{Place, ◌>>=◌}
use Rattle.cert_format.specs.declared.fault.CertForm.{CertForm}
use Rattle.cert_format.specs.declared.fault.CertForm.TheVariants.{Memory}
use Rattle.cert_format.specs.Names.{Name}
use Rattle.mon_base.specs.Answer.{Fails}
use Rattle.cert_format.specs.Reading.{Decoded, several_at, told_name, more_names_at}

-- ---- items that use names

-- what was read before, and what is still read
abbrev pub with_front : {X : Type 0} → List X → Decoded (List X × ℕ) → Decoded (List X × ℕ)
with_front front read = read >>= λ x. Ok ((front ++ x.0.0, x.0.1), x.1)

abbrev answer : {A : Type 0} → A → Result A CertForm
answer x = Ok x

regroup : {X : Type 0} (front : List X) (first : X) (read : Decoded (List X × ℕ))
    → with_front front (read >>= λ x. Ok ((first ∷ x.0.0, x.0.1), x.1)) ≡ with_front (front ++ first ∷ []) read
regroup {X = X} front first (Ok x) = ap (λ (xs : List X). answer ((xs, x.0.1), x.1)) (sym (append_assoc front (first ∷ []) x.0.0))
regroup front first (Err e) = refl

pub goes_on : {X : Type 0} (item : ℕ → Place → Decoded (X × ℕ)) (front : List X) (count i used : ℕ) (place : Place) (x : X) (after : ℕ) (next : Place)
    (total : Decoded (List X × ℕ)) → i < count → item used place ≡ Ok ((x, after), next)
    → with_front front (several_at item (count - i) used place) ≡ total
    → with_front (front ++ x ∷ []) (several_at item (count - (i + 1)) after next) ≡ total
unfolding several_at
goes_on item front count i used place x after next total lt h so_far =
    let k : count - i ≡ suc (count - (i + 1)) = omega arith in
    let one : with_front front (several_at item (count - i) used place) ≡ with_front (front ++ x ∷ []) (several_at item (count - (i + 1)) after next) = rw (k, h) (regroup front x (several_at item (count - (i + 1)) after next)) in
    sym one ∙ so_far

pub ends : {X : Type 0} (item : ℕ → Place → Decoded (X × ℕ)) (e : CertForm) (front : List X) (count i used : ℕ) (place : Place)
    (total : Decoded (List X × ℕ)) → i < count → Fails Memory e (item used place)
    → with_front front (several_at item (count - i) used place) ≡ total → Fails Memory e total
unfolding several_at
ends item e front count i used place total lt h so_far is_told =
    let k : count - i ≡ suc (count - (i + 1)) = omega arith in
    let one : with_front front (several_at item (count - i) used place) ≡ Err e = rw (k, h is_told) refl in
    sym so_far ∙ one

pub is_done : {X : Type 0} (item : ℕ → Place → Decoded (X × ℕ)) (front : List X) (count i used : ℕ) (place : Place) (total : Decoded (List X × ℕ))
    → count ≤ i → with_front front (several_at item (count - i) used place) ≡ total → total ≡ Ok ((front, used), place)
unfolding several_at
is_done {X = X} item front count i used place total le so_far =
    let k : count - i ≡ 0 = omega arith in
    let one : with_front front (several_at item (count - i) used place) ≡ Ok ((front, used), place) = rw k (ap (λ (xs : List X). answer ((xs, used), place)) (append-nil front)) in
    sym so_far ∙ one

-- ---- pairs, whose halves go into two lists

-- what was read before, and what is still read
abbrev pub with_fronts : {F N : Type 0} → List F → List N → Decoded (List (F × N) × ℕ) → Decoded ((List F × List N) × ℕ)
with_fronts firsts seconds read =
    read >>= λ x. Ok (((firsts ++ map (λ pair. pair.0) x.0.0, seconds ++ map (λ pair. pair.1) x.0.0), x.0.1), x.1)

regroup_both : {F N : Type 0} (firsts : List F) (seconds : List N) (pair : F × N) (read : Decoded (List (F × N) × ℕ))
    → with_fronts firsts seconds (read >>= λ x. Ok ((pair ∷ x.0.0, x.0.1), x.1)) ≡ with_fronts (firsts ++ pair.0 ∷ []) (seconds ++ pair.1 ∷ []) read
regroup_both {F = F} {N = N} firsts seconds pair (Ok x) =
    let one = sym (append_assoc firsts (pair.0 ∷ []) (map (λ (p : F × N). p.0) x.0.0)) in
    let two = sym (append_assoc seconds (pair.1 ∷ []) (map (λ (p : F × N). p.1) x.0.0)) in
    rw (one, two) refl
regroup_both firsts seconds pair (Err e) = refl

pub both_go_on : {F N : Type 0} (item : ℕ → Place → Decoded ((F × N) × ℕ)) (firsts : List F) (seconds : List N) (count i used : ℕ) (place : Place)
    (pair : F × N) (after : ℕ) (next : Place) (total : Decoded ((List F × List N) × ℕ)) → i < count → item used place ≡ Ok ((pair, after), next)
    → with_fronts firsts seconds (several_at item (count - i) used place) ≡ total
    → with_fronts (firsts ++ pair.0 ∷ []) (seconds ++ pair.1 ∷ []) (several_at item (count - (i + 1)) after next) ≡ total
unfolding several_at
both_go_on item firsts seconds count i used place pair after next total lt h so_far =
    let k : count - i ≡ suc (count - (i + 1)) = omega arith in
    let one : with_fronts firsts seconds (several_at item (count - i) used place)
    ≡ with_fronts (firsts ++ pair.0 ∷ []) (seconds ++ pair.1 ∷ []) (several_at item (count - (i + 1)) after next) = rw (k, h) (regroup_both firsts seconds pair (several_at item (count - (i + 1)) after next)) in
    sym one ∙ so_far

pub both_end : {F N : Type 0} (item : ℕ → Place → Decoded ((F × N) × ℕ)) (e : CertForm) (firsts : List F) (seconds : List N) (count i used : ℕ)
    (place : Place) (total : Decoded ((List F × List N) × ℕ)) → i < count → Fails Memory e (item used place)
    → with_fronts firsts seconds (several_at item (count - i) used place) ≡ total → Fails Memory e total
unfolding several_at
both_end item e firsts seconds count i used place total lt h so_far is_told =
    let k : count - i ≡ suc (count - (i + 1)) = omega arith in
    let one : with_fronts firsts seconds (several_at item (count - i) used place) ≡ Err e = rw (k, h is_told) refl in
    sym so_far ∙ one

pub both_done : {F N : Type 0} (item : ℕ → Place → Decoded ((F × N) × ℕ)) (firsts : List F) (seconds : List N) (count i used : ℕ) (place : Place)
    (total : Decoded ((List F × List N) × ℕ)) → count ≤ i → with_fronts firsts seconds (several_at item (count - i) used place) ≡ total
    → total ≡ Ok (((firsts, seconds), used), place)
unfolding several_at
both_done item firsts seconds count i used place total le so_far =
    let k : count - i ≡ 0 = omega arith in
    let one : with_fronts firsts seconds (several_at item (count - i) used place) ≡ Ok (((firsts, seconds), used), place) = rw (k, append-nil firsts, append-nil seconds) refl in
    sym so_far ∙ one

-- ---- names

pub names_go_on : (names : List Name) (count i : ℕ) (place : Place) (name : Name) (next : Place) (total : Decoded (List Name)) → i < count
    → told_name names place ≡ Ok (name, next)
    → more_names_at (count - i) names place ≡ total → more_names_at (count - (i + 1)) (names ++ name ∷ []) next ≡ total
unfolding more_names_at
names_go_on names count i place name next total lt h so_far =
    let k : count - i ≡ suc (count - (i + 1)) = omega arith in
    let one : more_names_at (count - i) names place ≡ more_names_at (count - (i + 1)) (names ++ name ∷ []) next = rw (k, h) refl in
    sym one ∙ so_far

pub names_end : (e : CertForm) (names : List Name) (count i : ℕ) (place : Place) (total : Decoded (List Name)) → i < count
    → Fails Memory e (told_name names place) → more_names_at (count - i) names place ≡ total → Fails Memory e total
unfolding more_names_at
names_end e names count i place total lt h so_far is_told =
    let k : count - i ≡ suc (count - (i + 1)) = omega arith in
    let one : more_names_at (count - i) names place ≡ Err e = rw (k, h is_told) refl in
    sym so_far ∙ one

pub names_done : (names : List Name) (count i : ℕ) (place : Place) (total : Decoded (List Name)) → count ≤ i
    → more_names_at (count - i) names place ≡ total → total ≡ Ok (names, place)
unfolding more_names_at
names_done names count i place total le so_far =
    let k : count - i ≡ 0 = omega arith in
    let one : more_names_at (count - i) names place ≡ Ok (names, place) = rw k refl in
    sym so_far ∙ one

-- ---- two lists at once

pub put_more : {A B : Type 0} (f : A × B → List ℕ) (xs : List A) (ys : List B) (i : ℕ) (x : A) (y : B) (out old new : List ℕ) → i < min (length xs) (length ys)
    → x ≡ get_or xs i x → y ≡ get_or ys i y
    → out ≡ old ++ flat_map f (take i (zip xs ys)) → new ≡ out ++ f (x, y) → new ≡ old ++ flat_map f (take (i + 1) (zip xs ys))
put_more {A = A} {B = B} f xs ys i x y out old new lt x_is y_is so_far more =
    let long : i < length (zip xs ys) = omega (arith, length-zip xs ys) in
    let at : get_or (zip xs ys) i (x, y) ≡ (x, y) = get_or-zip xs ys i (x, y) (omega arith) (omega arith) ∙ ap (λ (a : A). (a, get_or ys i y)) (sym x_is) ∙ ap (λ (b : B). (x, b)) (sym y_is) in
    let step : take (i + 1) (zip xs ys) ≡ take i (zip xs ys) ++ (x, y) ∷ [] = take_more (zip xs ys) i (x, y) long ∙ ap (λ (p : A × B). take i (zip xs ys) ++ p ∷ []) at in
    let all : flat_map f (take (i + 1) (zip xs ys)) ≡ flat_map f (take i (zip xs ys)) ++ f (x, y) = ap (flat_map f) step ∙ flat_map-append f (take i (zip xs ys)) ((x, y) ∷ []) ∙ ap (λ (t : List ℕ). flat_map f (take i (zip xs ys)) ++ t) (append-nil (f (x, y))) in
    more ∙ ap (λ (t : List ℕ). t ++ f (x, y)) so_far ∙ append_assoc old (flat_map f (take i (zip xs ys))) (f (x, y)) ∙ ap (λ (t : List ℕ). old ++ t) (sym all)

pub put_done : {A B : Type 0} (f : A × B → List ℕ) (xs : List A) (ys : List B) (i : ℕ) (out old : List ℕ) → min (length xs) (length ys) ≤ i
    → out ≡ old ++ flat_map f (take i (zip xs ys)) → out ≡ old ++ flat_map f (zip xs ys)
put_done f xs ys i out old le so_far =
    so_far ∙ ap (λ t. old ++ flat_map f t) (take_all i (zip xs ys) (omega (arith, length-zip xs ys)))
