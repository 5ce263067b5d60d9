-- A loop that reads counted items, one after another.
use Rattle.std.proofs.Common.{◌≡◌, ℕ, suc, ◌+◌, ◌-◌, ◌<◌, ◌≤◌, List, [], ◌∷◌, ◌++◌, Result, Ok, Err, refl, sym, ap, ◌∙◌, append_assoc, arith}
use Rattle.std.proofs.lemmas.List.{append-nil}
use Rattle.mon_base.specs.Answer.{Fails}
use Rattle.mon_base.specs.Reading.{Place, ◌>>=◌, counted}
use Rattle.mon_base.proofs.Reading.{answer}

-- what is read, where the items of front were read before
abbrev pub with_front : {X E : Type 0} → List X → Result (List X × Place) E → Result (List X × Place) E
with_front front read = read >>= λ x. Ok (front ++ x.0, x.1)

pub regroup : {X E : Type 0} (front : List X) (x : X) (read : Result (List X × Place) E)
    → with_front front (read >>= λ y. Ok (x ∷ y.0, y.1)) ≡ with_front (front ++ x ∷ []) read
regroup {X = X} {E = E} front x (Ok y) = ap (λ (xs : List X). answer E (xs, y.1)) (sym (append_assoc front (x ∷ []) y.0))
regroup front x (Err e) = refl

pub goes_on : {X E : Type 0} (item : Place → Result (X × Place) E) (front : List X) (count i : ℕ) (place : Place) (x : X) (next : Place) (total : Result (List X × Place) E)
    → i < count → item place ≡ Ok (x, next) → with_front front (counted item (count - i) place) ≡ total
    → with_front (front ++ x ∷ []) (counted item (count - (i + 1)) next) ≡ total
unfolding counted
goes_on item front count i place x next total lt h so_far =
    let k : count - i ≡ suc (count - (i + 1)) = omega arith in
    let step : with_front front (counted item (count - i) place) ≡ with_front (front ++ x ∷ []) (counted item (count - (i + 1)) next) = rw (k, h) (regroup front x (counted item (count - (i + 1)) next)) in
    sym step ∙ so_far

pub ends : {X E : Type 0} (memory : E) (item : Place → Result (X × Place) E) (fault : E) (front : List X) (count i : ℕ) (place : Place) (total : Result (List X × Place) E)
    → i < count → Fails memory fault (item place) → with_front front (counted item (count - i) place) ≡ total → Fails memory fault total
unfolding counted
ends memory item fault front count i place total lt h so_far is_told =
    let k : count - i ≡ suc (count - (i + 1)) = omega arith in
    let step : with_front front (counted item (count - i) place) ≡ Err fault = rw (k, h is_told) refl in
    sym so_far ∙ step

pub is_done : {X E : Type 0} (item : Place → Result (X × Place) E) (front : List X) (count i : ℕ) (place : Place) (total : Result (List X × Place) E)
    → count ≤ i → with_front front (counted item (count - i) place) ≡ total → total ≡ Ok (front, place)
unfolding counted
is_done {X = X} {E = E} item front count i place total le so_far =
    let k : count - i ≡ 0 = omega arith in
    let step : with_front front (counted item (count - i) place) ≡ Ok (front, place) = rw k (ap (λ (xs : List X). answer E (xs, place)) (append-nil front)) in
    sym so_far ∙ step
