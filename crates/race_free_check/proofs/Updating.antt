-- What a list of updates does to each variable.
use Rattle.std.proofs.Common.{◌≡◌, ◌≢◌, ◌⊎◌, inl, inr, ℕ, zero, suc, ℤ, ◌+ℤ◌, Bool, true, false, List, [], ◌∷◌, ◌++◌, Option, Some, None, refl, sym, ap, subst, ◌∙◌, arith}
use Rattle.std.specs.Prelude.{AllPairs, ◌==◌, if◌then◌else◌, option_map, slice_get, slice_set}
use Rattle.std.specs.Option.{option_map_or}
use Rattle.std.proofs.lemmas.Bool.{eqb-false, eqb-true}
use Rattle.std.proofs.lemmas.Option.{same_Some}
use Rattle.api_listing.specs.declared.events.Event.{Event}
use Rattle.conspec_tree.specs.declared.types.Update.{Update}
use Rattle.conspec_tree.specs.declared.types.Update.TheVariants.{Set, Add}
use Rattle.conspec_tree.specs.Updates.{target}
use Rattle.conspec_automaton.specs.Next.{Values, moment, updated}
use Rattle.race_free_check.proofs.Members.{Among, Has, place_of}
use Rattle.race_free_check.proofs.Moves.{By, Move, Stay, To, moved, joined, moved_joined}

-- ---- what updates make of a state

-- none reads the event
abbrev altered_once : Values → Update → Values
altered_once state (Set var value) = slice_set state var value
altered_once state (Add var by) = option_map_or (λ n. slice_set state var (n +ℤ by)) (slice_get state var) state

abbrev pub altered : Values → List Update → Values
altered state [] = state
altered state (u ∷ us) = altered (altered_once state u) us

pub updated_alters : (event : Event) (us : List Update) (state : Values) → updated (moment state event) us ≡ altered state us
updated_alters event [] state = refl
updated_alters event (Set var value ∷ us) state = updated_alters event us _
updated_alters event (Add var by ∷ us) state = updated_alters event us _

-- ---- one update

abbrev move_at : Update → Move
move_at (Set var value) = To value
move_at (Add var by) = By by

abbrev pub move_once : Update → ℕ → Move
move_once u i = if target u == i then move_at u else Stay

set_here : (state : Values) (i : ℕ) (n m : ℤ) → slice_get state i ≡ Some m → slice_get (slice_set state i n) i ≡ Some n
set_here [] i n m e = absurd cc
set_here (x ∷ state) zero n m e = refl
set_here (x ∷ state) (suc i) n m e = set_here state i n m e

set_past : (state : Values) (i : ℕ) (n : ℤ) → slice_get state i ≡ None → slice_get (slice_set state i n) i ≡ None
set_past [] i n e = refl
set_past (x ∷ state) zero n e = absurd cc
set_past (x ∷ state) (suc i) n e = set_past state i n e

set_there : (state : Values) (i j : ℕ) (n : ℤ) → i ≢ j → slice_get (slice_set state i n) j ≡ slice_get state j
set_there [] i j n ne = refl
set_there (x ∷ state) zero zero n ne = absurd (ne refl)
set_there (x ∷ state) zero (suc j) n ne = refl
set_there (x ∷ state) (suc i) zero n ne = refl
set_there (x ∷ state) (suc i) (suc j) n ne = set_there state i j n (λ e. ne (ap suc e))

once_there : (state : Values) (u : Update) (i : ℕ) → target u ≢ i → slice_get (altered_once state u) i ≡ slice_get state i
once_there state (Set var value) i ne = set_there state var i value ne
once_there state (Add var by) i ne = at (slice_get state var) where
  at : (o : Option ℤ) → slice_get (option_map_or (λ n. slice_set state var (n +ℤ by)) o state) i ≡ slice_get state i
  at None = refl
  at (Some n) = set_there state var i (n +ℤ by) ne

once_here : (state : Values) (u : Update) (i : ℕ) → target u ≡ i → slice_get (altered_once state u) i ≡ option_map (moved (move_at u)) (slice_get state i)
once_here state (Set var value) i e = subst (λ (j : ℕ). slice_get (slice_set state var value) j ≡ option_map (moved (To value)) (slice_get state j)) e (at (slice_get state var) refl) where
  at : (o : Option ℤ) → slice_get state var ≡ o → slice_get (slice_set state var value) var ≡ option_map (moved (To value)) (slice_get state var)
  at None is = set_past state var value is ∙ sym (ap (option_map (moved (To value))) is)
  at (Some n) is = set_here state var value n is ∙ sym (ap (option_map (moved (To value))) is)
once_here state (Add var by) i e = subst (λ (j : ℕ). slice_get (altered_once state (Add var by)) j ≡ option_map (moved (By by)) (slice_get state j)) e (at (slice_get state var) refl) where
  at : (o : Option ℤ) → slice_get state var ≡ o → slice_get (option_map_or (λ n. slice_set state var (n +ℤ by)) (slice_get state var) state) var ≡ option_map (moved (By by)) (slice_get state var)
  at None is = rw (is, is) refl
  at (Some n) is =
      let set : slice_get (slice_set state var (n +ℤ by)) var ≡ Some (n +ℤ by) = set_here state var (n +ℤ by) n is in
      let left : slice_get (option_map_or (λ n. slice_set state var (n +ℤ by)) (slice_get state var) state) var ≡ Some (n +ℤ by) = rw is set in
      let right : option_map (moved (By by)) (slice_get state var) ≡ Some (n +ℤ by) = rw is refl in
      left ∙ sym right

got_once : (state : Values) (u : Update) (i : ℕ) → slice_get (altered_once state u) i ≡ option_map (moved (move_once u i)) (slice_get state i)
got_once state u i = at (target u == i) refl where
  stays : (o : Option ℤ) → o ≡ option_map (moved Stay) o
  stays None = refl
  stays (Some n) = refl

  at : (b : Bool) → (target u == i) ≡ b → slice_get (altered_once state u) i ≡ option_map (moved (if b then move_at u else Stay)) (slice_get state i)
  at true e = once_here state u i (eqb-true (target u) i e)
  at false e = once_there state u i (eqb-false (target u) i e) ∙ stays (slice_get state i)

-- ---- many updates

abbrev pub moves : List Update → ℕ → Move
moves [] i = Stay
moves (u ∷ us) i = joined (move_once u i) (moves us i)

option_moved : (m k : Move) (o : Option ℤ) → option_map (moved k) (option_map (moved m) o) ≡ option_map (moved (joined m k)) o
option_moved m k None = refl
option_moved m k (Some x) = ap Some (sym (moved_joined m k x))

-- the value of a variable is moved by all of them
pub got : (state : Values) (us : List Update) (i : ℕ) → slice_get (altered state us) i ≡ option_map (moved (moves us i)) (slice_get state i)
got state [] i = stays (slice_get state i) where
  stays : (o : Option ℤ) → o ≡ option_map (moved Stay) o
  stays None = refl
  stays (Some n) = refl
got state (u ∷ us) i = got (altered_once state u) us i ∙ ap (option_map (moved (moves us i))) (got_once state u i) ∙ option_moved (move_once u i) (moves us i) (slice_get state i)

pub altered_twice : (state : Values) (us vs : List Update) → altered state (us ++ vs) ≡ altered (altered state us) vs
altered_twice state [] vs = refl
altered_twice state (u ∷ us) vs = altered_twice (altered_once state u) us vs

-- a variable that none is of stays
pub stays : (us : List Update) (i : ℕ) → ((u : Update) → Has us u → target u ≢ i) → moves us i ≡ Stay
stays [] i none = refl
stays (u ∷ us) i none = at (target u == i) refl (stays us i (λ w h. none w (inr h))) where
  at : (b : Bool) → (target u == i) ≡ b → moves us i ≡ Stay → joined (if b then move_at u else Stay) (moves us i) ≡ Stay
  at true e rest = absurd (none u (inl refl) (eqb-true (target u) i e))
  at false e rest = rest

-- a variable stays, or one of them is of it
pub touched : (us : List Update) (i : ℕ) → (moves us i ≡ Stay) ⊎ Among us (λ u. target u ≡ i)
touched [] i = inl refl
touched (u ∷ us) i = at (target u == i) refl (touched us i) where
  at : (b : Bool) → (target u == i) ≡ b → (moves us i ≡ Stay) ⊎ Among us (λ u. target u ≡ i) → (joined (if b then move_at u else Stay) (moves us i) ≡ Stay) ⊎ Among (u ∷ us) (λ u. target u ≡ i)
  at true e rest = inr (record { item = u; there = inl refl; so = eqb-true (target u) i e })
  at false e (inl stay) = inl stay
  at false e (inr m) = inr (record { item = m.item; there = inr m.there; so = m.so })

-- lists that agree at each place are one
pub each_same : (xs ys : Values) → ((i : ℕ) → slice_get xs i ≡ slice_get ys i) → xs ≡ ys
each_same [] [] each = refl
each_same [] (y ∷ ys) each = let e = each 0 in absurd cc
each_same (x ∷ xs) [] each = let e = each 0 in absurd cc
each_same (x ∷ xs) (y ∷ ys) each =
    let first = same_Some x y (each 0) in
    let rest = each_same xs ys (λ i. each (suc i)) in
    cc

-- ---- updates of different variables

abbrev Apart : List Update → Type 0
Apart [] = Unit {0}
Apart (u ∷ us) = ((w : Update) → Has us w → target u ≢ target w) × Apart us

-- What some updates do to a variable: nothing, or what one update does.
pub data IsOnce : List Update → ℕ → Move → Type 0 where
  untouched : {us : List Update} {i : ℕ} → IsOnce us i Stay
  set : {us : List Update} {i : ℕ} (c : ℤ) → IsOnce us i (To c)
  added : {us : List Update} {i : ℕ} (n : ℤ) → Has us (Add i n) → IsOnce us i (By n)

later : (u : Update) (us : List Update) (i : ℕ) (m : Move) → IsOnce us i m → IsOnce (u ∷ us) i m
later u us i m untouched = untouched
later u us i m (set c) = set c
later u us i m (added n h) = added n (inr h)

first_once : (u : Update) (us : List Update) (i : ℕ) → target u ≡ i → IsOnce (u ∷ us) i (joined (move_at u) Stay)
first_once (Set var value) us i e = set value
first_once (Add var by) us i e = added by (inl (ap (λ (j : ℕ). Add j by) e))

once : (us : List Update) (i : ℕ) → Apart us → IsOnce us i (moves us i)
once [] i apart = untouched
once (u ∷ us) i apart = at (target u == i) refl (once us i apart.1) where
  at : (b : Bool) → (target u == i) ≡ b → IsOnce us i (moves us i) → IsOnce (u ∷ us) i (joined (if b then move_at u else Stay) (moves us i))
  at true e rest =
      let here = eqb-true (target u) i e in
      let none = stays us i (λ w h same. apart.0 w h (here ∙ sym same)) in
      rw none (first_once u us i here)
  at false e rest = later u us i (moves us i) rest

pub apart_of : (us : List Update) → AllPairs (λ u w. target u ≢ target w) us → Apart us
apart_of [] pairs = tt
apart_of (u ∷ us) pairs = (first, apart_of us (λ i j d lt below. pairs (suc i) (suc j) d (omega arith) (omega arith))) where
  first : (w : Update) → Has us w → target u ≢ target w
  first w h =
      let p = place_of us w u h in
      subst (λ (x : Update). target u ≢ target x) p.is (pairs 0 (suc p.place) u (omega arith) (omega arith))

-- what the updates of a branch do to a variable
pub moves_once : (us : List Update) (i : ℕ) → AllPairs (λ u w. target u ≢ target w) us → IsOnce us i (moves us i)
moves_once us i pairs = once us i (apart_of us pairs)
