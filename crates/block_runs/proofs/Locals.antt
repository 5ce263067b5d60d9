-- Values that are stored in locals, one after another.
use Rattle.std.proofs.Common.{
  ◌≡◌,
  ◌≢◌,
  ℕ,
  zero,
  suc,
  ◌+◌,
  ◌<◌,
  ◌≤◌,
  List,
  [],
  ◌∷◌,
  ◌++◌,
  length,
  take,
  Some,
  refl,
  ap,
  ◌∙◌,
  arith,
  length-append,
  length-set,
  append_assoc,
}
use Rattle.std.specs.Prelude.{reverse, slice_get, slice_set, ⊤}
use Rattle.std.proofs.lemmas.Grind.{reverse_onto}
use Rattle.std.proofs.lemmas.List.{length-reverse, take-set-le}

-- ---- one local

pub set_there : {X : Type 0} (xs : List X) (i : ℕ) (x : X) → i < length xs → slice_get (slice_set xs i x) i ≡ Some x
set_there [] i x inside = absurd (omega (arith, inside))
set_there (y ∷ xs) zero x inside = refl
set_there (y ∷ xs) (suc i) x inside = set_there xs i x (omega (arith, inside))

pub set_elsewhere : {X : Type 0} (xs : List X) (i j : ℕ) (x : X) → i ≢ j → slice_get (slice_set xs i x) j ≡ slice_get xs j
set_elsewhere [] i j x other = refl
set_elsewhere (y ∷ xs) zero zero x other = absurd (other refl)
set_elsewhere (y ∷ xs) zero (suc j) x other = refl
set_elsewhere (y ∷ xs) (suc i) zero x other = refl
set_elsewhere (y ∷ xs) (suc i) (suc j) x other = set_elsewhere xs i j x (λ e. other (ap suc e))

-- ---- one after another

-- From the slot on these values are stored, the last first.
abbrev pub with_saved : {X : Type 0} → ℕ → List X → List X → List X
with_saved slot [] locals = locals
with_saved slot (v ∷ values) locals = slice_set (with_saved (slot + 1) values locals) slot v

-- From the slot on these values stand.
abbrev pub HasSaved : {X : Type 0} → ℕ → List X → List X → Type 0
HasSaved slot [] locals = ⊤
HasSaved slot (v ∷ values) locals = (slice_get locals slot ≡ Some v) × HasSaved (slot + 1) values locals

pub saved_count : {X : Type 0} (slot : ℕ) (values locals : List X) → length (with_saved slot values locals) ≡ length locals
saved_count slot [] locals = refl
saved_count slot (v ∷ values) locals = length-set (with_saved (slot + 1) values locals) slot v ∙ saved_count (slot + 1) values locals

-- What stands below the slot stays.
pub saved_below : {X : Type 0} (base slot : ℕ) (values locals : List X) → base ≤ slot → take base (with_saved slot values locals)
    ≡ take base locals
saved_below base slot [] locals low = refl
saved_below base slot (v ∷ values) locals low =
    take-set-le base (with_saved (slot + 1) values locals) slot v low ∙ saved_below base (slot + 1) values locals (omega (arith, low))

still_saved : {X : Type 0} (slot i : ℕ) (values locals : List X) (v : X) → i < slot → HasSaved slot values locals
    → HasSaved slot values (slice_set locals i v)
still_saved slot i [] locals v low has = tt
still_saved slot i (w ∷ values) locals v low has = (
  set_elsewhere locals i slot v (λ e. absurd (omega (arith, low, e)))
      ∙ has.0,
  still_saved (slot + 1) i values locals v (omega (arith, low)) has.1,
)

-- Where there are as many locals, they stand there.
pub saved_there : {X : Type 0} (slot : ℕ) (values locals : List X) → slot + length values ≤ length locals
    → HasSaved slot values (with_saved slot values locals)
saved_there slot [] locals room = tt
saved_there slot (v ∷ values) locals room =
    let others = with_saved (slot + 1) values locals in (
      set_there others slot v (omega (arith, room, saved_count (slot + 1) values locals)),
      still_saved (slot + 1) slot values others v (omega arith) (saved_there (slot + 1) values locals (omega (arith, room))),
    )

pub saved_at : {X : Type 0} (slot i : ℕ) (values locals : List X) (v : X) → HasSaved slot values locals → slice_get values i ≡ Some v
    → slice_get locals (slot + i) ≡ Some v
saved_at slot i [] locals v has there = absurd cc
saved_at slot zero (w ∷ values) locals v has there =
    let here : slot + 0 ≡ slot = omega arith in
    let same : w ≡ v = cc in
    ap (slice_get locals) here ∙ has.0 ∙ ap Some same
saved_at slot (suc i) (w ∷ values) locals v has there =
    let next : slot + suc i ≡ slot + 1 + i = omega arith in
    ap (slice_get locals) next ∙ saved_at (slot + 1) i values locals v has.1 there

-- ---- on a stack, the last on top

pub last_on_top : {X : Type 0} (v : X) (values beneath : List X) → reverse (v ∷ values) ++ beneath ≡ reverse values ++ v ∷ beneath
last_on_top v values beneath = ap (λ (xs : List _). xs ++ beneath) (reverse_onto values v [])
    ∙ append_assoc (reverse values) (v ∷ []) beneath

pub on_top_count : {X : Type 0} (values beneath : List X) → length (reverse values ++ beneath) ≡ length values + length beneath
on_top_count values beneath = omega (arith, length-append (reverse values) beneath, length-reverse values)
