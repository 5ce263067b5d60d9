-- What asking a device makes of the facts of a book.
use Rattle.std.proofs.Common.{◌≡◌, ◌≢◌, ℕ, zero, suc, Bool, cond, ◌+◌, ◌<◌, ◌≤◌, length, true, false, eqb, List, [], ◌∷◌, ◌++◌, Option, Some, None, refl, sym, ap, subst, ◌∙◌, arith, slice_index_or, inl, inr, ◌⊎◌}
use Rattle.std.specs.Prelude.{slice_get, map, option_map, bytes_eq, take, IsSome}
use Rattle.std.specs.List.{position_from}
use Rattle.std.proofs.lemmas.Bool.Decides.{eqb_tells}
use Rattle.std.proofs.lemmas.Option.{none-some, same_Some, slice_get-map, slice_get-get_or}
use Rattle.mon_store.specs.Store.{Rose}
use Rattle.api_listing.specs.declared.events.ApiCall.{ApiCall}
use Rattle.api_shelf.specs.declared.asking.Asked.TheVariants.{Refused}
use Rattle.api_shelf.specs.declared.device.DeviceFault.{DeviceFault}
use Rattle.api_shelf.specs.declared.shelf.SlotOf.{SlotOf}
use Rattle.api_shelf.specs.Asking.{CountRose, FirstTells, OnlyAt}
use Rattle.api_shelf.specs.Shelf.{IsLater, View, count_of, first_of, view_of, views}
use Rattle.api_shelf.specs.Telling.{Log}
use Rattle.guest_runner.specs.Advancing.{LogsStay}
use Rattle.guest_runner.specs.Book.{CountsStand, HasFailed}

abbrev pub class_of : View → List ℕ
class_of slot = slot.class

-- ---- the first place where a test passes, and what stands there

record Stands {X : Type 0} (xs : List X) (i k : ℕ) : Type 0 where
  place : ℕ
  is : k ≡ i + place
  item : X
  there : slice_get xs place ≡ Some item

first_next : {X : Type 0} (t : X → Bool) (x : X) (xs : List X) (i k : ℕ) → (position_from t (i + 1) xs ≡ Some k → Stands xs (i + 1) k)
    → position_from t i (x ∷ xs) ≡ Some k → Stands (x ∷ xs) i k
first_next t x xs i k later h = by (t x) refl h where
  by : (b : Bool) → t x ≡ b → cond b (Some i) (position_from t (i + 1) xs) ≡ Some k → Stands (x ∷ xs) i k
  by true is h =
      let same : i ≡ k = same_Some i k h in
      record { place = 0; is = omega (arith, same); item = x; there = refl }
  by false is h =
      let f = later h in
      let e = f.is in
      record { place = suc f.place; is = omega (arith, e); item = f.item; there = f.there }

first_at : {X : Type 0} (t : X → Bool) (xs : List X) (i k : ℕ) → position_from t i xs ≡ Some k → Stands xs i k
first_at t [] i k h = absurd (none-some k h)
first_at t (x ∷ xs) i k h = first_next t x xs i k (first_at t xs (i + 1) k) h

position_from-map : {X Y : Type 0} (v : X → Y) (t : Y → Bool) (i : ℕ) (xs : List X) → position_from t i (map v xs) ≡ position_from (λ x. t (v x)) i xs
position_from-map v t i [] = refl
position_from-map v t i (x ∷ xs) = ap (cond (t (v x)) (Some i)) (position_from-map v t (i + 1) xs)

pub first_by_classes : (class : List ℕ) (old new : List View) → map class_of new ≡ map class_of old → first_of class new ≡ first_of class old
first_by_classes class old new same =
    sym (position_from-map class_of (λ (c : List ℕ). bytes_eq c class) 0 new)
    ∙ ap (λ (cs : List (List ℕ)). position_from (λ (c : List ℕ). bytes_eq c class) 0 cs) same
    ∙ position_from-map class_of (λ (c : List ℕ). bytes_eq c class) 0 old

-- ---- nothing changed

pub later_same : (slots : List View) → IsLater slots slots
later_same slots = record {
  classes = refl;
  faults = λ place before now was is.
      let same : before.faults ≡ now.faults = ap (λ (v : View). v.faults) (same_Some before now (sym was ∙ is)) in
      omega (arith, same);
}

pub logs_same : (slots : List View) → LogsStay slots slots
logs_same slots place before now was is = ap (λ (v : View). v.told) (same_Some now before (sym is ∙ was))

-- ---- places

-- what stands in a place of the devices stood there before
pub was_there : (old new : List View) (place : ℕ) (now : View) → map class_of new ≡ map class_of old → slice_get new place ≡ Some now
    → (before : View) × (slice_get old place ≡ Some before)
was_there old new place now same there = by (slice_get old place) refl where
  by : (o : Option View) → slice_get old place ≡ o → (before : View) × (slice_get old place ≡ Some before)
  by (Some before) is = (before, is)
  by None is =
      let none : option_map class_of (slice_get old place) ≡ None = ap (option_map class_of) is in
      let some : slice_get (map class_of new) place ≡ Some (class_of now) = slice_get-map class_of new place ∙ ap (option_map class_of) there in
      absurd (none-some (class_of now) (sym none ∙ sym (slice_get-map class_of old place) ∙ sym (ap (λ (cs : List (List ℕ)). slice_get cs place) same) ∙ some))

length_map : {X Y : Type 0} (v : X → Y) (xs : List X) → length (map v xs) ≡ length xs
length_map v [] = refl
length_map v (x ∷ xs) = ap (λ (n : ℕ). suc n) (length_map v xs)

within : {X : Type 0} (xs : List X) (k : ℕ) (x : X) → slice_get xs k ≡ Some x → k < length xs
within [] k x there = absurd (none-some x there)
within (y ∷ xs) zero x there = omega arith
within (y ∷ xs) (suc k) x there = let less = within xs k x there in omega (arith, less)

-- ---- counts

pub counts_stand : (counts : List ℕ) (old new : List View) → IsLater old new → CountsStand counts old → CountsStand counts new
counts_stand counts old new later stand = record {
  each = stand.each ∙ sym (length_map class_of old) ∙ sym (ap (λ (cs : List (List ℕ)). length cs) later.classes) ∙ length_map class_of new;
  later = λ place before slot made there.
      let was = was_there old new place slot later.classes there in
      let first = stand.later place before was.0 made was.1 in
      let then = later.faults place was.0 slot was.1 there in
      omega (arith, first, then);
}

pub counts_begin : (slots : List View) → CountsStand (map (λ (slot : View). slot.faults) slots) slots
counts_begin slots = record {
  each = length_map (λ (slot : View). slot.faults) slots;
  later = λ place before slot made there.
      let found = slice_get-map (λ (v : View). v.faults) slots place ∙ ap (option_map (λ (v : View). v.faults)) there in
      let same : before ≡ slot.faults = same_Some before slot.faults (sym made ∙ found) in
      omega (arith, same);
}

-- the counts of devices are those that are seen of them
pub counts_seen : {D : Type 0} (told : D → Option Log) (faults : D → ℕ) (slots : List (SlotOf D))
    → map (λ (slot : SlotOf D). faults slot.device) slots ≡ map (λ (slot : View). slot.faults) (views told faults slots)
counts_seen told faults [] = refl
counts_seen told faults (slot ∷ slots) = ap (λ (ns : List ℕ). faults slot.device ∷ ns) (counts_seen told faults slots)

-- ---- a device that failed

rose_more : (first before now : ℕ) → first ≤ before → Rose before now → Rose first now
rose_more first before now less (inl rose) = inl (omega (arith, less, rose))
rose_more first before now less (inr full) = inr full

count_is : (class : List ℕ) (slots : List View) (place : ℕ) (slot : View) → first_of class slots ≡ Some place → slice_get slots place ≡ Some slot
    → count_of class slots ≡ Some slot.faults
count_is class slots place slot first there = rw (first, there) refl

has_failed : (counts class : List ℕ) (old new : List View) (place : ℕ) → CountsStand counts old → IsLater old new → CountRose class old new
    → first_of class old ≡ Some place → HasFailed new counts class
has_failed counts class old new place stand later rose first =
    let now_first : first_of class new ≡ Some place = first_by_classes class old new later.classes ∙ first in
    let at = first_at (λ (slot : View). bytes_eq slot.class class) new 0 place now_first in
    let e = at.is in
    let n : at.place ≡ place = omega (arith, e) in
    let there : slice_get new place ≡ Some at.item = subst (λ (j : ℕ). slice_get new j ≡ Some at.item) n at.there in
    let was = was_there old new place at.item later.classes there in
    let less : place < length counts = let l = within old place was.0 was.1 in let e = stand.each in omega (arith, l, e) in
    let made : slice_get counts place ≡ Some (slice_index_or counts place 0) = slice_get-get_or counts place 0 less in
    let before = stand.later place (slice_index_or counts place 0) was.0 made was.1 in
    let count_old : count_of class old ≡ Some was.0.faults = count_is class old place was.0 first was.1 in
    let count_new : count_of class new ≡ Some at.item.faults = count_is class new place at.item now_first there in
    record {
      place = place;
      slot = at.item;
      before = slice_index_or counts place 0;
      first = now_first;
      there = there;
      made = made;
      rose = rose_more (slice_index_or counts place 0) was.0.faults at.item.faults before (rose was.0.faults at.item.faults count_old count_new);
    }

pub failed : (counts class : List ℕ) (old new : List View) → CountsStand counts old → IsLater old new → CountRose class old new
    → first_of class old ≢ None → HasFailed new counts class
failed counts class old new stand later rose some = by (first_of class old) refl where
  by : (o : Option ℕ) → first_of class old ≡ o → HasFailed new counts class
  by None is = absurd (some is)
  by (Some place) is = has_failed counts class old new place stand later rose is

-- ---- a device that is there

pub still_there : (class : List ℕ) (old new : List View) → IsLater old new → first_of class old ≢ None → IsSome (first_of class new)
still_there class old new later some = by (first_of class old) refl where
  by : (o : Option ℕ) → first_of class old ≡ o → IsSome (first_of class new)
  by None is = absurd (some is)
  by (Some place) is = subst (λ (o : Option ℕ). IsSome o) (sym (first_by_classes class old new later.classes ∙ is)) refl

-- what is written back over all of a list
pub take_whole : {X : Type 0} (n : ℕ) (new rest : List X) → length new ≡ n → take n (new ++ rest) ≡ new
take_whole zero [] rest long = refl
take_whole zero (x ∷ new) rest long = absurd (omega (arith, long))
take_whole (suc n) [] rest long = absurd (omega (arith, long))
take_whole {X = X} (suc n) (x ∷ new) rest long = ap (λ (xs : List X). x ∷ xs) (take_whole n new rest (omega (arith, long)))

-- ---- a device that refused

module _ {D : Type 0} (told : D → Option Log) (faults : D → ℕ) (call : ApiCall) (fault : DeviceFault) (old new : List (SlotOf D))
    (first : FirstTells call (Refused fault) (views told faults old) (views told faults new))
    (others : OnlyAt (first_of call.method.class (views told faults old)) old new) where
  elsewhere : (place : ℕ) (before now : View) → first_of call.method.class (views told faults old) ≢ Some place → slice_get (views told faults old) place ≡ Some before
      → slice_get (views told faults new) place ≡ Some now → now.told ≡ before.told
  elsewhere place before now apart was is =
      let same : slice_get (views told faults new) place ≡ slice_get (views told faults old) place =
      slice_get-map (view_of told faults) new place ∙ ap (option_map (view_of told faults)) (others place apart) ∙ sym (slice_get-map (view_of told faults) old place) in
      ap (λ (v : View). v.told) (same_Some now before (sym is ∙ same ∙ was))

  pub logs_stay : LogsStay (views told faults old) (views told faults new)
  logs_stay place before now was is = by (first_of call.method.class (views told faults old)) refl where
    at : (k : ℕ) → first_of call.method.class (views told faults old) ≡ Some k → ((eqb k place ≡ true) × (k ≡ place)) ⊎ ((eqb k place ≡ false) × (k ≢ place)) → now.told ≡ before.told
    at k there (inl p) = first place before now (there ∙ ap (λ (n : ℕ). Some n) p.1) was is
    at k there (inr p) = elsewhere place before now (λ same. p.1 (same_Some k place (sym there ∙ same))) was is

    by : (o : Option ℕ) → first_of call.method.class (views told faults old) ≡ o → now.told ≡ before.told
    by None none = elsewhere place before now (λ same. none-some place (sym none ∙ same)) was is
    by (Some k) there = at k there (eqb_tells k place)
