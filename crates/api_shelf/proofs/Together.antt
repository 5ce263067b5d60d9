-- What asking one device makes of what all of them tell.
use Rattle.std.proofs.Common.{◌≡◌, ◌≢◌, ℕ, ◌-◌, ◌<◌, ◌≤◌, length, Bool, true, false, cond, eqb, List, [], ◌∷◌, ◌++◌, Option, Some, None, refl, sym, ap, subst, ◌∙◌, arith, slice_set, slice_index_or, inl, inr, ◌⊎◌}
use Rattle.std.specs.Prelude.{slice_get, map, filter, bytes_eq, option_map}
use Rattle.std.specs.List.{position_from}
use Rattle.std.specs.Option.{option_map_or}
use Rattle.std.proofs.lemmas.Bool.{false≢true}
use Rattle.std.proofs.lemmas.Bool.Decides.{eqb_tells, Decides-eqb}
use Rattle.std.proofs.lemmas.List.{append-nil}
use Rattle.std.proofs.lemmas.List.Elements.{filter-append}
use Rattle.std.proofs.lemmas.Option.{none-some, same_Some, slice_get-map, slice_get-get_or}
use Rattle.std.proofs.lemmas.Slice.Eq.{bytes_eq-Decides}
use Rattle.mon_store.specs.Store.{Rose}
use Rattle.api_listing.specs.declared.events.ApiAnswer.{ApiAnswer}
use Rattle.api_listing.specs.declared.events.ApiCall.{ApiCall}
use Rattle.api_shelf.specs.declared.asking.Asked.{Asked}
use Rattle.api_shelf.specs.declared.asking.Asked.TheVariants.{Nobody, Answered, Refused}
use Rattle.api_shelf.specs.declared.device.DeviceFault.TheVariants.{Failed}
use Rattle.api_shelf.specs.Asking.{pair_of, told_after, OnlyAt, FirstTells, CountRose}
use Rattle.api_shelf.specs.declared.shelf.SlotOf.{SlotOf}
use Rattle.api_shelf.specs.Shelf.{View, view_of, views, first_of, is_first, pairs_of, share_of, AllTell, AllAreSilent, count_of, IsLater}
use Rattle.api_shelf.specs.Telling.{Log, HasLog}
use Rattle.api_shelf.proofs.Places.{passes_at, position_from-map, slice_get-set_here, slice_get-set_other, map-set, set_same}

-- The device in this place was asked, the first of the call's class.
pub record IsAsked (call : ApiCall) (asked : Asked) (old new : List View) (place : ℕ) : Type 0 where
  pub first : first_of call.method.class old ≡ Some place
  pub before : View
  pub now : View
  pub was : slice_get old place ≡ Some before
  pub is : new ≡ slice_set old place now
  pub class : now.class ≡ before.class
  pub told : now.told ≡ told_after before.told call asked
  pub faults : before.faults ≤ now.faults
  pub failed : asked ≡ Refused Failed → Rose before.faults now.faults

abbrev pub class_of : View → List ℕ
class_of slot = slot.class

abbrev is_place : ℕ → ℕ → Bool
is_place place first = eqb first place

-- ---- which slot is first

first_is : (place : ℕ) (found : Option ℕ) → option_map_or (is_place place) found false ≡ true → found ≡ Some place
first_is place None h = absurd (false≢true h)
first_is place (Some k) h = ap (λ (n : ℕ). Some n) ((Decides-eqb k place).0 h)

first_here : (place : ℕ) (found : Option ℕ) → found ≡ Some place → option_map_or (is_place place) found false ≡ true
first_here place found h = rw h ((Decides-eqb place place).1 refl)

pub first_by_classes : (class : List ℕ) (old new : List View) → map class_of new ≡ map class_of old → first_of class new ≡ first_of class old
first_by_classes class old new same =
    sym (position_from-map class_of (λ (c : List ℕ). bytes_eq c class) 0 new)
    ∙ ap (λ (cs : List (List ℕ)). position_from (λ (c : List ℕ). bytes_eq c class) 0 cs) same
    ∙ position_from-map class_of (λ (c : List ℕ). bytes_eq c class) 0 old

-- ---- what there is to tell

pairs_apart : (call : ApiCall) (class : List ℕ) (asked : Asked) → bytes_eq call.method.class class ≡ false → pairs_of class (pair_of call asked) ≡ []
pairs_apart call class Nobody apart = refl
pairs_apart call class (Answered answer) apart = rw apart refl
pairs_apart call class (Refused fault) apart = refl

pairs_alike : (call : ApiCall) (class : List ℕ) (asked : Asked) → bytes_eq call.method.class class ≡ true → pairs_of class (pair_of call asked) ≡ pair_of call asked
pairs_alike call class Nobody alike = refl
pairs_alike call class (Answered answer) alike = rw alike refl
pairs_alike call class (Refused fault) alike = refl

pairs_more : (class : List ℕ) (pairs more : Log) → pairs_of class (pairs ++ more) ≡ pairs_of class pairs ++ pairs_of class more
pairs_more class pairs more = filter-append (λ (pair : ApiCall × ApiAnswer). bytes_eq pair.0.method.class class) pairs more

-- a slot that is not the first of the call's class has nothing more to tell
not_its : (call : ApiCall) (asked : Asked) (slots : List View) (place : ℕ) (slot : View) → first_of call.method.class slots ≢ Some place → is_first slots place slot ≡ true
    → pairs_of slot.class (pair_of call asked) ≡ []
not_its call asked slots place slot elsewhere first = by (bytes_eq call.method.class slot.class) refl where
  by : (b : Bool) → bytes_eq call.method.class slot.class ≡ b → pairs_of slot.class (pair_of call asked) ≡ []
  by false is = pairs_apart call slot.class asked is
  by true is =
      let same : call.method.class ≡ slot.class = (bytes_eq-Decides call.method.class slot.class).0 is in
      absurd (elsewhere (ap (λ (c : List ℕ). first_of c slots) same ∙ first_is place (first_of slot.class slots) first))

share_stays : (call : ApiCall) (asked : Asked) (slots : List View) (place : ℕ) (slot : View) (pairs : Log) → first_of call.method.class slots ≢ Some place
    → share_of slots place slot (pairs ++ pair_of call asked) ≡ share_of slots place slot pairs
share_stays call asked slots place slot pairs elsewhere = by (is_first slots place slot) refl where
  by : (b : Bool) → is_first slots place slot ≡ b → cond b (pairs_of slot.class (pairs ++ pair_of call asked)) [] ≡ cond b (pairs_of slot.class pairs) []
  by false is = refl
  by true is =
      pairs_more slot.class pairs (pair_of call asked)
      ∙ ap (λ (more : Log). pairs_of slot.class pairs ++ more) (not_its call asked slots place slot elsewhere is)
      ∙ append-nil (pairs_of slot.class pairs)

tells_more : (call : ApiCall) (asked : Asked) (told : Option Log) (log : Log) → HasLog told log → HasLog (told_after told call asked) (log ++ pair_of call asked)
tells_more call Nobody None log h = tt
tells_more call (Answered answer) None log h = tt
tells_more call (Refused fault) None log h = tt
tells_more call Nobody (Some told) log h = h ∙ sym (append-nil log)
tells_more call (Answered answer) (Some told) log h = ap (λ (l : Log). l ++ (call, answer) ∷ []) h
tells_more call (Refused fault) (Some told) log h = h ∙ sym (append-nil log)

-- ---- where nobody is there

pub unasked : (call : ApiCall) (asked : Asked) (slots : List View) (pairs : Log) → first_of call.method.class slots ≡ None → AllTell pairs slots → AllTell (pairs ++ pair_of call asked) slots
unasked call asked slots pairs none tells place slot there =
    let elsewhere : first_of call.method.class slots ≢ Some place = λ is. none-some place (sym none ∙ is) in
    subst (HasLog slot.told) (sym (share_stays call asked slots place slot pairs elsewhere)) (tells place slot there)

-- ---- where one is asked

module _ (call : ApiCall) (asked : Asked) (old new : List View) (place : ℕ) (s : IsAsked call asked old new place) where
  now_there : slice_get new place ≡ Some s.now
  now_there = ap (λ (slots : List View). slice_get slots place) s.is ∙ slice_get-set_here old place s.before s.now s.was

  others_there : (other : ℕ) → place ≢ other → slice_get new other ≡ slice_get old other
  others_there other apart = ap (λ (slots : List View). slice_get slots other) s.is ∙ slice_get-set_other old place other s.now apart

  pub same_classes : map class_of new ≡ map class_of old
  same_classes =
      ap (map class_of) s.is
      ∙ map-set class_of old place s.now
      ∙ ap (λ (class : List ℕ). slice_set (map class_of old) place class) s.class
      ∙ set_same (map class_of old) place s.before.class (slice_get-map class_of old place ∙ ap (option_map class_of) s.was)

  same_first : (class : List ℕ) → first_of class new ≡ first_of class old
  same_first class = first_by_classes class old new same_classes

  alike : bytes_eq s.before.class call.method.class ≡ true
  alike = passes_at (λ (slot : View). bytes_eq slot.class call.method.class) old place s.before s.first s.was

  its_class : s.before.class ≡ call.method.class
  its_class = (bytes_eq-Decides s.before.class call.method.class).0 alike

  first_of_its : first_of s.before.class old ≡ Some place
  first_of_its = ap (λ (class : List ℕ). first_of class old) its_class ∙ s.first

  share_before : (pairs : Log) → share_of old place s.before pairs ≡ pairs_of s.before.class pairs
  share_before pairs = rw (first_here place (first_of s.before.class old) first_of_its) refl

  share_now : (pairs : Log) → share_of new place s.now pairs ≡ pairs_of s.before.class pairs
  share_now pairs =
      let first : first_of s.now.class new ≡ Some place = same_first s.now.class ∙ ap (λ (class : List ℕ). first_of class old) s.class ∙ first_of_its in
      let test : is_first new place s.now ≡ true = first_here place (first_of s.now.class new) first in
      ap (λ (b : Bool). cond b (pairs_of s.now.class pairs) []) test ∙ ap (λ (class : List ℕ). pairs_of class pairs) s.class

  its_pairs : (pairs : Log) → pairs_of s.before.class (pairs ++ pair_of call asked) ≡ pairs_of s.before.class pairs ++ pair_of call asked
  its_pairs pairs =
      pairs_more s.before.class pairs (pair_of call asked)
      ∙ ap (λ (more : Log). pairs_of s.before.class pairs ++ more)
      (pairs_alike call s.before.class asked ((bytes_eq-Decides call.method.class s.before.class).1 (sym its_class)))

  tells_here : (pairs : Log) → AllTell pairs old → HasLog s.now.told (share_of new place s.now (pairs ++ pair_of call asked))
  tells_here pairs tells =
      let had : HasLog s.before.told (pairs_of s.before.class pairs) = subst (HasLog s.before.told) (share_before pairs) (tells place s.before s.was) in
      let has = tells_more call asked s.before.told (pairs_of s.before.class pairs) had in
      let log : pairs_of s.before.class pairs ++ pair_of call asked ≡ share_of new place s.now (pairs ++ pair_of call asked) = sym (share_now (pairs ++ pair_of call asked) ∙ its_pairs pairs) in
      subst (λ (told : Option Log). HasLog told (share_of new place s.now (pairs ++ pair_of call asked))) (sym s.told) (subst (HasLog (told_after s.before.told call asked)) log has)

  share_of_others : (other : ℕ) (slot : View) (pairs : Log) → share_of new other slot pairs ≡ share_of old other slot pairs
  share_of_others other slot pairs = ap (λ (found : Option ℕ). cond (option_map_or (is_place other) found false) (pairs_of slot.class pairs) []) (same_first slot.class)

  tells_there : (pairs : Log) → AllTell pairs old → (other : ℕ) (slot : View) → place ≢ other → slice_get new other ≡ Some slot
      → HasLog slot.told (share_of new other slot (pairs ++ pair_of call asked))
  tells_there pairs tells other slot apart there =
      let elsewhere : first_of call.method.class old ≢ Some other = λ is. apart (same_Some place other (sym s.first ∙ is)) in
      let share : share_of old other slot pairs ≡ share_of new other slot (pairs ++ pair_of call asked) =
      sym (share_of_others other slot (pairs ++ pair_of call asked) ∙ share_stays call asked old other slot pairs elsewhere) in
      subst (HasLog slot.told) share (tells other slot (sym (others_there other apart) ∙ there))

  pub asked_tells : (pairs : Log) → AllTell pairs old → AllTell (pairs ++ pair_of call asked) new
  asked_tells pairs tells other slot there = by (eqb_tells place other) where
    by : ((eqb place other ≡ true) × (place ≡ other)) ⊎ ((eqb place other ≡ false) × (place ≢ other)) → HasLog slot.told (share_of new other slot (pairs ++ pair_of call asked))
    by (inr p) = tells_there pairs tells other slot p.1 there
    by (inl p) =
        let at : slice_get new place ≡ Some slot = ap (slice_get new) p.1 ∙ there in
        let same : s.now ≡ slot = same_Some s.now slot (sym now_there ∙ at) in
        subst (λ (n : ℕ). HasLog slot.told (share_of new n slot (pairs ++ pair_of call asked))) p.1
        (subst (λ (v : View). HasLog v.told (share_of new place v (pairs ++ pair_of call asked))) same (tells_here pairs tells))

  pub first_tells : FirstTells call asked old new
  first_tells other before now first was is =
      let same : place ≡ other = same_Some place other (sym s.first ∙ first) in
      let old_one : s.before ≡ before = same_Some s.before before (sym s.was ∙ ap (slice_get old) same ∙ was) in
      let new_one : s.now ≡ now = same_Some s.now now (sym now_there ∙ ap (slice_get new) same ∙ is) in
      ap (λ (v : View). v.told) (sym new_one) ∙ s.told ∙ ap (λ (v : View). told_after v.told call asked) old_one

  faults_later : (other : ℕ) (before now : View) → slice_get old other ≡ Some before → slice_get new other ≡ Some now → before.faults ≤ now.faults
  faults_later other before now was is = by (eqb_tells place other) where
    by : ((eqb place other ≡ true) × (place ≡ other)) ⊎ ((eqb place other ≡ false) × (place ≢ other)) → before.faults ≤ now.faults
    by (inr p) =
        let same : before ≡ now = same_Some before now (sym was ∙ sym (others_there other p.1) ∙ is) in
        let faults : before.faults ≡ now.faults = ap (λ (v : View). v.faults) same in
        omega (arith, faults)
    by (inl p) =
        let old_one : s.before.faults ≡ before.faults = ap (λ (v : View). v.faults) (same_Some s.before before (sym s.was ∙ ap (slice_get old) p.1 ∙ was)) in
        let new_one : s.now.faults ≡ now.faults = ap (λ (v : View). v.faults) (same_Some s.now now (sym now_there ∙ ap (slice_get new) p.1 ∙ is)) in
        omega (arith, s.faults, old_one, new_one)

  pub is_later : IsLater old new
  is_later = record { classes = same_classes; faults = faults_later }

  count_at : (slots : List View) (slot : View) → first_of call.method.class slots ≡ Some place → slice_get slots place ≡ Some slot → count_of call.method.class slots ≡ Some slot.faults
  count_at slots slot first there = rw (first, there) refl

  pub count_rose : asked ≡ Refused Failed → CountRose call.method.class old new
  count_rose failed before now was is =
      let old_one : s.before.faults ≡ before = same_Some s.before.faults before (sym (count_at old s.before s.first s.was) ∙ was) in
      let new_one : s.now.faults ≡ now = same_Some s.now.faults now (sym (count_at new s.now (same_first call.method.class ∙ s.first) now_there) ∙ is) in
      subst (Rose before) new_one (subst (λ (n : ℕ). Rose n s.now.faults) old_one (s.failed failed))

-- ---- of slots

module _ {D : Type 0} (told : D → Option Log) (faults : D → ℕ) where
  pub first_of_views : (class : List ℕ) (slots : List (SlotOf D)) → first_of class (views told faults slots) ≡ position_from (λ (slot : SlotOf D). bytes_eq slot.class class) 0 slots
  first_of_views class slots = position_from-map (view_of told faults) (λ (slot : View). bytes_eq slot.class class) 0 slots

  pub asked_slot : (call : ApiCall) (asked : Asked) (slots : List (SlotOf D)) (place : ℕ) (any new : SlotOf D)
      → Some place ≡ position_from (λ (slot : SlotOf D). bytes_eq slot.class call.method.class) 0 slots → place < length slots
      → new.class ≡ (slice_index_or slots place any).class → told new.device ≡ told_after (told (slice_index_or slots place any).device) call asked
      → faults (slice_index_or slots place any).device ≤ faults new.device
      → (asked ≡ Refused Failed → Rose (faults (slice_index_or slots place any).device) (faults new.device))
      → IsAsked call asked (views told faults slots) (views told faults (slice_set slots place new)) place
  asked_slot call asked slots place any new first within class told_is later failed = record {
    first = first_of_views call.method.class slots ∙ sym first;
    before = view_of told faults (slice_index_or slots place any);
    now = view_of told faults new;
    was = slice_get-map (view_of told faults) slots place ∙ ap (option_map (view_of told faults)) (slice_get-get_or slots place any within);
    is = map-set (view_of told faults) slots place new;
    class = class;
    told = told_is;
    faults = later;
    failed = failed;
  }

  pub others_same : (class : List ℕ) (slots : List (SlotOf D)) (place : ℕ) (new : SlotOf D) → Some place ≡ position_from (λ (slot : SlotOf D). bytes_eq slot.class class) 0 slots
      → OnlyAt (first_of class (views told faults slots)) slots (slice_set slots place new)
  others_same class slots place new first other apart =
      slice_get-set_other slots place other new (λ same. apart (first_of_views class slots ∙ sym first ∙ ap (λ (n : ℕ). Some n) same))

-- ---- laws

pub silent_tell : (slots : List View) → AllAreSilent slots → AllTell [] slots
silent_tell slots silent place slot there = by (is_first slots place slot) where
  by : (b : Bool) → HasLog slot.told (cond b (pairs_of slot.class []) [])
  by true = silent place slot there
  by false = silent place slot there

same_bytes : (class : List ℕ) → bytes_eq class class ≡ true
same_bytes class = (bytes_eq-Decides class class).1 refl

pub alone_tells : (class : List ℕ) (log pairs : Log) (faults : ℕ) → AllTell pairs (record { class = class; told = Some log; faults = faults } ∷ []) → log ≡ pairs_of class pairs
alone_tells class log pairs faults tells =
    let slot : View = record { class = class; told = Some log; faults = faults } in
    let share : share_of (slot ∷ []) 0 slot pairs ≡ pairs_of class pairs = rw (same_bytes class) refl in
    tells 0 slot refl ∙ share

pub second_is_silent : (class : List ℕ) (first log pairs : Log) (faults more : ℕ)
    → AllTell pairs (record { class = class; told = Some first; faults = faults } ∷ record { class = class; told = Some log; faults = more } ∷ []) → log ≡ []
second_is_silent class first log pairs faults more tells =
    let one : View = record { class = class; told = Some first; faults = faults } in
    let two : View = record { class = class; told = Some log; faults = more } in
    let share : share_of (one ∷ two ∷ []) 1 two pairs ≡ [] = rw (same_bytes class) refl in
    tells 1 two refl ∙ share
