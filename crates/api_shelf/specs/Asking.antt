-- What a call makes of the devices that it may go to. (docs/RUNS.md)
use Rattle.std.specs.Prelude.{◌≡◌, ◌≢◌, ◌∷◌, [], ℕ, List, slice_get, Option, Some}
use Rattle.mon_store.specs.Store.{Rose}
use Rattle.api_listing.specs.declared.events.ApiCall.{ApiCall}
use Rattle.api_shelf.specs.declared.asking.Asked.{Asked}
use Rattle.api_shelf.specs.declared.asking.Asked.TheVariants.{Nobody, Answered, Refused}
use Rattle.api_shelf.specs.declared.shelf.SlotOf.{SlotOf}
use Rattle.api_shelf.specs.Shelf.{View, first_of, count_of}
use Rattle.api_shelf.specs.Telling.{Log, with_pair}

-- the pair that an answered call leaves
abbrev pub pair_of : ApiCall → Asked → Log
pair_of call Nobody = []
pair_of call (Answered answer) = (call, answer) ∷ []
pair_of call (Refused fault) = []

-- what the asked device tells afterwards
abbrev pub told_after : Option Log → ApiCall → Asked → Option Log
told_after told call Nobody = told
told_after told call (Answered answer) = with_pair told (call, answer)
told_after told call (Refused fault) = told

-- The slot in this place alone may be another one.
abbrev pub OnlyAt : {D : Type 0} → Option ℕ → List (SlotOf D) → List (SlotOf D) → Type 0
OnlyAt place old new = (other : ℕ) → place ≢ Some other → slice_get new other ≡ slice_get old other

-- The first device of the class of the call's method was asked, once: what it tells is what it told, and the pair if it
-- answered.
abbrev pub FirstTells : ApiCall → Asked → List View → List View → Type 0
FirstTells call asked old new =
    (place : ℕ) (before now : View) → first_of call.method.class old ≡ Some place
    → slice_get old place ≡ Some before → slice_get new place ≡ Some now → now.told ≡ told_after before.told call asked

-- The count of the first device of the class rose.
abbrev pub CountRose : List ℕ → List View → List View → Type 0
CountRose class old new =
    (before now : ℕ) → count_of class old ≡ Some before → count_of class new ≡ Some now → Rose before now
