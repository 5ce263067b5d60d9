-- Devices by classes: what is seen of them, which one a call goes to, and what they tell together. (docs/RUNS.md)
use Rattle.std.specs.Prelude.{◌≡◌, ◌≤◌, ◌==◌, ℕ, Bool, false, List, [], map, filter, slice_get, bytes_eq, Option, Some, None, if◌then◌else◌}
use Rattle.std.specs.List.{position_from}
use Rattle.std.specs.Option.{option_map_or}
use Rattle.api_shelf.specs.declared.shelf.SlotOf.{SlotOf}
use Rattle.api_shelf.specs.Telling.{Log, HasLog}

-- What is seen of a slot: its class, what its device tells, and how many faults this counts.
pub record View : Type 0 where
  pub class : List ℕ
  pub told : Option Log
  pub faults : ℕ

abbrev pub view_of : {D : Type 0} → (D → Option Log) → (D → ℕ) → SlotOf D → View
view_of told faults slot = record { class = slot.class; told = told slot.device; faults = faults slot.device }

abbrev pub views : {D : Type 0} → (D → Option Log) → (D → ℕ) → List (SlotOf D) → List View
views told faults slots = map (view_of told faults) slots

-- the place of the first slot of the class
abbrev pub first_of : List ℕ → List View → Option ℕ
first_of class slots = position_from (λ slot. bytes_eq slot.class class) 0 slots

-- Is the slot in this place the first of its class?
abbrev pub is_first : List View → ℕ → View → Bool
is_first slots place slot = option_map_or (λ first. first == place) (first_of slot.class slots) false

-- the pairs whose call is of a method of the class
abbrev pub pairs_of : List ℕ → Log → Log
pairs_of class pairs = filter (λ pair. bytes_eq pair.0.method.class class) pairs

-- what is there to tell for the slot in this place: where it is the first of its class, the pairs of that class
abbrev pub share_of : List View → ℕ → View → Log → Log
share_of slots place slot pairs = if is_first slots place slot then pairs_of slot.class pairs else []

-- Of each class the first device tells the pairs of that class, in their order, and those after it tell none.
abbrev pub AllTell : Log → List View → Type 0
AllTell pairs slots =
    (place : ℕ) (slot : View) → slice_get slots place ≡ Some slot → HasLog slot.told (share_of slots place slot pairs)

-- The devices have told nothing.
abbrev pub AllAreSilent : List View → Type 0
AllAreSilent slots = (place : ℕ) (slot : View) → slice_get slots place ≡ Some slot → HasLog slot.told []

-- the count of faults of the first device of the class
abbrev pub count_of : List ℕ → List View → Option ℕ
count_of class slots = option_map_or (λ place. option_map_or (λ (slot : View). Some slot.faults) (slice_get slots place) None) (first_of class slots) None

-- The classes are the same, and no count of faults has fallen.
pub record IsLater (old new : List View) : Type 0 where
  pub classes : map (λ (slot : View). slot.class) new ≡ map (λ (slot : View). slot.class) old
  pub faults : (place : ℕ) (before now : View) → slice_get old place ≡ Some before → slice_get new place ≡ Some now → before.faults ≤ now.faults
