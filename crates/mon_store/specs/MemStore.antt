-- What a store in memory is seen as, and what a call makes of it. (docs/PROMISES.md)
use Rattle.std.specs.Prelude.{◌≡◌, ℕ, List, [], ◌∷◌, Option, Some, None, Result, Ok, Err, Bool, true, false, is_none, ◌&&◌, ◌==◌, bytes_eq, if◌then◌else◌}
use Rattle.std.specs.List.{list_any}
use Rattle.mon_store.specs.Store.{one_more}
use Rattle.mon_store.specs.declared.store.StoreFault.{StoreFault}
use Rattle.mon_store.specs.declared.store.StoreFault.TheVariants.{Absent, Failed, Memory}

-- A list of files, each a name and its bytes.
abbrev pub Listed : Type 0
Listed = List (List ℕ × List ℕ)

-- Its files, the numbers of the calls that fail, how many calls and faults there were, and the name of the last call
-- that failed.
pub record StoreState : Type 0 where
  pub files : List (List ℕ × List ℕ)
  pub fail : List ℕ
  pub calls : ℕ
  pub faults : ℕ
  pub last : List ℕ

-- the bytes of the first file of this name
abbrev pub told : Listed → List ℕ → Option (List ℕ)
told [] name = None
told (file ∷ files) name = if bytes_eq file.0 name then Some file.1 else told files name

-- no name stands twice
abbrev pub names_differ : Listed → Bool
names_differ [] = true
names_differ (file ∷ files) = is_none (told files file.0) && names_differ files

-- the files with this one in the place of the first of its name, or else after them
abbrev pub with_file : Listed → List ℕ → List ℕ → Listed
with_file [] name bytes = (name, bytes) ∷ []
with_file (file ∷ files) name bytes = if bytes_eq file.0 name then (name, bytes) ∷ files else file ∷ with_file files name bytes

-- Is the next call one of those that fail?
abbrev pub is_failing : StoreState → Bool
is_failing store = list_any (λ number. number == store.calls) store.fail

-- the store after a call that did not fail
abbrev pub passed : StoreState → StoreState
passed store = record store { calls = one_more store.calls }

-- the store after a call with this name that failed
abbrev pub failed : StoreState → List ℕ → StoreState
failed store name = record store { calls = one_more store.calls; faults = one_more store.faults; last = name }

-- the store with this file written
abbrev pub with_written : StoreState → List ℕ → List ℕ → StoreState
with_written store name bytes = record store { files = with_file store.files name bytes }

-- How a call with this name is counted by its answer, where `done` is the store with what the call was to do: it fails
-- exactly where its number is one of those given, and without memory nothing changes.
abbrev pub Counted : {A : Type 0} → Result A StoreFault → StoreState → StoreState → StoreState → List ℕ → Type 0
Counted (Ok x) old done new name = (is_failing old ≡ false) × (new ≡ passed done)
Counted (Err Absent) old done new name = (is_failing old ≡ false) × (new ≡ passed old)
Counted (Err Failed) old done new name = (is_failing old ≡ true) × (new ≡ failed old name)
Counted (Err Memory) old done new name = new ≡ old
