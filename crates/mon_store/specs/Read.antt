-- What reading a whole file under a limit answers. (docs/PROMISES.md)
use Rattle.std.specs.Prelude.{◌≡◌, ◌⊎◌, ◌≤◌, ℕ, List, length, take, nat_le, Option, Some, None, Result, Ok, Err, IsErrOf, if◌then◌else◌}
use Rattle.mon_store.specs.Store.{Files, Caused, OfFile, Lacks}
use Rattle.mon_store.specs.declared.store.StoreFault.{StoreFault}
use Rattle.mon_store.specs.declared.store.StoreFault.TheVariants as store
use Rattle.mon_store.specs.declared.read.ReadFault.{ReadFault}
use Rattle.mon_store.specs.declared.read.ReadFault.TheVariants as read

-- a store's fault as a fault of reading
abbrev pub fault_of : StoreFault → ReadFault
fault_of store.Absent = read.Absent
fault_of store.Failed = read.Failed
fault_of store.Memory = read.Memory

-- The answer for a name that has these bytes, or none, in a store that tells its files.
abbrev pub answer_for : Option (List ℕ) → ℕ → Result (List ℕ) ReadFault
answer_for None limit = Err read.Absent
answer_for (Some bytes) limit = if nat_le (length bytes) limit then Ok bytes else Err (read.TooLong (length bytes))

-- Where the files are told, the answer is the one for this name, unless there is a reason otherwise.
abbrev pub Answers : Files → List ℕ → ℕ → Result (List ℕ) ReadFault → Type 0 → Type 0
Answers None name limit result otherwise = Unit {0}
Answers (Some told) name limit result otherwise = (result ≡ answer_for (told name) limit) ⊎ otherwise

-- Where the files are told and one has this name, these bytes are its first.
abbrev pub Begins : Files → List ℕ → List ℕ → Type 0
Begins files name front = OfFile files name (λ bytes. front ≡ take (length front) bytes)

-- What a store is asked leaves its files, and a fault has to show that it was counted, or that there is no such file.
pub record Asked {X : Type 0} (old new : Files) (before now : ℕ) (last name : List ℕ) (result : Result X ReadFault) : Type 0 where
  pub files : new ≡ old
  pub faults : before ≤ now
  pub failed : IsErrOf result read.Failed → Caused before now last name
  pub absent : IsErrOf result read.Absent → Caused before now last name ⊎ Lacks old name
