-- What the files of a store are, as inputs: what is read of a text under a limit, or why nothing is. (docs/COMMANDS.md)
use Rattle.std.specs.Prelude.{◌≡◌, ◌⊎◌, ℕ, ◌<◌, ◌≤◌, List, length, Result, Ok, Err}
use Rattle.mon_store.specs.Store.{Files, HasFile, Caused, Lacks}
use Rattle.command_inputs.specs.declared.fault.InputFault.{InputFault}
use Rattle.command_inputs.specs.declared.fault.InputFault.TheVariants as faults
use Rattle.command_inputs.specs.declared.files.Stop.{Stop}
use Rattle.command_inputs.specs.declared.files.Stop.TheVariants.{Input, Unread, Memory}

-- A kind of file: the greatest length, in bytes, and what a text is read as, or the first thing that is wrong with it.
pub record Form (A : Type 0) : Type 0 where
  pub limit : ℕ
  pub reads : List ℕ → Result A InputFault

-- The file of this name has this text, as far as the store tells.
abbrev pub HasText : Files → List ℕ → List ℕ → Type 0
HasText files name text = HasFile files name (λ bytes. text ≡ bytes)

-- The file of this name is not too long, and its text is read as this, or refused so.
pub record IsRead {A : Type 0} (files : Files) (name : List ℕ) (form : Form A) (read : Result A InputFault) : Type 0 where
  pub text : List ℕ
  pub told : HasText files name text
  pub short : length text ≤ form.limit
  pub reads : form.reads text ≡ read

-- The file is longer than the limit, and the fault says so.
pub record IsTooLong (files : Files) (name : List ℕ) (limit : ℕ) (fault : InputFault) : Type 0 where
  pub len : ℕ
  pub above : limit < len
  pub told : HasFile files name (λ bytes. len ≡ length bytes)
  pub says : fault ≡ faults.TooLong len

-- The file is refused with this fault: it is too long, or its text is wrong.
abbrev pub IsRefused : {A : Type 0} → Files → List ℕ → Form A → InputFault → Type 0
IsRefused files name form fault = IsTooLong files name form.limit fault ⊎ IsRead files name form (Err fault)

-- What a store did in a call: its count of faults before and after, and the name of the last call that failed.
pub record Count : Type 0 where
  pub before : ℕ
  pub now : ℕ
  pub last : List ℕ

abbrev pub since : ℕ → ℕ → List ℕ → Count
since before now last = record { before = before; now = now; last = last }

-- The file could not be read: the store counted a fault at this name, or its told files lack it.
abbrev pub IsUnread : Files → Count → List ℕ → Type 0
IsUnread files count name = Caused count.before count.now count.last name ⊎ Lacks files name

-- The fault is not that memory ran out.
abbrev pub IsNoMemory : InputFault → Type 0
IsNoMemory faults.Memory = ⊥
IsNoMemory fault = Unit {0}

-- What reading the file of a name as a kind of file answers.
abbrev pub ReadsForm : {A : Type 0} → Files → Count → List ℕ → Form A → Result A Stop → Type 0
ReadsForm files count name form (Ok tree) = IsRead files name form (Ok tree)
ReadsForm files count name form (Err (Input bad fault)) = (bad ≡ name) × IsRefused files name form fault × IsNoMemory fault
ReadsForm files count name form (Err (Unread bad)) = (bad ≡ name) × IsUnread files count name
ReadsForm files count name form (Err Memory) = Unit {0}

-- What reading the text of a name under a limit answers.
abbrev pub ReadsText : Files → Count → List ℕ → ℕ → Result (List ℕ) Stop → Type 0
ReadsText files count name limit (Ok text) = HasText files name text × (length text ≤ limit)
ReadsText files count name limit (Err (Input bad fault)) = (bad ≡ name) × IsTooLong files name limit fault
ReadsText files count name limit (Err (Unread bad)) = (bad ≡ name) × IsUnread files count name
ReadsText files count name limit (Err Memory) = Unit {0}

-- ---- one after the other

-- Reading one thing, and then another that depends on it: what stops the first, or the second after the first was read.
abbrev pub Then : {A B E : Type 0} → (Result A E → Type 0) → (A → Result B E → Type 0) → Result B E → Type 0
Then {A = A} First Second (Ok b) = (a : A) × First (Ok a) × Second a (Ok b)
Then {A = A} First Second (Err stop) = First (Err stop) ⊎ ((a : A) × First (Ok a) × Second a (Err stop))

-- This is given, and nothing is read.
abbrev pub Yields : {A E : Type 0} → A → Result A E → Type 0
Yields a (Ok b) = b ≡ a
Yields a (Err stop) = ⊥
