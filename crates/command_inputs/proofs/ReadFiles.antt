-- Reading the file of a name as a kind of file.
use Rattle.std.proofs.Common.{◌≤◌, ℕ, List, Err, inl, inr, ⊎_elim}
use Rattle.mon_store.specs.Store.{Files}
use Rattle.mon_store.proofs.StoreLaws.{Caused-since}
use Rattle.command_inputs.specs.declared.files.Stop.{Stop}
use Rattle.command_inputs.specs.declared.files.Stop.TheVariants.{Input, Unread, Memory}
use Rattle.command_inputs.specs.Forms.{Form, Count, IsUnread, ReadsForm}

-- ---- since an earlier call

-- a call of the store, and the calls since the first
abbrev pub counted : ℕ → ℕ → List ℕ → Count
counted before now last = record { before = before; now = now; last = last }

-- a file that was not read in a later call was not read since an earlier one
pub unread_before : (files : Files) (first begun now : ℕ) (last name : List ℕ) → first ≤ begun → IsUnread files (counted begun now last) name → IsUnread files (counted first now last) name
unread_before files first begun now last name le unread =
    ⊎_elim (λ h. inl (Caused-since first begun now last name le h)) (λ h. inr h) unread

-- A file at which a later call stopped is one at which the calls since the first stopped.
pub stops_since : {A : Type 0} (files : Files) (form : Form A) (name : List ℕ) (first begun now : ℕ) (last : List ℕ) (stop : Stop) → first ≤ begun
    → ReadsForm files (counted begun now last) name form (Err stop) → ReadsForm files (counted first now last) name form (Err stop)
stops_since files form name first begun now last (Input bad fault) le stops = stops
stops_since files form name first begun now last (Unread bad) le stops = (stops.0, unread_before files first begun now last name le stops.1)
stops_since files form name first begun now last Memory le stops = tt
