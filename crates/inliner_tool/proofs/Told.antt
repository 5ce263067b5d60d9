-- What is read of files that the store tells, without a fault.
use Rattle.std.proofs.Common.{◌≡◌, ◌⊎◌, inl, inr, ℕ, List, length, ◌≤◌, Option, Some, None, Result, Ok, Err, refl, sym, ap, subst, ◌∙◌, arith, ⊎_elim}
use Rattle.std.specs.Prelude.{IsSome, IsSomeAnd}
use Rattle.mon_store.specs.Store.{Files, HasFile, Lacks, Rose}
use Rattle.command_inputs.specs.declared.fault.InputFault.{InputFault}
use Rattle.command_inputs.specs.declared.files.Stop.{Stop}
use Rattle.command_inputs.specs.declared.files.Stop.TheVariants as stops
use Rattle.command_inputs.specs.declared.fault.InputFault.TheVariants as faults
use Rattle.command_inputs.specs.Forms.{Count, Form, HasText, IsNoMemory, IsRead, IsRefused, IsTooLong, IsUnread, ReadsForm}

-- ---- a file that is told and read

-- the bytes of a file, of which two things are told
record Both (P Q : List ℕ → Type 0) : Type 0 where
  pub bytes : List ℕ
  pub first : P bytes
  pub second : Q bytes

both_some : (P Q : List ℕ → Type 0) (o : Option (List ℕ)) → IsSomeAnd o P → IsSomeAnd o Q → Both P Q
both_some P Q None p q = absurd p
both_some P Q (Some bytes) p q = record { bytes = bytes; first = p; second = q }

both_told : (P Q : List ℕ → Type 0) (files : Files) (name : List ℕ) → IsSome files → HasFile files name P → HasFile files name Q → Both P Q
both_told P Q None name told p q = absurd cc
both_told P Q (Some known) name told p q = both_some P Q (known name) p q

some_lacks : (P : List ℕ → Type 0) (o : Option (List ℕ)) → IsSomeAnd o P → o ≡ None → ⊥
some_lacks P None p e = p
some_lacks P (Some bytes) p e = absurd cc

told_lacks : (P : List ℕ → Type 0) (files : Files) (name : List ℕ) → HasFile files name P → Lacks files name → ⊥
told_lacks P None name p lacks = lacks
told_lacks P (Some known) name p lacks = some_lacks P (known name) p lacks

-- The file of this name is not too long, and its text is read as this tree, or for want of memory as none.
pub record MayRead {A : Type 0} (files : Files) (name : List ℕ) (form : Form A) (tree : A) : Type 0 where
  pub text : List ℕ
  pub told : HasText files name text
  pub short : length text ≤ form.limit
  pub reads : (form.reads text ≡ Ok tree) ⊎ (form.reads text ≡ Err faults.Memory)

pub may_read : {A : Type 0} (files : Files) (name : List ℕ) (form : Form A) (tree : A) → IsRead files name form (Ok tree) → MayRead files name form tree
may_read files name form tree read = record { text = read.text; told = read.told; short = read.short; reads = inl read.reads }

module _ {A : Type 0} (files : Files) (count : Count) (name : List ℕ) (form : Form A) (tree : A) (told : IsSome files) (read : MayRead files name form tree) (no_rise : Rose count.before count.now → ⊥) where
  -- what else the file is read as is the same
  read_once : (answer : Result A InputFault) → IsRead files name form answer → (answer ≡ Ok tree) ⊎ (answer ≡ Err faults.Memory)
  read_once answer other =
      let both = both_told (λ bytes. read.text ≡ bytes) (λ bytes. other.text ≡ bytes) files name told read.told other.told in
      let same : other.text ≡ read.text = both.second ∙ sym both.first in
      let is : answer ≡ form.reads read.text = sym other.reads ∙ ap form.reads same in
      ⊎_elim (λ h. inl (is ∙ h)) (λ h. inr (is ∙ h)) read.reads

  pub tree_once : (other : A) → ReadsForm files count name form (Ok other) → other ≡ tree
  tree_once other is = by (read_once (Ok other) is) where
    by : ◌≡◌ {A = Result A InputFault} (Ok other) (Ok tree) ⊎ ◌≡◌ {A = Result A InputFault} (Ok other) (Err faults.Memory) → other ≡ tree
    by (inl e) = cc
    by (inr e) = absurd cc

  not_long : (fault : InputFault) → IsTooLong files name form.limit fault → ⊥
  not_long fault long =
      let both = both_told (λ bytes. read.text ≡ bytes) (λ bytes. long.len ≡ length bytes) files name told read.told long.told in
      let same : long.len ≡ length read.text = both.second ∙ ap length (sym both.first) in
      let short = read.short in
      let above = long.above in
      absurd (omega arith)

  not_refused : (fault : InputFault) → IsNoMemory fault → IsRefused files name form fault → ⊥
  not_refused fault other (inl long) = not_long fault long
  not_refused fault other (inr wrong) = by (read_once (Err fault) wrong) where
    by : ◌≡◌ {A = Result A InputFault} (Err fault) (Ok tree) ⊎ ◌≡◌ {A = Result A InputFault} (Err fault) (Err faults.Memory) → ⊥
    by (inl e) = absurd cc
    by (inr e) =
        let same : fault ≡ faults.Memory = cc in
        subst IsNoMemory same other

  not_unread : IsUnread files count name → ⊥
  not_unread (inl caused) = no_rise caused.rose
  not_unread (inr lacks) = told_lacks (λ bytes. read.text ≡ bytes) files name read.told lacks

  -- only memory stops the reading of it
  pub stops_once : (stop : Stop) → ReadsForm files count name form (Err stop) → stop ≡ stops.Memory
  stops_once (stops.Input bad fault) is = absurd (not_refused fault is.2 is.1)
  stops_once (stops.Unread bad) is = absurd (not_unread is.1)
  stops_once stops.Memory is = refl
