-- What a store tells of its files, what a call does to them, and when a call has a fault to show for its failure.
-- (docs/PROMISES.md)
use Rattle.std.specs.Prelude.{◌≡◌, ◌⊎◌, ◌<◌, ◌≤◌, ◌+◌, ◌-◌, ◌^◌, min, ℕ, List, ◌++◌, length, take, drop, Option, Some, None, IfSome, IsSomeAnd, bytes_eq, if◌then◌else◌}

-- The files of a store: None where it does not tell them, else the bytes of each name, None where it has no such file.
abbrev pub Files : Type 0
Files = Option (List ℕ → Option (List ℕ))

-- A count of faults rose. At the top of the 64 bits that an adapter keeps it in, it counts as risen.
abbrev pub Rose : ℕ → ℕ → Type 0
Rose before now = (before < now) ⊎ (2 ^ 64 ≤ now + 1)

-- One fault or call more, in 64 bits.
abbrev pub one_more : ℕ → ℕ
one_more n = min (n + 1) (2 ^ 64 - 1)

-- What an adapter that tells no files is seen as: how many faults there were, and the name of the last call that had one.
pub record Counts : Type 0 where
  pub faults : ℕ
  pub last : List ℕ

-- A fault was counted in this call, and the last name counted is this call's.
pub record Caused (before now : ℕ) (last name : List ℕ) : Type 0 where
  pub rose : Rose before now
  pub named : last ≡ name

-- Where the files are told, there is one of this name, and this is so of its bytes.
abbrev pub HasFile : Files → List ℕ → (List ℕ → Type 0) → Type 0
HasFile None name P = Unit {0}
HasFile (Some told) name P = IsSomeAnd (told name) P

-- Where the files are told and one has this name, this is so of its bytes.
abbrev pub OfFile : Files → List ℕ → (List ℕ → Type 0) → Type 0
OfFile None name P = Unit {0}
OfFile (Some told) name P = IfSome (told name) P

-- The files are told, and none has this name.
abbrev pub Lacks : Files → List ℕ → Type 0
Lacks None name = ⊥
Lacks (Some told) name = told name ≡ None

-- This many bytes of a file from this place stand at the front of the buffer; none only at the file's end.
pub record Copies (bytes : List ℕ) (at count : ℕ) (into : List ℕ) : Type 0 where
  pub same : take count into ≡ take count (drop at bytes)
  pub within : count ≤ length bytes - at
  pub some : at < length bytes → 0 < length into → 0 < count

-- The files once this one is written: its bytes are these, and each other name has what it had.
abbrev pub written : Files → List ℕ → List ℕ → Files
written None name bytes = None
written (Some told) name bytes = Some (λ other. if bytes_eq name other then Some bytes else told other)

-- These bytes are the front of those: none of them, some or all.
pub record IsFrontOf (front bytes : List ℕ) : Type 0 where
  pub rest : List ℕ
  pub whole : front ++ rest ≡ bytes

-- A write that came to an end too soon: the files are the old ones, or this one was written with a front of the bytes.
abbrev pub IsTorn : Files → Files → List ℕ → List ℕ → Type 0
IsTorn old new name bytes = (new ≡ old) ⊎ ((front : List ℕ) × (IsFrontOf front bytes) × (new ≡ written old name front))
