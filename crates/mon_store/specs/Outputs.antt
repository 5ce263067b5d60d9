-- What stands in a store once several files are written, or once the writing of them came to an end too soon. (docs/PROMISES.md)
use Rattle.std.specs.Prelude.{◌≡◌, ℕ, List, [], ◌∷◌, ◌++◌, Result, Ok, Err}
use Rattle.mon_store.specs.declared.outputs.Output.{Output}
use Rattle.mon_store.specs.declared.outputs.WriteFault.{WriteFault}
use Rattle.mon_store.specs.declared.outputs.WriteFault.TheVariants.{Failed, Memory}
use Rattle.mon_store.specs.Store.{Files, IsTorn, written}

-- the files once these are written, one after the other
abbrev pub all_written : Files → List Output → Files
all_written files [] = files
all_written files (output ∷ outputs) = all_written (written files output.name output.bytes) outputs

-- The writing came to an end at the output of this name: those before it are written, and it is as it was, or was written
-- with a front of its bytes.
pub record StopsAt (old : Files) (outputs : List Output) (name : List ℕ) (new : Files) : Type 0 where
  pub before : List Output
  pub output : Output
  pub later : List Output
  pub whole : outputs ≡ before ++ output ∷ later
  pub named : output.name ≡ name
  pub torn : IsTorn (all_written old before) new output.name output.bytes

-- What stands after the answer of a call that writes these.
abbrev pub Stands : {A : Type 0} → Files → List Output → Result A WriteFault → Files → Type 0
Stands old outputs (Ok done) new = new ≡ all_written old outputs
Stands old outputs (Err (Failed name)) new = StopsAt old outputs name new
Stands old outputs (Err Memory) new = (name : List ℕ) × StopsAt old outputs name new

-- The same of a call that writes one.
abbrev pub WritesOne : {A : Type 0} → Files → Output → Result A WriteFault → Files → Type 0
WritesOne old output (Ok done) new = new ≡ written old output.name output.bytes
WritesOne old output (Err (Failed name)) new = (output.name ≡ name) × IsTorn old new output.name output.bytes
WritesOne old output (Err Memory) new = IsTorn old new output.name output.bytes
