-- What is so of the text that was read of a file is so of the file.
use Rattle.std.proofs.Common.{◌≡◌, ℕ, List, Option, Some, None, Result, Ok, Err, subst}
use Rattle.std.specs.Prelude.{IfOk, IsSomeAnd}
use Rattle.mon_store.specs.Store.{Files, HasFile}
use Rattle.command_inputs.specs.declared.fault.InputFault.{InputFault}
use Rattle.command_inputs.specs.declared.files.Stop.{Stop}
use Rattle.command_inputs.specs.Forms.{HasText}
use Rattle.command_inputs.specs.Named.{IsOfName}

some_so : (P : List ℕ → Type 0) (o : Option (List ℕ)) (text : List ℕ) → IsSomeAnd o (λ bytes. text ≡ bytes) → P text → IsSomeAnd o P
some_so P None text told so = told
some_so P (Some bytes) text told so = subst P told so

pub file_so_told : (P : List ℕ → Type 0) (files : Files) (name text : List ℕ) → HasText files name text → P text → HasFile files name P
file_so_told P None name text told so = tt
file_so_told P (Some known) name text told so = some_so P (known name) text told so

-- What is so of what was read of the text is so of what was read of the file.
pub named_so : {A : Type 0} (P : List ℕ → A → Type 0) (files : Files) (name text : List ℕ) (read : Result A InputFault) (result : Result A Stop) → HasText files name text → IsOfName name read result
    → IfOk read (P text) → IfOk result (λ (a : A). HasFile files name (λ bytes. P bytes a))
named_so P files name text read (Ok tree) told is so = file_so_told (λ bytes. P bytes tree) files name text told (subst (λ (r : Result _ InputFault). IfOk r (P text)) is so)
named_so P files name text read (Err stop) told is so = tt
