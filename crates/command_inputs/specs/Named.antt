-- What the files of names are, and the first of them that is wrong. (docs/COMMANDS.md)
use Rattle.std.specs.Prelude.{◌≡◌, ℕ, ◌+◌, ◌-◌, ◌^◌, min, List, [], ◌∷◌, ◌++◌, Result, Ok, Err}
use Rattle.mon_store.specs.Store.{Files}
use Rattle.api_listing.specs.declared.types.Listing.{Listing}
use Rattle.api_listing.specs.Listing.{EncodesListing}
use Rattle.class_codec.specs.declared.tree.ClassFile.{ClassFile}
use Rattle.command_inputs.specs.declared.fault.InputFault.{InputFault}
use Rattle.command_inputs.specs.declared.files.Stop.{Stop}
use Rattle.command_inputs.specs.declared.files.Stop.TheVariants.{Input, Unread, Memory}
use Rattle.conspec_tree.specs.declared.types.PolicyTree.{PolicyTree}
use Rattle.conspec_parse.specs.Meaning.{EncodesPolicy}
use Rattle.conspec_tree.specs.Tree.{IsPolicyTree}
use Rattle.command_inputs.specs.declared.named.ReadClasses.{ReadClasses as Classes}
use Rattle.command_inputs.specs.Forms.{Count, Form, IsNoMemory, IsRead, ReadsForm, Then, Yields}
use Rattle.command_inputs.specs.Kinds.{class_form}

-- ---- class files

-- a sum, as far as 64 bits tell it
abbrev pub told_sum : ℕ → ℕ → ℕ
told_sum a b = min (a + b) (2 ^ 64 - 1)

-- The files of these names are these class files, with so many bytes in all.
abbrev pub AreClasses : Files → List (List ℕ) → List ClassFile → ℕ → Type 0
AreClasses files [] [] total = total ≡ 0
AreClasses files [] (class ∷ classes) total = ⊥
AreClasses files (name ∷ names) [] total = ⊥
AreClasses files (name ∷ names) (class ∷ classes) total =
    (len : ℕ) × (rest : ℕ) × (total ≡ told_sum len rest) × IsRead files name class_form (Ok (record { file = class; len = len })) × AreClasses files names classes rest

-- The first file at which the reading of class files stops: those before it are class files.
pub record StopsAmong (files : Files) (count : Count) (names : List (List ℕ)) (stop : Stop) : Type 0 where
  pub before : List (List ℕ)
  pub name : List ℕ
  pub later : List (List ℕ)
  pub classes : List ClassFile
  pub total : ℕ
  pub whole : names ≡ before ++ name ∷ later
  pub read : AreClasses files before classes total
  pub stops : ReadsForm files count name class_form (Err stop)

abbrev pub ReadsClasses : Files → Count → List (List ℕ) → Result Classes Stop → Type 0
ReadsClasses files count names (Ok classes) = AreClasses files names classes.files classes.total
ReadsClasses files count names (Err Memory) = Unit {0}
ReadsClasses files count names (Err stop) = StopsAmong files count names stop

-- one more file, and then class files
abbrev pub ReadsBefore : {A : Type 0} → Files → Count → List ℕ → Form A → List (List ℕ) → Result (A × Classes) Stop → Type 0
ReadsBefore files count name form names =
    Then (ReadsForm files count name form) (λ a.
    Then (ReadsClasses files count names) (λ classes.
    Yields (a, classes)))

-- ---- how calls report

-- What was read from the text of a name, or that it was refused.
abbrev pub IsOfName : {A : Type 0} → List ℕ → Result A InputFault → Result A Stop → Type 0
IsOfName name read (Ok tree) = read ≡ Ok tree
IsOfName name read (Err (Input bad fault)) = (bad ≡ name) × (read ≡ Err fault) × IsNoMemory fault
IsOfName name read (Err (Unread bad)) = ⊥
IsOfName name read (Err Memory) = Unit {0}

-- Some text encodes the listing.
pub record IsListed (listing : Listing) : Type 0 where
  pub text : List ℕ
  pub encodes : EncodesListing text listing

-- Some text encodes the policy, over the listing.
pub record IsPolicyOf (listing : Listing) (tree : PolicyTree) : Type 0 where
  pub text : List ℕ
  pub encodes : EncodesPolicy text listing tree
  pub sound : IsPolicyTree listing tree
