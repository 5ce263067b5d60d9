-- What the files of a check encode, as far as the store tells them. (docs/PROMISES.md)
use Rattle.std.specs.Prelude.{ℕ, List, [], ◌∷◌, length}
use Rattle.api_listing.specs.Listing.{EncodesListing}
use Rattle.cert_format.specs.Fits.{EncodesCertificate}
use Rattle.class_codec.specs.declared.tree.ClassFile.{ClassFile}
use Rattle.class_codec.specs.Fits.{EncodesClass}
use Rattle.command_inputs.specs.Words.{NamedCheck}
use Rattle.conspec_parse.specs.Meaning.{EncodesPolicy}
use Rattle.mon_store.specs.Store.{Files, HasFile}
use Rattle.command_inputs.specs.declared.check_inputs.CheckInputs.{CheckInputs}
use Rattle.command_inputs.specs.declared.race_inputs.RaceInputs.{RaceInputs}

-- The files of these names encode these class files.
abbrev pub AreEncoded : Files → List (List ℕ) → List ClassFile → Type 0
AreEncoded files [] [] = Unit {0}
AreEncoded files [] (class ∷ classes) = ⊥
AreEncoded files (name ∷ names) [] = ⊥
AreEncoded files (name ∷ names) (class ∷ classes) = HasFile files name (λ bytes. EncodesClass bytes class) × AreEncoded files names classes

-- The files of these names encode the listing, and the policy over it.
pub record PolicyEncoded (files : Files) (listing policy : List ℕ) (inputs : RaceInputs) : Type 0 where
  pub listed : HasFile files listing (λ text. EncodesListing text inputs.listing)
  pub told : HasFile files policy (λ text. EncodesPolicy text inputs.listing inputs.policy)

-- The files encode the inputs: the listing, the policy over it, the certificate for its variables, and the class files.
pub record CheckEncoded (files : Files) (named : NamedCheck) (inputs : CheckInputs) : Type 0 where
  pub listing : HasFile files named.listing (λ text. EncodesListing text inputs.listing)
  pub policy : HasFile files named.policy (λ text. EncodesPolicy text inputs.listing inputs.policy)
  pub certificate : HasFile files named.certificate (λ bytes. EncodesCertificate bytes (length inputs.policy.vars) inputs.certificate)
  pub classes : AreEncoded files named.classes inputs.classes.files
