-- The headline: a program that `check` accepts obeys the policy. (docs/PROMISES.md)
use Rattle.std.specs.Prelude.{◌≡◌, ℕ, List, Some, Ok, slice_get}
use Rattle.api_listing.specs.declared.types.Listing.{Listing}
use Rattle.api_listing.specs.Listing.{EncodesListing}
use Rattle.bytecode_model.specs.declared.program.Program.{Program}
use Rattle.bytecode_model.specs.declared.program.Side.TheVariants.{Inlined}
use Rattle.cert_checker.specs.Secure.{Secure}
use Rattle.cert_format.specs.declared.certificate.Mode.{Mode}
use Rattle.cert_format.specs.declared.certificate.Mode.TheVariants.{Hold, Release}
use Rattle.class_codec.specs.declared.tree.ClassFile.{ClassFile}
use Rattle.class_linking.specs.Linking.{linked}
use Rattle.command_inputs.specs.Words.{NamedCheck}
use Rattle.conspec_automaton.specs.Building.{built}
use Rattle.conspec_parse.specs.Meaning.{EncodesPolicy}
use Rattle.conspec_tree.specs.declared.types.PolicyTree.{PolicyTree}
use Rattle.command_inputs.specs.Encoded.{AreEncoded}
use Rattle.mon_store.specs.Store.{Files, HasFile}

-- the seventh byte of a certificate of this mode
abbrev pub mode_byte : Mode → ℕ
mode_byte Hold = 0
mode_byte Release = 1

-- The named files encode a listing, a policy over its methods, and class files. These link to a program, and for every list of guest
-- steps it obeys the policy, as the mode promises that the certificate names.
pub record Obeyed (files : Files) (named : NamedCheck) : Type 0 where
  pub listing : Listing
  pub listing_is : HasFile files named.listing (λ text. EncodesListing text listing)
  pub policy : PolicyTree
  pub policy_is : HasFile files named.policy (λ text. EncodesPolicy text listing policy)
  pub mode : Mode
  pub mode_is : HasFile files named.certificate (λ bytes. slice_get bytes 6 ≡ Some (mode_byte mode))
  pub classes : List ClassFile
  pub classes_are : AreEncoded files named.classes classes
  pub program : Program
  pub links : linked classes listing named.main Inlined ≡ Ok program
  pub obeys : Secure mode program (built policy)
