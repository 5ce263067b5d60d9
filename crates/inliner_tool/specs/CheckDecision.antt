-- That `check` decides: of files in their grammars and limits that link it answers yes or no, unless memory runs out. (docs/COMMANDS.md)
use Rattle.std.specs.Prelude.{◌≡◌, length, Ok, IsSome}
use Rattle.api_listing.specs.declared.types.Listing.{Listing}
use Rattle.bytecode_model.specs.declared.program.Program.{Program}
use Rattle.bytecode_model.specs.declared.program.Side.TheVariants.{Inlined}
use Rattle.cert_format.specs.declared.certificate.Certificate.{Certificate}
use Rattle.command_inputs.specs.Words.{Check, NamedCheck}
use Rattle.conspec_tree.specs.declared.types.PolicyTree.{PolicyTree}
use Rattle.mon_store.specs.Store.{Files, Rose}
use Rattle.command_inputs.specs.declared.named.ReadClasses.{ReadClasses as Classes}
use Rattle.command_inputs.specs.Forms.{IsRead}
use Rattle.command_inputs.specs.Kinds.{certificate_form, listing_form, policy_form}
use Rattle.command_inputs.specs.Named.{AreClasses}
use Rattle.inliner_tool.specs.Decision.{IsDecision}
use Rattle.inliner_tool.specs.Programs.{program_of}
use Rattle.inliner_tool.specs.Seen.{Seen}
use Rattle.inliner_tool.specs.Steps.{Outcome, outcome_step}
use Rattle.inliner_tool.specs.Tool.{status_of}
use Rattle.inliner_tool.specs.Writing.{CarriesOut}

-- The files are told, and those of these names are a listing, a policy over it, a certificate for its variables and class files, in
-- their grammars and limits; and the class files link.
pub record NamesChecked (files : Files) (named : NamedCheck) : Type 0 where
  pub told : IsSome files
  pub listing : Listing
  pub listing_read : IsRead files named.listing listing_form (Ok listing)
  pub policy : PolicyTree
  pub policy_read : IsRead files named.policy (policy_form listing) (Ok policy)
  pub certificate : Certificate
  pub certificate_read : IsRead files named.certificate (certificate_form (length policy.vars)) (Ok certificate)
  pub classes : Classes
  pub classes_read : AreClasses files named.classes classes.files classes.total
  pub program : Program
  pub links : program_of listing classes named.main Inlined ≡ Ok program

-- What `check` comes to over such files, without a fault of the store, is a decision.
abbrev pub CheckDecides : Type 0
CheckDecides =
    (seen : Seen) (named : NamedCheck) (outcome : Outcome) → CarriesOut seen (Check named) (outcome_step outcome)
    → (Rose seen.count.before seen.count.now → ⊥) → NamesChecked seen.old named → IsDecision (status_of outcome)
