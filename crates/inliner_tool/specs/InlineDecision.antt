-- That `inline` weaves: of files in their grammars and limits that link to a program with types, a policy that is woven in this mode,
-- and sizes that fit, everything is written, or the certificate is too long, unless memory runs out. (docs/COMMANDS.md)
use Rattle.std.specs.Prelude.{◌≡◌, ℕ, Ok, Err, IsSome}
use Rattle.api_listing.specs.declared.types.Listing.{Listing}
use Rattle.bytecode_model.specs.declared.program.Program.{Program}
use Rattle.block_template.specs.Blocks.{plan_of}
use Rattle.cert_checker.specs.declared.checking.Accepted.{Accepted}
use Rattle.cert_format.specs.declared.certificate.Mode.{Mode}
use Rattle.class_weaving.specs.declared.woven.Woven.{Woven}
use Rattle.class_weaving.specs.Woven.{woven}
use Rattle.command_inputs.specs.InlineWords.{NamedInline}
use Rattle.command_inputs.specs.Words.{Inline}
use Rattle.conspec_automaton.specs.Building.{built}
use Rattle.conspec_tree.specs.declared.types.PolicyTree.{PolicyTree}
use Rattle.mon_store.specs.Store.{Files, Rose}
use Rattle.command_inputs.specs.declared.named.ReadClasses.{ReadClasses as Classes}
use Rattle.command_inputs.specs.Forms.{IsRead}
use Rattle.command_inputs.specs.Kinds.{listing_form, policy_form}
use Rattle.command_inputs.specs.Named.{AreClasses}
use Rattle.type_infer.specs.Untyped.{IsTypable}
use Rattle.inliner_tool.specs.declared.answer.Answer.TheVariants as answers
use Rattle.inliner_tool.specs.declared.refusal.Refusal.TheVariants as refusals
use Rattle.inliner_tool.specs.Seen.{Seen}
use Rattle.inliner_tool.specs.Steps.{Outcome, outcome_step}
use Rattle.inliner_tool.specs.Writing.{CarriesOut}
use Rattle.inliner_tool.specs.Weaving.{mode_for, original}

-- The files are told, and those of these names are a listing, a policy over it and class files, in their grammars and limits; the
-- class files link to a program with types; the policy is woven in this mode; and the sizes of what is woven fit.
pub record NamesWoven (files : Files) (named : NamedInline) : Type 0 where
  pub told : IsSome files
  pub listing : Listing
  pub listing_read : IsRead files named.listing listing_form (Ok listing)
  pub policy : PolicyTree
  pub policy_read : IsRead files named.policy (policy_form listing) (Ok policy)
  pub classes : Classes
  pub classes_read : AreClasses files named.classes classes.files classes.total
  pub client : Program
  pub links : original listing classes named.main ≡ Ok client
  pub typable : IsTypable client
  pub mode : Mode
  pub chosen : mode_for named.weaving policy client.listing ≡ Ok mode
  pub made : Woven
  pub fits : woven client (plan_of (built policy) mode) (built policy).vars ≡ Ok made

-- Everything is written, or a certificate is too long: the statuses 0 and 4.
abbrev pub IsWeaving : Outcome → Type 0
IsWeaving (Ok answer) = (accepted : Accepted) × (classes : ℕ) × (answer ≡ answers.Inlined accepted classes)
IsWeaving (Err refusal) = (value : ℕ) × (refusal ≡ refusals.LongCertificate value)

-- What `inline` comes to over such files, without a fault of the store, is such an outcome.
abbrev pub InlineDecides : Type 0
InlineDecides =
    (seen : Seen) (named : NamedInline) (outcome : Outcome) → CarriesOut seen (Inline named) (outcome_step outcome)
    → (Rose seen.count.before seen.count.now → ⊥) → NamesWoven seen.old named → IsWeaving outcome
