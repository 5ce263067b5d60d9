-- That `race` decides: to a listing and a policy in their grammars and limits it answers yes or no, unless memory runs out.
-- (docs/COMMANDS.md)
use Rattle.std.specs.Prelude.{◌≡◌, ◌⊎◌, Ok, IsSome}
use Rattle.api_listing.specs.declared.types.Listing.{Listing}
use Rattle.conspec_tree.specs.declared.types.PolicyTree.{PolicyTree}
use Rattle.mon_store.specs.Store.{Files, Rose}
use Rattle.command_inputs.specs.Words.{NamedRace, Race}
use Rattle.command_inputs.specs.Forms.{IsRead}
use Rattle.command_inputs.specs.Kinds.{listing_form, policy_form}
use Rattle.inliner_tool.specs.declared.tool.Status.{Status}
use Rattle.inliner_tool.specs.declared.tool.Status.TheVariants as statuses
use Rattle.inliner_tool.specs.Seen.{Seen}
use Rattle.inliner_tool.specs.Steps.{Outcome, outcome_step}
use Rattle.inliner_tool.specs.Tool.{status_of}
use Rattle.inliner_tool.specs.Writing.{CarriesOut}

-- The files are told, and those of these names are a listing and a policy over it, in their grammars and limits.
pub record NamesPolicy (files : Files) (named : NamedRace) : Type 0 where
  pub told : IsSome files
  pub listing : Listing
  pub listing_read : IsRead files named.listing listing_form (Ok listing)
  pub policy : PolicyTree
  pub policy_read : IsRead files named.policy (policy_form listing) (Ok policy)

-- 0 or 1: yes or no.
abbrev pub IsDecision : Status → Type 0
IsDecision status = (status ≡ statuses.Done) ⊎ (status ≡ statuses.Denied)

-- What `race` comes to over such files, without a fault of the store, is a decision.
abbrev pub RaceDecides : Type 0
RaceDecides =
    (seen : Seen) (named : NamedRace) (outcome : Outcome) → CarriesOut seen (Race named) (outcome_step outcome)
    → (Rose seen.count.before seen.count.now → ⊥) → NamesPolicy seen.old named → IsDecision (status_of outcome)
