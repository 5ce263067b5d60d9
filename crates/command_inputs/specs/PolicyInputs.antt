-- What the files of a policy and of a run are. (docs/COMMANDS.md)
use Rattle.std.specs.Prelude.{Result}
use Rattle.mon_store.specs.Store.{Files}
use Rattle.api_listing.specs.declared.types.Listing.{Listing}
use Rattle.conspec_tree.specs.declared.types.PolicyTree.{PolicyTree}
use Rattle.conspec_tree.specs.Tree.{IsPolicyTree}
use Rattle.command_inputs.specs.declared.files.Stop.{Stop}
use Rattle.command_inputs.specs.Forms.{Count, ReadsForm, Then, Yields}
use Rattle.command_inputs.specs.Kinds.{listing_form, policy_form, record_form}
use Rattle.command_inputs.specs.declared.policy_inputs.PolicyInputs.{PolicyInputs}
use Rattle.command_inputs.specs.Words.{NamedPolicy}

-- listing, policy, record
abbrev pub ReadsPolicy : Files → Count → NamedPolicy → Result PolicyInputs Stop → Type 0
ReadsPolicy files count named =
    Then (ReadsForm files count named.listing listing_form) (λ listing.
    Then (ReadsForm files count named.policy (policy_form listing)) (λ policy.
    Then (ReadsForm files count named.recorded (record_form listing)) (λ recorded.
    Yields (record { policy = policy; recorded = recorded }))))

-- The policy was read over some listing.
pub record IsOfListing (policy : PolicyTree) : Type 0 where
  pub listing : Listing
  pub sound : IsPolicyTree listing policy
