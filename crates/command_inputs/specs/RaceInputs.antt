-- What the files of a policy by itself are. (docs/COMMANDS.md)
use Rattle.std.specs.Prelude.{◌≤◌, ℕ, List, length, Result, Ok}
use Rattle.mon_base.specs.Reading.{◌>>=◌}
use Rattle.mon_store.specs.Store.{Files}
use Rattle.api_listing.specs.Listing.{IsFew}
use Rattle.command_inputs.specs.declared.fault.InputFault.{InputFault}
use Rattle.command_inputs.specs.declared.files.Stop.{Stop}
use Rattle.command_inputs.specs.declared.race_inputs.RaceInputs.{RaceInputs}
use Rattle.command_inputs.specs.Forms.{Count, ReadsForm, Then, Yields}
use Rattle.command_inputs.specs.Kinds.{listing_form, policy_form}
use Rattle.command_inputs.specs.Named.{IsListed, IsPolicyOf}
use Rattle.command_inputs.specs.Words.{NamedRace}

-- listing, policy
abbrev pub ReadsRace : Files → Count → NamedRace → Result RaceInputs Stop → Type 0
ReadsRace files count named =
    Then (ReadsForm files count named.listing listing_form) (λ listing.
    Then (ReadsForm files count named.policy (policy_form listing)) (λ policy.
    Yields (record { listing = listing; policy = policy })))

-- what two texts are read as: a listing, and a policy over it
abbrev pub texts_read : List ℕ → List ℕ → Result RaceInputs InputFault
texts_read listing policy = do
  listed ← listing_form.reads listing
  tree ← (policy_form listed).reads policy
  Ok (record { listing = listed; policy = tree })

-- What is known of a listing and a policy that were read.
pub record RaceSound (inputs : RaceInputs) : Type 0 where
  pub listing : IsFew inputs.listing
  pub listed : IsListed inputs.listing
  pub policy : IsPolicyOf inputs.listing inputs.policy
  pub vars : length inputs.policy.vars ≤ 16
