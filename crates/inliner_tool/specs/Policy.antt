-- What a policy says of the events of a run. (docs/COMMANDS.md)
use Rattle.std.specs.Prelude.{length}
use Rattle.std.specs.List.{AllByRecursion}
use Rattle.api_listing.specs.declared.types.Listing.{Listing}
use Rattle.conspec_automaton.specs.declared.policy.Policy.{Policy}
use Rattle.conspec_automaton.specs.Building.{built}
use Rattle.conspec_automaton.specs.Sound.{IsPolicy, NamesMethods}
use Rattle.conspec_automaton.specs.Verdict.{verdict as judged}
use Rattle.inliner_tool.specs.declared.answer.Answer.TheVariants as answers
use Rattle.inliner_tool.specs.declared.answer.Made.{Made}
use Rattle.inliner_tool.specs.Steps.{Just, Step}
use Rattle.command_inputs.specs.declared.policy_inputs.PolicyInputs.{PolicyInputs}
use Rattle.typed_runs.specs.Formed.{TellsTypes}

-- The events of the run are judged.
abbrev pub Judges : PolicyInputs → Step Made → Type 0
Judges inputs = Just (answers.Judged (judged (built inputs.policy) inputs.recorded.events))

-- What is known of a policy that was read over a listing.
pub record IsSoundFor (listing : Listing) (policy : Policy) : Type 0 where
  pub read : IsPolicy policy
  pub named : NamesMethods (length listing.methods) policy
  pub told : AllByRecursion (TellsTypes listing) policy.clauses
