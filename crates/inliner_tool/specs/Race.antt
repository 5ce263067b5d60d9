-- Whether the events of a policy race, and a state and events that show it. (docs/COMMANDS.md)
use Rattle.std.specs.Prelude.{ℕ, Option, Result, Ok, Err}
use Rattle.api_listing.specs.declared.events.Event.{Event}
use Rattle.api_listing.specs.declared.types.Listing.{Listing}
use Rattle.conspec_automaton.specs.declared.state.State.{State}
use Rattle.conspec_automaton.specs.Building.{built}
use Rattle.conspec_tree.specs.declared.types.PolicyTree.{PolicyTree}
use Rattle.command_inputs.specs.Forms.{Then}
use Rattle.command_inputs.specs.declared.race_inputs.RaceInputs.{RaceInputs}
use Rattle.inliner_tool.specs.declared.answer.Answer.TheVariants as answers
use Rattle.inliner_tool.specs.declared.answer.Made.{Made}
use Rattle.inliner_tool.specs.declared.refusal.Ended.{Ended}
use Rattle.inliner_tool.specs.declared.refusal.Ended.TheVariants as ends
use Rattle.inliner_tool.specs.declared.refusal.Refusal.{Refusal}
use Rattle.inliner_tool.specs.declared.refusal.Refusal.TheVariants as refusals
use Rattle.inliner_tool.specs.Steps.{Equals, Just, Step}
use Rattle.command_outputs.specs.Example.{example_text}
use Rattle.race_free_check.specs.declared.fault.RaceFault.{RaceFault}
use Rattle.race_free_check.specs.declared.fault.RaceFault.TheVariants as faults
use Rattle.race_free_check.specs.declared.verdict.RaceVerdict.{RaceVerdict}
use Rattle.race_free_check.specs.declared.verdict.RaceVerdict.TheVariants as verdicts
use Rattle.race_free_check.specs.Deciding.{decided}

-- that the condition of this number is broken, as the state and the events show
abbrev pub racy : PolicyTree → Listing → ℕ → State → Event → Option Event → Refusal
racy policy listing condition state first second = refusals.Racy condition (example_text policy listing state first second)

-- why it is not decided
abbrev pub undecided : RaceFault → Ended
undecided (faults.CellLimit first second count) = ends.Refused (refusals.CellLimit first second count)
undecided faults.Memory = ends.Memory

-- that the policy is race-free, or why it is denied
abbrev pub race_step : PolicyTree → Listing → Result RaceVerdict RaceFault → Step (Unit {0})
race_step policy listing (Ok verdicts.Free) = Ok tt
race_step policy listing (Ok (verdicts.Racy condition state first second)) = Err (ends.Refused (racy policy listing condition state first second))
race_step policy listing (Err fault) = Err (undecided fault)

-- The policy is race-free.
abbrev pub Races : RaceInputs → Step Made → Type 0
Races inputs =
    Then (Equals (race_step inputs.policy inputs.listing (decided (built inputs.policy)))) (λ free.
    Just answers.RaceFree)
