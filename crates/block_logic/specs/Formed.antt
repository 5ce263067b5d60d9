-- What is known of the runs of a program that is typed: its events are well formed, and its numbers are of 32 bits. (docs/CERTIFICATES.md)
use Rattle.std.specs.Prelude.{◌≡◌, false, List}
use Rattle.std.specs.List.{AllByRecursion}
use Rattle.api_listing.specs.declared.events.Event.{Event}
use Rattle.bytecode_model.specs.declared.program.Program.{Program}
use Rattle.block_logic.specs.Annotations.{is_always}
use Rattle.block_logic.specs.declared.held_calls.HeldCalls.{HeldCalls}
use Rattle.conspec_automaton.specs.declared.policy.Policy.{Policy}
use Rattle.conspec_automaton.specs.Events.{IsWellFormed}
use Rattle.guest_model.specs.declared.machine.Step.{Step}
use Rattle.guest_model.specs.Numbers.{KeepsWords}
use Rattle.guest_model.specs.Runs.{trace}

pub record RunsAreFormed (program : Program) (policy : Policy) : Type 0 where
  pub events : (steps : List Step) → AllByRecursion (IsWellFormed policy) (trace program steps)
  pub words : KeepsWords program

-- Where the lock is not held round each call, the event is well formed if runs are.
abbrev pub FitsRuns : Program → Policy → HeldCalls → Event → Type 0
FitsRuns program policy held event = is_always held ≡ false → RunsAreFormed program policy → IsWellFormed policy event
