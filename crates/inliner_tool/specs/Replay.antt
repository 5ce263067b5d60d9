-- What the command `replay` tells of a recorded run. (docs/COMMANDS.md)
use Rattle.std.specs.Prelude.{◌≡◌, ℕ, List, length, Option, Some, None, Result, Ok, Err}
use Rattle.bytecode_model.specs.declared.program.Program.{Program}
use Rattle.bytecode_model.specs.declared.program.Side.TheVariants.{Inlined}
use Rattle.cert_format.specs.declared.typing.Typing.{Typing}
use Rattle.command_inputs.specs.ReplayWords.{NamedReplay}
use Rattle.event_record.specs.declared.writing.EndLine.{EndLine}
use Rattle.event_record.specs.declared.writing.EndLine.TheVariants as lines
use Rattle.event_record.specs.Writing.{events_text}
use Rattle.guest_model.specs.declared.machine.End.{End}
use Rattle.guest_model.specs.declared.machine.End.TheVariants as ends
use Rattle.guest_model.specs.declared.machine.Step.{Step as GuestStep}
use Rattle.guest_model.specs.Ending.{end_of}
use Rattle.guest_replay.specs.declared.replaying.Replayed.{Replayed}
use Rattle.guest_replay.specs.declared.replaying.ReplayFault.{ReplayFault}
use Rattle.guest_replay.specs.declared.replaying.ReplayFault.TheVariants as faults
use Rattle.guest_replay.specs.Replaying.{replayed}
use Rattle.command_inputs.specs.declared.replay_inputs.ReplayInputs.{ReplayInputs}
use Rattle.command_inputs.specs.Forms.{Then}
use Rattle.command_inputs.specs.ReplayInputs.{ReadsReplay}
use Rattle.inliner_tool.specs.declared.answer.Answer.TheVariants as answers
use Rattle.inliner_tool.specs.declared.answer.Made.{Made}
use Rattle.inliner_tool.specs.declared.refusal.Ended.{Ended}
use Rattle.inliner_tool.specs.declared.refusal.Ended.TheVariants.{Refused, Memory}
use Rattle.inliner_tool.specs.declared.refusal.Refusal.TheVariants as refusals
use Rattle.inliner_tool.specs.Programs.{Types, program_of}
use Rattle.inliner_tool.specs.Running.{RunsTyped}
use Rattle.inliner_tool.specs.Seen.{Seen}
use Rattle.inliner_tool.specs.Steps.{Equals, Just, Step}

-- ---- a run

-- how a record tells the end, or that there was none
abbrev pub end_told : Option End → EndLine
end_told None = lines.Running
end_told (Some ends.Finished) = lines.Finished
end_told (Some ends.Deadlock) = lines.Deadlock
end_told (Some (ends.Stopped value)) = lines.Stopped value

-- the lines of the events of a run of so many steps, and its end line
abbrev pub run_text : Program → ℕ → Replayed → List ℕ
run_text program count run = events_text program.listing run.events (end_told (end_of program run.machine)) count

-- why no run is told
abbrev pub replay_end : ReplayFault → Ended
replay_end (faults.NotEnabled index) = Refused (refusals.NotEnabled index)
replay_end faults.Memory = Memory

abbrev pub run_told : Program → ℕ → Result Replayed ReplayFault → Step (List ℕ)
run_told program count (Ok run) = Ok (run_text program count run)
run_told program count (Err fault) = Err (replay_end fault)

-- what is told of the run that these steps are
abbrev pub steps_told : Program → List GuestStep → Step (List ℕ)
steps_told program steps = run_told program (length steps) (replayed program steps)

-- ---- the steps

abbrev pub link_run : List ℕ → ReplayInputs → Step Program
link_run main inputs = program_of inputs.listing inputs.classes main Inlined

-- The class files link, as those that were woven, to a program; it is typed; and its run is told. These are all steps, each
-- after the one above it: the first that fails is the answer.
abbrev pub Tells : List ℕ → ReplayInputs → Step (List ℕ) → Type 0
Tells main inputs =
    Then (Equals (link_run main inputs)) (λ program.
    Then (Types program) (λ typing.
    Equals (steps_told program inputs.recorded.steps)))

-- The run is told.
abbrev pub Replays : List ℕ → ReplayInputs → Step Made → Type 0
Replays main inputs =
    Then (Tells main inputs) (λ text.
    Just (answers.Replayed text))

-- ---- the run

-- The inputs link to a program that runs as some types say.
pub record InputsRun (main : List ℕ) (inputs : ReplayInputs) : Type 0 where
  pub program : Program
  pub links : link_run main inputs ≡ Ok program
  pub typing : Typing
  pub runs : RunsTyped program typing

-- The named files link to such a program.
pub record ReplayedRuns (seen : Seen) (named : NamedReplay) : Type 0 where
  pub inputs : ReplayInputs
  pub read : ReadsReplay seen.old seen.count named (Ok inputs)
  pub run : InputsRun named.main inputs
