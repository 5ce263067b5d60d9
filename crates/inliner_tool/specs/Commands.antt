-- What each command makes of its words and the files that they name: one chain of steps for each, of which the first that fails ends it.
-- (docs/COMMANDS.md)
use Rattle.std.specs.Prelude.{◌≡◌, Result}
use Rattle.command_inputs.specs.InlineWords.{NamedInline}
use Rattle.command_inputs.specs.LiftWords.{NamedLift}
use Rattle.command_inputs.specs.ReplayWords.{NamedReplay}
use Rattle.command_inputs.specs.Words.{Check, Gen, Inline, Lift, Load, NamedCheck, NamedCommand, NamedPolicy, NamedRace, NamedShow, Policy, Race, Replay, Run, Show}
use Rattle.command_inputs.specs.declared.check_inputs.CheckInputs.{CheckInputs}
use Rattle.command_inputs.specs.declared.files.Stop.{Stop}
use Rattle.command_inputs.specs.declared.inline_inputs.InlineInputs.{InlineInputs}
use Rattle.command_inputs.specs.declared.lift_inputs.LiftInputs.{LiftInputs}
use Rattle.command_inputs.specs.declared.policy_inputs.PolicyInputs.{PolicyInputs}
use Rattle.command_inputs.specs.declared.race_inputs.RaceInputs.{RaceInputs}
use Rattle.command_inputs.specs.declared.replay_inputs.ReplayInputs.{ReplayInputs}
use Rattle.command_inputs.specs.declared.show_inputs.ShowInputs.{ShowInputs}
use Rattle.command_inputs.specs.CheckInputs.{ReadsCheck}
use Rattle.command_inputs.specs.Contents.{Contents, check_read, inline_read, lift_read, policy_read, race_read, replay_read, show_read}
use Rattle.command_inputs.specs.Forms.{Then}
use Rattle.command_inputs.specs.InlineInputs.{ReadsInline}
use Rattle.command_inputs.specs.LiftInputs.{ReadsLift}
use Rattle.command_inputs.specs.PolicyInputs.{ReadsPolicy}
use Rattle.command_inputs.specs.RaceInputs.{ReadsRace}
use Rattle.command_inputs.specs.ReplayInputs.{ReadsReplay}
use Rattle.command_inputs.specs.ShowInputs.{ReadsShow}
use Rattle.inliner_tool.specs.declared.answer.Made.{Made}
use Rattle.inliner_tool.specs.Check.{Checks}
use Rattle.inliner_tool.specs.Generate.{Generates}
use Rattle.inliner_tool.specs.Inline.{Inlines}
use Rattle.inliner_tool.specs.Lift.{Lifts}
use Rattle.inliner_tool.specs.Load.{Loads}
use Rattle.inliner_tool.specs.Policy.{Judges}
use Rattle.inliner_tool.specs.Race.{Races}
use Rattle.inliner_tool.specs.Replay.{Replays}
use Rattle.inliner_tool.specs.Run.{Runs}
use Rattle.inliner_tool.specs.Seen.{Seen}
use Rattle.inliner_tool.specs.Show.{Shows}
use Rattle.inliner_tool.specs.Steps.{Reading, Step}

-- ---- the files

-- What the reading of the files of each command may give.
pub record Readings : Type 1 where
  pub check : NamedCheck → Result CheckInputs Stop → Type 0
  pub show : NamedShow → Result ShowInputs Stop → Type 0
  pub policy : NamedPolicy → Result PolicyInputs Stop → Type 0
  pub race : NamedRace → Result RaceInputs Stop → Type 0
  pub inline : NamedInline → Result InlineInputs Stop → Type 0
  pub replay : NamedReplay → Result ReplayInputs Stop → Type 0
  pub lift : NamedLift → Result LiftInputs Stop → Type 0

-- as far as a store tells its files, and with the faults that it has
abbrev pub readings_of : Seen → Readings
readings_of seen = record {
  check = ReadsCheck seen.old seen.count;
  show = ReadsShow seen.old seen.count;
  policy = ReadsPolicy seen.old seen.count;
  race = ReadsRace seen.old seen.count;
  inline = ReadsInline seen.old seen.count;
  replay = ReadsReplay seen.old seen.count;
  lift = ReadsLift seen.old seen.count;
}

-- of files that are told, without a fault
abbrev pub readings_in : Contents → Readings
readings_in contents = record {
  check = λ named read. read ≡ check_read contents named;
  show = λ named read. read ≡ show_read contents named;
  policy = λ named read. read ≡ policy_read contents named;
  race = λ named read. read ≡ race_read contents named;
  inline = λ named read. read ≡ inline_read contents named;
  replay = λ named read. read ≡ replay_read contents named;
  lift = λ named read. read ≡ lift_read contents named;
}

-- ---- the commands

-- The files of the command are read, and it makes this of what they are; `gen` and `load` have none.
abbrev pub Makes : Readings → NamedCommand → Step Made → Type 0
Makes reads (Check named) = Then (Reading (reads.check named)) (Checks named.main)
Makes reads (Show named) = Then (Reading (reads.show named)) Shows
Makes reads (Policy named) = Then (Reading (reads.policy named)) Judges
Makes reads (Race named) = Then (Reading (reads.race named)) Races
Makes reads (Inline named) = Then (Reading (reads.inline named)) (Inlines named)
Makes reads (Replay named) = Then (Reading (reads.replay named)) (Replays named.main)
Makes reads (Lift named) = Then (Reading (reads.lift named)) (Lifts named.main)
Makes reads (Gen named) = Generates named
Makes reads (Load named) = Loads named
Makes reads (Run named) = Then (Reading (reads.check named.check)) (Runs named)
