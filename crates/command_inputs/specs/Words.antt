-- The commands and their words. (docs/COMMANDS.md)
use Rattle.std.specs.Prelude.{◌≡◌, ◌≢◌, ℕ, List, [], ◌∷◌, codes, decimal}
use Rattle.std.specs.List.{AllByRecursion}
use Rattle.command_inputs.specs.declared.run_words.RunWords.{RunWords}
use Rattle.command_inputs.specs.declared.words.CheckWords.{CheckWords}
use Rattle.command_inputs.specs.declared.words.Command.{Command}
use Rattle.command_inputs.specs.declared.words.Command.TheVariants as commands
use Rattle.command_inputs.specs.declared.words.FileCommand.{FileCommand}
use Rattle.command_inputs.specs.declared.words.FileCommand.TheVariants as overs
use Rattle.command_inputs.specs.declared.words.PolicyWords.{PolicyWords}
use Rattle.command_inputs.specs.declared.words.RaceWords.{RaceWords}
use Rattle.command_inputs.specs.declared.words.ShowWords.{ShowWords}
use Rattle.command_inputs.specs.Counts.{IsCount}
use Rattle.command_inputs.specs.GenWords.{IsGen, IsLoad, NamedGen, gen_named}
use Rattle.command_inputs.specs.InlineWords.{IsInline, NamedInline, inline_named}
use Rattle.command_inputs.specs.LiftWords.{IsLift, NamedLift, lift_named}
use Rattle.command_inputs.specs.ReplayWords.{IsReplay, NamedReplay, replay_named}

-- the files of a check, and the name of its main class
pub record NamedCheck : Type 0 where
  pub policy : List ℕ
  pub listing : List ℕ
  pub certificate : List ℕ
  pub main : List ℕ
  pub classes : List (List ℕ)

-- the files that are shown
pub record NamedShow : Type 0 where
  pub listing : List ℕ
  pub classes : List (List ℕ)

-- the files of a policy, and of a run that is judged by it
pub record NamedPolicy : Type 0 where
  pub policy : List ℕ
  pub listing : List ℕ
  pub recorded : List ℕ

-- the files of a policy of which it is asked whether its events race
pub record NamedRace : Type 0 where
  pub policy : List ℕ
  pub listing : List ℕ

-- the files of a check of a program that is then run, by so many workers and in at most so many steps
pub record NamedRun : Type 0 where
  pub check : NamedCheck
  pub workers : ℕ
  pub budget : ℕ

pub data NamedCommand : Type 0 where
  Check : NamedCheck → NamedCommand
  Show : NamedShow → NamedCommand
  Policy : NamedPolicy → NamedCommand
  Race : NamedRace → NamedCommand
  Inline : NamedInline → NamedCommand
  Replay : NamedReplay → NamedCommand
  Lift : NamedLift → NamedCommand
  Gen : NamedGen → NamedCommand
  Load : NamedGen → NamedCommand
  Run : NamedRun → NamedCommand

abbrev pub check_named : CheckWords → NamedCheck
check_named words = record {
  policy = words.policy.now;
  listing = words.listing.now;
  certificate = words.certificate.now;
  main = words.main.now;
  classes = words.classes.now;
}

abbrev pub show_named : ShowWords → NamedShow
show_named words = record { listing = words.listing.now; classes = words.classes.now }

abbrev pub policy_named : PolicyWords → NamedPolicy
policy_named words = record { policy = words.policy.now; listing = words.listing.now; recorded = words.recorded.now }

abbrev pub race_named : RaceWords → NamedRace
race_named words = record { policy = words.policy.now; listing = words.listing.now }

abbrev pub run_named : RunWords → NamedRun
run_named words = record { check = check_named words.check; workers = words.workers; budget = words.budget }

abbrev pub files_named : FileCommand → NamedCommand
files_named (overs.Check words) = Check (check_named words)
files_named (overs.Show words) = Show (show_named words)
files_named (overs.Policy words) = Policy (policy_named words)
files_named (overs.Race words) = Race (race_named words)
files_named (overs.Inline words) = Inline (inline_named words)
files_named (overs.Replay words) = Replay (replay_named words)
files_named (overs.Lift words) = Lift (lift_named words)
files_named (overs.Gen words) = Gen (gen_named words)
files_named (overs.Load words) = Load (gen_named words)

abbrev pub named_by : Command → NamedCommand
named_by (commands.Files command) = files_named command
named_by (commands.Run words) = Run (run_named words)

-- The command runs nothing.
abbrev pub IsOverFiles : NamedCommand → Type 0
IsOverFiles (Check named) = Unit {0}
IsOverFiles (Show named) = Unit {0}
IsOverFiles (Policy named) = Unit {0}
IsOverFiles (Race named) = Unit {0}
IsOverFiles (Inline named) = Unit {0}
IsOverFiles (Replay named) = Unit {0}
IsOverFiles (Lift named) = Unit {0}
IsOverFiles (Gen named) = Unit {0}
IsOverFiles (Load named) = Unit {0}
IsOverFiles (Run named) = ⊥

-- check POLICY LISTING CERT MAIN CLASS..
pub record IsCheck (words : List (List ℕ)) (named : NamedCheck) : Type 0 where
  pub encoded : words ≡ codes "check" ∷ named.policy ∷ named.listing ∷ named.certificate ∷ named.main ∷ named.classes
  pub some : named.classes ≢ []

-- show LISTING CLASS..
pub record IsShow (words : List (List ℕ)) (named : NamedShow) : Type 0 where
  pub encoded : words ≡ codes "show" ∷ named.listing ∷ named.classes
  pub some : named.classes ≢ []

-- policy POLICY LISTING RECORD
pub record IsPolicyCommand (words : List (List ℕ)) (named : NamedPolicy) : Type 0 where
  pub encoded : words ≡ codes "policy" ∷ named.policy ∷ named.listing ∷ named.recorded ∷ []

-- race POLICY LISTING
pub record IsRace (words : List (List ℕ)) (named : NamedRace) : Type 0 where
  pub encoded : words ≡ codes "race" ∷ named.policy ∷ named.listing ∷ []

-- run POLICY LISTING CERT MAIN WORKERS BUDGET CLASS..
pub record IsRunCommand (words : List (List ℕ)) (named : NamedRun) : Type 0 where
  pub encoded : words
      ≡ codes "run" ∷ named.check.policy ∷ named.check.listing ∷ named.check.certificate ∷ named.check.main ∷ decimal named.workers
      ∷ decimal named.budget ∷ named.check.classes
  pub some : named.check.classes ≢ []
  pub workers : IsCount (decimal named.workers) 64 named.workers
  pub budget : IsCount (decimal named.budget) 1000000 named.budget

abbrev pub Encodes : List (List ℕ) → NamedCommand → Type 0
Encodes words (Check named) = IsCheck words named
Encodes words (Show named) = IsShow words named
Encodes words (Policy named) = IsPolicyCommand words named
Encodes words (Race named) = IsRace words named
Encodes words (Inline named) = IsInline words named
Encodes words (Replay named) = IsReplay words named
Encodes words (Lift named) = IsLift words named
Encodes words (Gen named) = IsGen words named
Encodes words (Load named) = IsLoad words named
Encodes words (Run named) = IsRunCommand words named

-- The words are those of the command, and none of them is empty.
pub record IsCommand (words : List (List ℕ)) (named : NamedCommand) : Type 0 where
  pub encoded : Encodes words named
  pub full : AllByRecursion (λ word. word ≢ []) words
