-- The words of the command `replay`. (docs/COMMANDS.md)
use Rattle.std.specs.Prelude.{◌≡◌, ◌≢◌, ℕ, List, [], ◌∷◌, codes}
use Rattle.command_inputs.specs.declared.replay_words.ReplayWords.{ReplayWords}

-- the files of a program and of a run of it, and the name of its main class
pub record NamedReplay : Type 0 where
  pub listing : List ℕ
  pub main : List ℕ
  pub recorded : List ℕ
  pub classes : List (List ℕ)

abbrev pub replay_named : ReplayWords → NamedReplay
replay_named words = record { listing = words.listing.now; main = words.main.now; recorded = words.recorded.now; classes = words.classes.now }

-- replay LISTING MAIN RECORD CLASS..
pub record IsReplay (words : List (List ℕ)) (named : NamedReplay) : Type 0 where
  pub encoded : words ≡ codes "replay" ∷ named.listing ∷ named.main ∷ named.recorded ∷ named.classes
  pub some : named.classes ≢ []
