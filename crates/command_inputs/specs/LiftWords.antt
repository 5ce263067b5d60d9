-- The words of the command `lift`. (docs/COMMANDS.md)
use Rattle.std.specs.Prelude.{◌≡◌, ◌≢◌, ℕ, List, [], ◌∷◌, codes}
use Rattle.command_inputs.specs.declared.lift_words.LiftWords.{LiftWords}

-- the files of a program, of a policy and of a run of the program, and the name of its main class
pub record NamedLift : Type 0 where
  pub policy : List ℕ
  pub listing : List ℕ
  pub main : List ℕ
  pub recorded : List ℕ
  pub classes : List (List ℕ)

abbrev pub lift_named : LiftWords → NamedLift
lift_named words = record {
  policy = words.policy.now;
  listing = words.listing.now;
  main = words.main.now;
  recorded = words.recorded.now;
  classes = words.classes.now;
}

-- lift POLICY LISTING MAIN RECORD CLASS..
pub record IsLift (words : List (List ℕ)) (named : NamedLift) : Type 0 where
  pub encoded : words ≡ codes "lift" ∷ named.policy ∷ named.listing ∷ named.main ∷ named.recorded ∷ named.classes
  pub some : named.classes ≢ []
