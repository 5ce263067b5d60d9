-- The words of the commands `gen` and `load`. (docs/COMMANDS.md)
use Rattle.std.specs.Prelude.{◌≡◌, ℕ, List, [], ◌∷◌, codes, decimal}
use Rattle.command_inputs.specs.declared.gen_words.GenWords.{GenWords}
use Rattle.command_inputs.specs.Counts.{IsCount, IsNumber}

-- the number of a program, how many classes of threads it has and how many sites each of them, and the folder that it goes to
pub record NamedGen : Type 0 where
  pub seed : ℕ
  pub classes : ℕ
  pub sites : ℕ
  pub folder : List ℕ

abbrev pub gen_named : GenWords → NamedGen
gen_named words = record { seed = words.seed; classes = words.classes; sites = words.sites; folder = words.folder.now }

-- The numbers are within their bounds.
pub record IsInBounds (named : NamedGen) : Type 0 where
  pub seed : IsNumber (decimal named.seed) named.seed
  pub classes : IsCount (decimal named.classes) 200 named.classes
  pub sites : IsCount (decimal named.sites) 500 named.sites

-- COMMAND SEED CLASSES SITES OUTDIR
pub record IsProgramOf (command : List ℕ) (words : List (List ℕ)) (named : NamedGen) : Type 0 where
  pub encoded : words ≡ command ∷ decimal named.seed ∷ decimal named.classes ∷ decimal named.sites ∷ named.folder ∷ []
  pub bounds : IsInBounds named

-- gen SEED CLASSES SITES OUTDIR
abbrev pub IsGen : List (List ℕ) → NamedGen → Type 0
IsGen words named = IsProgramOf (codes "gen") words named

-- load SEED CLASSES SITES OUTDIR
abbrev pub IsLoad : List (List ℕ) → NamedGen → Type 0
IsLoad words named = IsProgramOf (codes "load") words named
