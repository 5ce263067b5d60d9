-- The words of the command `inline`. (docs/COMMANDS.md)
use Rattle.std.specs.Prelude.{◌≡◌, ◌≢◌, ℕ, List, [], ◌∷◌, codes}
use Rattle.command_inputs.specs.declared.inline_words.InlineWords.{InlineWords}
use Rattle.command_inputs.specs.declared.inline_words.Weaving.{Weaving}
use Rattle.command_inputs.specs.declared.inline_words.Weaving.TheVariants.{Auto, Hold, Release}

-- the files of which a program is woven, the name of its main class, the folder that the outputs go to, and the blocks
pub record NamedInline : Type 0 where
  pub policy : List ℕ
  pub listing : List ℕ
  pub main : List ℕ
  pub folder : List ℕ
  pub weaving : Weaving
  pub classes : List (List ℕ)

abbrev pub inline_named : InlineWords → NamedInline
inline_named words = record {
  policy = words.policy.now;
  listing = words.listing.now;
  main = words.main.now;
  folder = words.folder.now;
  weaving = words.weaving;
  classes = words.classes.now;
}

abbrev pub weaving_word : Weaving → List ℕ
weaving_word Auto = codes "auto"
weaving_word Hold = codes "hold"
weaving_word Release = codes "release"

-- inline POLICY LISTING MAIN OUTDIR MODE CLASS..
pub record IsInline (words : List (List ℕ)) (named : NamedInline) : Type 0 where
  pub encoded : words ≡ codes "inline" ∷ named.policy ∷ named.listing ∷ named.main ∷ named.folder ∷ weaving_word named.weaving ∷ named.classes
  pub some : named.classes ≢ []
