-- What the command `gen` makes: the files of a program that is made from a number. It reads none. (docs/GENERATED.md)
use Rattle.std.specs.Prelude.{◌≡◌, ◌*◌, length}
use Rattle.bundle_gen.specs.declared.bundle.Bundle.{Bundle}
use Rattle.bundle_gen.specs.Generated.{generated}
use Rattle.bundle_gen.specs.Sizes.{bytes_of}
use Rattle.command_inputs.specs.GenWords.{NamedGen}
use Rattle.command_inputs.specs.Forms.{Yields}
use Rattle.mon_store.specs.Outputs.{all_written}
use Rattle.command_outputs.specs.Generated.{generated_outputs}
use Rattle.inliner_tool.specs.declared.answer.Answer.TheVariants as answers
use Rattle.inliner_tool.specs.declared.answer.Made.{Made}
use Rattle.inliner_tool.specs.Seen.{Seen}
use Rattle.inliner_tool.specs.Steps.{Step}

-- the program of the words
abbrev pub bundle_of : NamedGen → Bundle
bundle_of named = generated named.seed named.classes named.sites

-- What is written, and then answered: how many class files there are, and how many sites and bytes they have in all.
abbrev pub generated_made : NamedGen → Made
generated_made named = record {
  answer = answers.Generated (length (bundle_of named).files) (named.classes * named.sites) (bytes_of (bundle_of named).files);
  outputs = generated_outputs named.folder (bundle_of named);
}

-- This is made, whatever the store has.
abbrev pub Generates : NamedGen → Step Made → Type 0
Generates named = Yields (generated_made named)

-- The files of the program are written: its classes, its listing and its policy.
pub record IsGenerated (seen : Seen) (named : NamedGen) : Type 0 where
  pub written : seen.new ≡ all_written seen.old (generated_outputs named.folder (bundle_of named))
