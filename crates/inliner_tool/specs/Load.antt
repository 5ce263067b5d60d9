-- What the command `load` makes: a program from a number, and of it what `inline` makes. It reads no file. (docs/GENERATED.md)
use Rattle.std.specs.Prelude.{◌≡◌, ◌*◌, length, Result, Ok, Err}
use Rattle.mon_base.specs.Reading.{◌>>=◌}
use Rattle.bundle_gen.specs.declared.bundle.Bundle.{Bundle}
use Rattle.bundle_gen.specs.Generated.{main_name}
use Rattle.bundle_gen.specs.Sizes.{bytes_of}
use Rattle.command_inputs.specs.declared.fault.InputFault.{InputFault}
use Rattle.command_inputs.specs.declared.inline_inputs.InlineInputs.{InlineInputs}
use Rattle.command_inputs.specs.declared.inline_words.Weaving.TheVariants.{Auto}
use Rattle.command_inputs.specs.Forms.{Then, Yields}
use Rattle.command_inputs.specs.GenWords.{NamedGen}
use Rattle.command_inputs.specs.RaceInputs.{texts_read}
use Rattle.inliner_tool.specs.declared.answer.Answer.TheVariants as answers
use Rattle.inliner_tool.specs.declared.answer.Made.{Made}
use Rattle.inliner_tool.specs.declared.inline.Ready.{Ready}
use Rattle.inliner_tool.specs.Generate.{bundle_of}
use Rattle.inliner_tool.specs.Inline.{IsWovenInto}
use Rattle.inliner_tool.specs.Seen.{Seen}
use Rattle.inliner_tool.specs.Steps.{Step}
use Rattle.inliner_tool.specs.Weaving.{IsPlanned, Plans}

-- ---- the steps

-- the bundle as what a program is woven of: what its texts are read as, and its class files
abbrev pub bundle_inputs : Bundle → Result InlineInputs InputFault
bundle_inputs bundle = do
  texts ← texts_read bundle.listing bundle.policy
  Ok (record { listing = texts.listing; policy = texts.policy; classes = record { files = bundle.files; total = bytes_of bundle.files } })

-- It is always read: a command does not end there.
abbrev pub IsBundled : Bundle → Step InlineInputs → Type 0
IsBundled bundle (Ok inputs) = bundle_inputs bundle ≡ Ok inputs
IsBundled bundle (Err ended) = ⊥

-- What is written, and then answered: how many class files and sites there were, before the program was woven, and the mode.
abbrev pub loaded_made : NamedGen → Ready → Made
loaded_made named ready = record {
  answer = answers.Loaded ready.accepted (length (bundle_of named).files) (named.classes * named.sites);
  outputs = ready.outputs;
}

-- The program of the words is woven in the mode that its policy allows.
abbrev pub Loads : NamedGen → Step Made → Type 0
Loads named =
    Then (IsBundled (bundle_of named)) (λ inputs.
    Then (Plans main_name named.folder Auto inputs) (λ ready.
    Yields (loaded_made named ready)))

-- ---- done

-- What the weaving of its policy makes of the program of the words is written.
pub record IsLoaded (seen : Seen) (named : NamedGen) : Type 0 where
  pub inputs : InlineInputs
  pub bundled : bundle_inputs (bundle_of named) ≡ Ok inputs
  pub woven : IsWovenInto seen main_name named.folder Auto inputs

-- The same before it is written.
pub record IsReadyToLoad (named : NamedGen) (made : Made) : Type 0 where
  pub inputs : InlineInputs
  pub bundled : bundle_inputs (bundle_of named) ≡ Ok inputs
  pub ready : Ready
  pub planned : IsPlanned main_name named.folder Auto inputs ready
  pub is : made ≡ loaded_made named ready
