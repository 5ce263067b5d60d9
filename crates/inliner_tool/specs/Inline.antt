-- What the command `inline` makes of its inputs, and what stands in the store once it is done. (docs/COMMANDS.md)
use Rattle.std.specs.Prelude.{◌≡◌, ℕ, List, Ok}
use Rattle.command_inputs.specs.InlineWords.{NamedInline}
use Rattle.command_inputs.specs.declared.inline_inputs.InlineInputs.{InlineInputs}
use Rattle.command_inputs.specs.declared.inline_words.Weaving.{Weaving}
use Rattle.command_inputs.specs.Forms.{Then, Yields}
use Rattle.command_inputs.specs.InlineInputs.{ReadsInline}
use Rattle.mon_store.specs.Outputs.{all_written}
use Rattle.inliner_tool.specs.declared.answer.Answer.TheVariants as answers
use Rattle.inliner_tool.specs.declared.answer.Made.{Made}
use Rattle.inliner_tool.specs.declared.inline.Ready.{Ready}
use Rattle.inliner_tool.specs.Seen.{Seen}
use Rattle.inliner_tool.specs.Steps.{Step}
use Rattle.inliner_tool.specs.Weaving.{IsPlanned, Plans}

-- ---- the steps

-- what is written, and then answered
abbrev pub ready_made : Ready → Made
ready_made ready = record { answer = answers.Inlined ready.accepted ready.classes; outputs = ready.outputs }

-- The program is woven.
abbrev pub Inlines : NamedInline → InlineInputs → Step Made → Type 0
Inlines named inputs =
    Then (Plans named.main named.folder named.weaving inputs) (λ ready.
    Yields (ready_made ready))

-- ---- done

-- What the weaving of the inputs makes, in this mode, is written into the folder, class by class, and after it a certificate, with
-- which it is accepted.
pub record IsWovenInto (seen : Seen) (main folder : List ℕ) (weaving : Weaving) (inputs : InlineInputs) : Type 0 where
  pub ready : Ready
  pub planned : IsPlanned main folder weaving inputs ready
  pub written : seen.new ≡ all_written seen.old ready.outputs

-- The files that are named link to a program, and what the weaving of the policy makes of it is written so.
pub record IsInlined (seen : Seen) (named : NamedInline) : Type 0 where
  pub inputs : InlineInputs
  pub read : ReadsInline seen.old seen.count named (Ok inputs)
  pub woven : IsWovenInto seen named.main named.folder named.weaving inputs

-- The same before it is written.
pub record IsReadyToWrite (seen : Seen) (named : NamedInline) (made : Made) : Type 0 where
  pub inputs : InlineInputs
  pub read : ReadsInline seen.old seen.count named (Ok inputs)
  pub ready : Ready
  pub planned : IsPlanned named.main named.folder named.weaving inputs ready
  pub is : made ≡ ready_made ready
